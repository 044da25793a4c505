-- `volumes::state::volume_state` meets its contract. Assumes nothing.
use Rattle.volumes.proofs.Words.{table_long, entries_there}
use Rattle.volumes.proofs.States.{state_none, state_marked, state_faulty, state_dynamic, state_static}
use Rattle.volumes.proofs.state.volume_state.Goals as goal
use Rattle.volumes.proofs.state.volume_state.Goals.{else-r-eq-STATIC-via-then-r-eq-STATIC+else-lacks_leb, else-r-eq-STATIC-via-else-r-eq-STATIC}

pub record_numbers-requires : goal.record_numbers-requires
record_numbers-requires c =
    let p = c.requires in (table_long p.0.sorted, p.1)

pub returns-in_default : goal.returns-in_default
returns-in_default c =
    let p = c.requires in
    state_none p.0 p.1 c.in_default.ensures

pub returns-then-r-eq1 : goal.returns-then-r-eq1
returns-then-r-eq1 c =
    let p = c.requires in
    let r = c.in-Some.ensures in
    state_marked p.0 p.1 r.0 r.1 c.if-r-eq1.true

pub any_faulty-requires : goal.any_faulty-requires
any_faulty-requires c =
    entries_there c.requires.0.sorted

pub returns-then-any_faulty : goal.returns-then-any_faulty
returns-then-any_faulty c =
    let p = c.requires in
    let r = c.in-Some.ensures in
    state_faulty p.0 p.1 r.0 r.1 c.if-r-eq1.false c.asks_crc.ensures c.any_faulty.ensures c.if-any_faulty.true

pub lacks_leb-requires : goal.lacks_leb-requires
lacks_leb-requires c =
    entries_there c.requires.0.sorted

pub returns-then-lacks_leb : goal.returns-then-lacks_leb
returns-then-lacks_leb c =
    let p = c.requires in
    let r = c.in-Some.ensures in
    state_static p.0 p.1 r.0 r.1 c.if-r-eq1.false c.asks_crc.ensures c.any_faulty.ensures c.if-any_faulty.false
    c.if-r-eq-STATIC.true c.lacks_leb.ensures c.if-lacks_leb.true

pub returns : goal.returns
returns c =
    let p = c.requires in
    let r = c.in-Some.ensures in
    elim c.else-r-eq-STATIC.branch [
      | else-r-eq-STATIC-via-then-r-eq-STATIC+else-lacks_leb w ↦
          state_static p.0 p.1 r.0 r.1 c.if-r-eq1.false c.asks_crc.ensures c.any_faulty.ensures c.if-any_faulty.false
          w.if-r-eq-STATIC.true w.lacks_leb.ensures w.if-lacks_leb.false
      | else-r-eq-STATIC-via-else-r-eq-STATIC w ↦
          state_dynamic p.0 p.1 r.0 r.1 c.if-r-eq1.false c.asks_crc.ensures c.any_faulty.ensures c.if-any_faulty.false
          w.if-r-eq-STATIC.false
    ]
