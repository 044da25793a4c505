-- `volume_table::table::table_good` meets its contract: one broken rule is enough. Assumes nothing.
use mathlib.Core.Path.{sym, ◌∙◌}
use borrow.Author.Tests.{leb-true, leb-false}
use Rattle.std.specs.Prelude.{Some}
use native.Mathlib.Omega.{arith}
use Rattle.volume_table.proofs.Tables.{count_small, all_there, no_records, too_short, not_fine, too_many}
use Rattle.volume_table.proofs.Tables.{Summed, too_much_lem, names_decide}
use Rattle.volume_table.proofs.table.table_good.Goals as goal
use Rattle.volume_table.proofs.table.table_good.Goals.{then-sum-le-MOST_AUTORESIZE, else-sum-le-MOST_AUTORESIZE}

pub returns-then-n-eq0 : goal.returns-then-n-eq0
returns-then-n-eq0 c =
    let a = c.args in
    no_records a.leb_size a.unit a.peb_count a.content.now c.record_count-n.ensures c.if-n-eq0.true

pub overflow_mul-n : goal.overflow_mul-n
overflow_mul-n c = omega (arith, count_small c.args.leb_size)

pub returns-then-content-n : goal.returns-then-content-n
returns-then-content-n c =
    let a = c.args in
    too_short a.leb_size a.unit a.peb_count a.content.now c.record_count-n.ensures c.if-content-n.true

pub tally-requires : goal.tally-requires
tally-requires c =
    let a = c.args in
    let w = all_there a.leb_size a.content.now c.record_count-n.ensures c.records_part-t.ensures c.if-content-n.false in
    (omega (arith, count_small a.leb_size), (w, c.empty_record-empty.ensures))

pub returns-in_default : goal.returns-in_default
returns-in_default c =
    let a = c.args in
    not_fine a.leb_size a.unit a.peb_count a.content.now
    (record { count = c.record_count-n.ensures; records = c.records_part-t.ensures; sums = c.in_default.ensures })

pub names_differ-requires : goal.names_differ-requires
names_differ-requires c =
    let a = c.args in
    let w = all_there a.leb_size a.content.now c.record_count-n.ensures c.records_part-t.ensures c.if-content-n.false in
    (omega (arith, count_small a.leb_size), (w, c.empty_record-empty.ensures))

pub returns-then-sum-most_reserved : goal.returns-then-sum-most_reserved
returns-then-sum-most_reserved c =
    let a = c.args in
    let w = all_there a.leb_size a.content.now c.record_count-n.ensures c.records_part-t.ensures c.if-content-n.false in
    let s : Summed a.leb_size a.unit a.content.now c.record_count-n.result c.records_part-t.result.now
    (Some c.in-Some.sum) =
    record { count = c.record_count-n.ensures; records = c.records_part-t.ensures; sums = c.in-Some.ensures } in
    elim c.if-sum-le-MOST_AUTORESIZE.branch [
      | then-sum-le-MOST_AUTORESIZE x ↦
          names_decide a.leb_size a.unit a.peb_count a.content.now s c.if-n-eq0.false w x.if-sum-le-MOST_AUTORESIZE.true
          (rw x.most_reserved.ensures at (leb-true _ _ (sym x.value-is ∙ c.if-sum-most_reserved.true)))
          c.names_differ.ensures
      | else-sum-le-MOST_AUTORESIZE x ↦
          absurd (omega (arith, leb-true _ _ (sym x.value-is ∙ c.if-sum-most_reserved.true)))
    ]

pub returns-else-sum-most_reserved : goal.returns-else-sum-most_reserved
returns-else-sum-most_reserved c =
    let a = c.args in
    let s : Summed a.leb_size a.unit a.content.now c.record_count-n.result c.records_part-t.result.now
    (Some c.in-Some.sum) =
    record { count = c.record_count-n.ensures; records = c.records_part-t.ensures; sums = c.in-Some.ensures } in
    c.if-sum-most_reserved.false
    ∙ elim c.if-sum-le-MOST_AUTORESIZE.branch [
      | then-sum-le-MOST_AUTORESIZE x ↦
          too_much_lem a.leb_size a.unit a.peb_count a.content.now s
          (rw x.most_reserved.ensures at (leb-false _ _ (sym x.value-is ∙ c.if-sum-most_reserved.false)))
      | else-sum-le-MOST_AUTORESIZE x ↦
          too_many a.leb_size a.unit a.peb_count a.content.now s x.if-sum-le-MOST_AUTORESIZE.false
    ]
