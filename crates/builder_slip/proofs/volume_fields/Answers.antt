-- `builder_slip::volume_fields` meets its contract: all fields before the one at `at` are volume fields. Assumes
-- nothing.
use mathlib.Core.Path.{refl, ◌∙◌}
use native.Mathlib.Omega.{arith}
use Rattle.builder_slip.proofs.Laws.{none_more, count_is, next_start, first_start, short_none, no_end, ended}
use Rattle.builder_slip.proofs.volume_fields.Goals as goal

pub returns-then-slip-lt-HEAD_SIZE : goal.returns-then-slip-lt-HEAD_SIZE
returns-then-slip-lt-HEAD_SIZE c =
    let s = c.args.slip.now in
    let e = short_none s (omega arith) in
    record { count = e; end = rw (← e) (first_start s) }

pub loop-end-init : goal.loop-end-init
loop-end-init c =
    record { starts = first_start c.args.slip.now; within = omega arith; apart = omega arith; volumes = refl }

pub loop-end-smaller : goal.loop-end-smaller
loop-end-smaller c =
    let e = ended c.args.slip.now c.loop-end.at c.in-Some.ensures in omega arith

pub loop-end-preserved : goal.loop-end-preserved
loop-end-preserved c =
    let l = c.loop-end in
    let s = c.args.slip.now in
    let e = ended s l.at c.in-Some.ensures in
    let i = l.invariant in
    record {
      starts = e.end_is ∙ rw i.starts (next_start s l.count);
      within = e.held;
      apart = omega arith;
      volumes = none_more s l.count i.volumes (rw i.starts at e.there);
    }

pub returns : goal.returns
returns c =
    let l = c.loop-end in
    let s = c.args.slip.now in
    let no = no_end s l.at c.in_default.ensures in
    let e = count_is s l.count (omega arith) l.invariant.volumes (rw l.invariant.starts at no) in
    record { count = e; end = rw (← e) l.invariant.starts }
