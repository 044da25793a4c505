-- `crc32::fold::in_blocks` meets its contract. Assumes nothing.
use Rattle.crc32.proofs.Pending.{cleared}
use lib.ListN.{length, take, length-drop}
use lib.Seq.{length-take-le}
use Rattle.base.proofs.Lists.{to_end_lem}
use Rattle.crc32.specs.Crc.{crc_from}
use native.Mathlib.Omega.{arith}
use mathlib.Core.Path.{◌≡◌, ap₂, ◌∙◌}
use Rattle.crc32.proofs.fold.in_blocks.Goals as goal

pub reduce-requires : goal.reduce-requires
reduce-requires c =
    let b = c.loop-i.kept in let d = c.clear in
    let h : length (take 137 b) ≡ 137 = length-take-le 137 b (omega arith) in (
      c.requires.0,
      (
        d.ensures.0,
        (
          (cleared (take 137 b) (take 222 d.new.kept) h d.ensures.1).0,
          rw (to_end_lem, length-drop)
              (omega arith),
        ),
      ),
    )

pub returns : goal.returns
returns c =
    let l = c.loop-i in let s = c.args.bytes.now in let d = c.clear in
    let h : length (take 137 l.kept) ≡ 137 = length-take-le 137 l.kept (omega arith) in
    c.reduce.ensures ∙ ap₂ crc_from (cleared (take 137 l.kept) (take 222 d.new.kept) h d.ensures.1).1
    (to_end_lem l.i s) ∙ l.invariant.1.1
