-- `crc32::fold::slide` meets its contract. Assumes nothing.
use mathlib.Core.Path.{◌≡◌}
use native.Mathlib.Nat.{add-sub_cancel_left}
use native.Mathlib.Omega.{arith}
use lib.ListN.{drop, length-drop}
use lib.Seq.{paste, take-paste}
use Rattle.crc32.proofs.fold.slide.Goals as goal

pub returns : goal.returns
returns c =
    let n = c.args.n in
    let b = c.args.kept.now in
    let k : c.copy_within.new.self ≡ paste b 0 (drop n b) 137 = rw add-sub_cancel_left at c.copy_within.ensures.after in
    (omega arith, rw k (take-paste b 0 (drop n b) 137 (omega arith) (omega (arith, length-drop n b))))
