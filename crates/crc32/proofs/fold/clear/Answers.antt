-- `crc32::fold::clear` meets its contract: zeros from the 137th word on. Assumes nothing.
use mathlib.Core.Path.{◌≡◌, ◌∙◌}
use native.Mathlib.Omega.{arith}
use lib.ListN.{length, replicate}
use borrow.Author.Rules.{rules}
use borrow.Rule.Slice.PartMut.{same_len_mid}
use Rattle.std.proofs.lemmas.Slice.{take-put_mid}
use Rattle.base.proofs.Lists.{length_part}
use Rattle.crc32.specs.Fold.{zeros}
use Rattle.crc32.proofs.fold.clear.Goals as goal

pub returns : goal.returns
unfolding zeros
returns c =
    let b = c.args.kept.now in
    let f = c.fill in
    let z : f.new.self ≡ replicate 85 0 = search rules in
    let n : length f.new.self ≡ 85 = f.ensures.len ∙ length_part 137 85 b (omega arith) in (
      same_len_mid 137 85 b f.new.self f.ensures.len ∙ c.requires,
      rw (← z) (take-put_mid 137 85 b f.new.self 222 (omega arith) (omega arith)),
    )
