-- `crc32::fold::by_folding` meets its contract. Assumes nothing.
use Rattle.crc32.proofs.Pending.{pending_first}
use Rattle.crc32.specs.Crc.{crc_from}
use Prim.Native.Nat.{ℕ}
use native.Mathlib.Omega.{arith}
use mathlib.Core.Path.{ap, ◌∙◌}
use Rattle.crc32.proofs.fold.by_folding.Goals as goal

pub returns : goal.returns
returns c =
    let a = c.args in
    c.in_blocks.ensures ∙ ap (λ (n : ℕ). crc_from n a.bytes.now) (pending_first 136 a.state (omega arith))
