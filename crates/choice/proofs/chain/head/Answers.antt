-- `choice::chain::head` meets its contract. Assumes nothing.
use mathlib.Core.Path.{sym, ap, ap₂, ◌∙◌}
use Prim.Native.Nat.{ℕ}
use lib.ListN.{get_or}
use Rattle.choice.specs.Chain.{bucket_of}
use Rattle.choice.proofs.Chains.{in_bucket}
use Rattle.choice.proofs.chain.head.Goals as goal

pub returns : goal.returns
returns c =
    let e = ap₂ bucket_of c.volume_word.ensures c.lnum_word.ensures in
    ap (λ (b : ℕ). get_or c.args.heads.now b 0)
    (c.bucket-at.ensures ∙ e ∙ sym (in_bucket c.args.map.now c.args.i c.requires.1.1))
