-- `choice::chain::link_peb` meets its contract. Assumes nothing.
use mathlib.Core.Path.{sym, ap₂, ◌∙◌}
use Rattle.choice.specs.Chain.{bucket_of}
use Rattle.choice.proofs.Chains.{chain_other, chain_copy}
use Rattle.choice.proofs.chain.link_peb.Goals as goal

pub returns-then-volume : goal.returns-then-volume
returns-then-volume c =
    let p = c.requires in
    chain_other p.0 p.1 (sym c.volume_word-volume.ensures ∙ c.if-volume.true)

pub returns : goal.returns
returns c =
    let p = c.requires in
    rw (
      c.set_peb.ensures,
      c.bucket-b.ensures,
      ap₂ bucket_of c.volume_word-volume.ensures c.lnum_word.ensures,
    )
    (chain_copy p.0 p.1 (λ z. c.if-volume.false (c.volume_word-volume.ensures ∙ z)))
