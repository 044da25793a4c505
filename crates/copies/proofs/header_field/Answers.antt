-- `copies::header_field` meets its contract. Assumes nothing.
use mathlib.Core.Path.{ap, ◌∙◌}
use mathlib.Core.List.{List}
use Prim.Native.Nat.{ℕ}
use native.Mathlib.Omega.{arith}
use Rattle.header.specs.Vid.{vid_fields, vid_field}
use Rattle.copies.specs.InPlace.{header_at}
use Rattle.copies.proofs.Copies.{lent_peb_lem}
use Rattle.copies.proofs.header_field.Goals as goal

pub returns : goal.returns
unfolding header_at
returns c =
    let a = c.args in
    c.vid_field.ensures
    ∙ ap (λ (l : List ℕ). vid_field a.field (vid_fields l))
    (lent_peb_lem a.g a.image.now a.i a.g.vid_start 64
    (omega (arith, c.requires.0.data_after_vid, c.requires.0.leb_fills)))
