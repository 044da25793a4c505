-- What the stores of a header come to: its bytes as the definitions lay them out, by computation. Assumes nothing.
use mathlib.Core.Path.{◌≡◌, refl, ap, ◌∙◌}
use mathlib.Core.Bool.{true}
use mathlib.Core.List.{List, ◌++◌}
use Prim.Native.Nat.{ℕ, ◌≤◌}
use lib.ListN.{length, drop, replicate}
use borrow.Author.Tests.{le-ltb}
use Rattle.base.specs.Lists.{put}
use Rattle.field.specs.Be.{to_be_on}
use Rattle.header.specs.Fields.{is_good}
use Rattle.header.specs.Stores.{header_begun, crc_stored, ec_stored, kind_stored, volume_stored, data_stored}
use Rattle.header.specs.Ec.{ec_magic, ec_head, ec_bytes, judge_ec, ec_out}
use Rattle.header.specs.Vid.{vid_magic, vid_head, vid_bytes, judge_vid, vid_out}
use Rattle.header.specs.declared.EcHeader.{EcHeader}
use Rattle.header.specs.declared.VidHeader.{VidHeader}

module _ (t : List ℕ) where
  ec_head_lem : (h : EcHeader) → ec_stored h (put 0 ec_magic (replicate 64 0 ++ t)) ≡ ec_head h ++ (replicate 4 0 ++ t)
  unfolding ec_stored ec_head to_be_on
  ec_head_lem h = refl

  ec_sum : (h : EcHeader) → crc_stored (ec_head h ++ (replicate 4 0 ++ t)) ≡ ec_bytes h ++ t
  unfolding crc_stored ec_head ec_bytes to_be_on
  ec_sum h = refl

  vid_head_lem : (h : VidHeader) → data_stored h (volume_stored h (kind_stored h (put 0 vid_magic (replicate 64 0 ++ t)))) ≡
      vid_head h ++ (replicate 4 0 ++ t)
  unfolding data_stored volume_stored kind_stored vid_head to_be_on
  vid_head_lem h = refl

  vid_sum : (h : VidHeader) → crc_stored (vid_head h ++ (replicate 4 0 ++ t)) ≡ vid_bytes h ++ t
  unfolding crc_stored vid_head vid_bytes to_be_on
  vid_sum h = refl

-- the steps of a write, one after the other
module _ (out : List ℕ) {a b d : List ℕ} (long : 64 ≤ length out) where
  pub ec_wrote : (h : EcHeader) → is_good (judge_ec h) ≡ true → a ≡ header_begun ec_magic out → b ≡ ec_stored h a
      → d ≡ crc_stored b → d ≡ ec_out h out
  unfolding ec_out header_begun
  ec_wrote h g p q r =
      rw (le-ltb _ _ long, g)
      (r ∙ ap crc_stored (q ∙ ap (ec_stored h) p ∙ ec_head_lem (drop 64 out) h) ∙ ec_sum (drop 64 out) h)

  pub vid_wrote : {e f : List ℕ} (size : ℕ) (h : VidHeader) → is_good (judge_vid size h) ≡ true
      → a ≡ header_begun vid_magic out → b ≡ kind_stored h a → d ≡ volume_stored h b
      → e ≡ data_stored h d → f ≡ crc_stored e → f ≡ vid_out size h out
  unfolding vid_out header_begun
  vid_wrote size h g p q r s u =
      rw (le-ltb _ _ long, g)
      (u ∙ ap crc_stored (s ∙ ap (data_stored h) (r ∙ ap (volume_stored h) (q ∙ ap (kind_stored h) p)) ∙ vid_head_lem
      (drop 64 out) h) ∙ vid_sum (drop 64 out) h)

-- a header is 64 bytes, and one that is good is stored over the first 64
pub ec_64 : (h : EcHeader) → length (ec_bytes h) ≡ 64
unfolding ec_bytes ec_head to_be_on
ec_64 h = refl

pub vid_64 : (h : VidHeader) → length (vid_bytes h) ≡ 64
unfolding vid_bytes vid_head to_be_on
vid_64 h = refl

pub ec_over : (h : EcHeader) (out : List ℕ) → 64 ≤ length out → is_good (judge_ec h) ≡ true
    → ec_out h out ≡ ec_bytes h ++ drop 64 out
unfolding ec_out
ec_over h out l g = rw (le-ltb _ _ l, g)

pub vid_over : (size : ℕ) (h : VidHeader) (out : List ℕ) → 64 ≤ length out → is_good (judge_vid size h) ≡ true
    → vid_out size h out ≡ vid_bytes h ++ drop 64 out
unfolding vid_out
vid_over size h out l g = rw (le-ltb _ _ l, g)
