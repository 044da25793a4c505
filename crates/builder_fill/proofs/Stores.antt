-- The stores of one PEB, one after the other, make it. Assumes nothing.
use mathlib.Core.Path.{◌≡◌, sym, ap, ◌∙◌}
use mathlib.Core.Bool.{true}
use mathlib.Core.List.{List, ◌++◌, append_assoc}
use Prim.Native.Nat.{ℕ, ◌+◌, ◌-◌, ◌≤◌, ◌<◌}
use native.Mathlib.Nat.{add-zero, zero-add}
use native.Mathlib.Omega.{arith}
use lib.ListN.{length, replicate, length-append, length-replicate, take-append-drop}
use Rattle.base.specs.Lists.{put}
use Rattle.base.proofs.Stores.{length_put, put_in_put, put_next}
use Rattle.geometry.specs.Placed.{Placed}
use Rattle.geometry.specs.declared.Geometry.{Geometry}
use Rattle.header.specs.Fields.{is_good}
use Rattle.header.specs.Ec.{ec_bytes}
use Rattle.header.specs.Vid.{judge_vid, vid_bytes}
use Rattle.header.specs.declared.EcHeader.{EcHeader}
use Rattle.header.specs.declared.VidHeader.{VidHeader}
use Rattle.header.proofs.Writes.{ec_64, vid_64}
use Rattle.builder_rules.specs.Blocks.{free_peb, used_peb, layout_vid}
use Rattle.builder_rules.proofs.Headers.{layout_good}
use Rattle.builder_rules.proofs.Pebs.{used_front, used_body}
use Rattle.builder_fill.specs.Pebs.{headers_of}

-- an EC header over m bytes of 0xFF
module _ (e : EcHeader) (m : ℕ) (k : 64 ≤ m) where
  abbrev erased : List ℕ
  erased = replicate m 0xFF

  erased_length : length erased ≡ m
  erased_length = length-replicate {A = ℕ} m 0xFF

  ec_within : 0 + length (ec_bytes e) ≤ length erased
  ec_within = omega (arith, ec_64 e, erased_length)

  ec_over_length : length (put 0 (ec_bytes e) erased) ≡ m
  ec_over_length = length_put 0 (ec_bytes e) erased ec_within ∙ erased_length

  ec_over : (at : ℕ) (s : List ℕ) → at + m ≤ length s → {a b x : List ℕ} → a ≡ put at erased s → x ≡ ec_bytes e
      → b ≡ put at x a → b ≡ put at (put 0 (ec_bytes e) erased) s
  ec_over at s h p u q =
      q ∙ rw (u, p) (rw add-zero at (put_in_put at 0 (ec_bytes e) erased s ec_within (omega (arith, erased_length))))

module _ (g : Geometry) (p : Placed g) (e : EcHeader) (at : ℕ) (s : List ℕ) where
  pub free_stored : at + g.peb_size ≤ length s → {a b x : List ℕ} → a ≡ put at (replicate g.peb_size 0xFF) s
      → x ≡ ec_bytes e → b ≡ put at x a → b ≡ put at (free_peb g e) s
  unfolding free_peb
  free_stored h q u r =
      ec_over e g.peb_size (omega (arith, p.vid_after_ec, p.data_after_vid, p.leb_fills)) at s h q u r

  module _ (v : VidHeader) where
    abbrev d : ℕ
    d = g.data_start

    d_least : 64 ≤ d
    d_least = omega (arith, p.vid_after_ec, p.data_after_vid)

    vid_within : g.vid_start + length (vid_bytes v) ≤ length (put 0 (ec_bytes e) (replicate d 0xFF))
    vid_within = omega (arith, ec_over_length e d d_least, vid_64 v, p.data_after_vid)

    pub headers_stored : at + d ≤ length s → {a b c x : List ℕ} → a ≡ put at (replicate d 0xFF) s → x ≡ ec_bytes e
        → b ≡ put at x a → c ≡ put (at + g.vid_start) (vid_bytes v) b → c ≡ put at (headers_of g e v) s
    unfolding headers_of
    headers_stored h q u r t =
        t ∙ rw (ec_over e d d_least at s h q u r)
        (put_in_put at g.vid_start (vid_bytes v) (put 0 (ec_bytes e) (replicate d 0xFF)) s vid_within
        (omega (arith, ec_over_length e d d_least)))

    headers_length : length (headers_of g e v) ≡ d
    unfolding headers_of
    headers_length =
        length_put g.vid_start (vid_bytes v) (put 0 (ec_bytes e) (replicate d 0xFF)) vid_within
        ∙ ec_over_length e d d_least

    module _ (bytes : List ℕ) (fits : length bytes ≤ g.leb_size) where
      abbrev rest : List ℕ
      rest = replicate (g.leb_size - length bytes) 0xFF

      in_parts : headers_of g e v ++ bytes ++ rest ≡ used_peb g e v bytes
      unfolding headers_of
      in_parts =
          append_assoc (headers_of g e v) bytes rest
          ∙ sym (sym (take-append-drop d (used_peb g e v bytes))
          ∙ rw (used_front g p e v bytes fits, used_body g p e v bytes fits))

      pub used_stored : at + g.peb_size ≤ length s → {a b c : List ℕ} → a ≡ put at (headers_of g e v) s
          → b ≡ put (at + d) bytes a → c ≡ put (at + d + length bytes) rest b → c ≡ put at (used_peb g e v bytes) s
      used_stored h q r t =
          let k : at + d + length bytes ≡ at + (d + length bytes) = omega arith in
          let l : length (headers_of g e v ++ bytes) ≡ d + length bytes = rw (length-append, headers_length) in
          t ∙ rw (r, q, put_next at d (headers_of g e v) bytes s headers_length (omega (arith, p.leb_fills)), k)
          (put_next at (d + length bytes) (headers_of g e v ++ bytes) rest s l (omega (arith, p.leb_fills))
          ∙ ap (λ (x : List ℕ). put at x s) in_parts)

-- two PEBs, one behind the other
pub pair_stored : (n : ℕ) (x y s : List ℕ) {x' y' a b : List ℕ} → length x ≡ n → n ≤ length s → x' ≡ x → y' ≡ y
    → a ≡ put 0 x' s → b ≡ put n y' a → b ≡ put 0 (x ++ y) s
pair_stored n x y s l h p q r t = t ∙ rw (r, p, q) (rw zero-add at (put_next 0 n x y s l (omega arith)))

-- the header of a layout LEB is good
pub layout_header : (g : Geometry) → Placed g → (k l : ℕ) → l < 2 → {h : VidHeader} → h ≡ layout_vid k l
    → is_good (judge_vid g.leb_size h) ≡ true
layout_header g p k l m e = rw (e, layout_good g.leb_size k l (omega (arith, p.leb_least)) m)
