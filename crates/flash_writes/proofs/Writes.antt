-- Laws of writes on an image. Assumes nothing.
use mathlib.Core.Path.{◌≡◌, refl, sym, ap, ◌∙◌}
use mathlib.Core.Logic.{◌⊎◌, inl, inr}
use mathlib.Core.Bool.{true}
use mathlib.Core.List.{List, ◌++◌, append-nil}
use Prim.Native.Nat.{ℕ, ◌+◌, ◌-◌, ◌≤◌, ◌<◌}
use native.Mathlib.Numerals.{add-one}
use native.Mathlib.Omega.{arith}
use lib.ListN.{length, replicate, take, drop, get_or, set, get_or-append}
use lib.Seq.{paste, paste-suc, length_paste_head, length-take-le, get_or-take, get_or-drop, get_or-append-add}
use Rattle.std.specs.Prelude.{Result, Ok, Err, IsOk}
use Rattle.base.specs.Lists.{part}
use Rattle.base.proofs.Lists.{length_part}
use Rattle.base.specs.Answers.{given}
use Rattle.base.proofs.Answers.{refused_not}
use Rattle.header.specs.Fields.{is_good, written}
use Rattle.header.specs.declared.WriteError.{WriteError}
use Rattle.header.specs.declared.WriteError.TheVariants as write
use Rattle.header.specs.Ec.{judge_ec, ec_bytes, ec_out, ec_written}
use Rattle.header.specs.Vid.{judge_vid, vid_bytes, vid_out, vid_written}
use Rattle.header.specs.declared.EcHeader.{EcHeader}
use Rattle.header.specs.declared.VidHeader.{VidHeader}
use Rattle.header.proofs.Writes.{ec_over, vid_over}

-- ---- a run that is copied byte by byte

module _ (d : List ℕ) (at : ℕ) (s : List ℕ) (i : ℕ) (h : at ≤ length d) (k : i ≤ length s) where
  abbrev head : List ℕ
  head = take at d ++ take i s

  -- what lies before or behind the bytes that are stored stays
  pub kept_before : (j : ℕ) → j < at → get_or (paste d at s i) j 0 ≡ get_or d j 0
  kept_before j l =
      get_or-append head (drop (at + i) d) 0 j (omega (arith, length_paste_head d at s i h k))
      ∙ get_or-append (take at d) (take i s) 0 j (omega (arith, length-take-le at d h))
      ∙ get_or-take at d j 0 l

  pub kept_behind : (j : ℕ) → at + i ≤ j → get_or (paste d at s i) j 0 ≡ get_or d j 0
  kept_behind j l =
      let e : j ≡ length head + (j - (at + i)) = omega (arith, length_paste_head d at s i h k) in
      let z : at + i + (j - (at + i)) ≡ j = omega arith in
      ap (λ (x : ℕ). get_or (paste d at s i) x 0) e ∙ get_or-append-add head (drop (at + i) d) (j - (at + i)) 0
      ∙ get_or-drop (at + i) d (j - (at + i)) 0 ∙ ap (λ (x : ℕ). get_or d x 0) z

module _ (d : List ℕ) (from to n i : ℕ) (i<n : i < n) (h : from + n ≤ length d) (k : to + n ≤ length d) where
  abbrev s : List ℕ
  s = part from n d

  ls : length s ≡ n
  ls = length_part from n d h

  kept : ((from + n ≤ to) ⊎ (to + n ≤ from)) → get_or (paste d to s i) (from + i) 0 ≡ get_or d (from + i) 0
  kept (inl l) = kept_before d to s i (omega arith) (omega (arith, ls)) (from + i) (omega arith)
  kept (inr l) = kept_behind d to s i (omega arith) (omega (arith, ls)) (from + i) (omega arith)

  -- one byte more
  pub copy_more : ((from + n ≤ to) ⊎ (to + n ≤ from))
      → set (paste d to s i) (to + i) (get_or (paste d to s i) (from + i) 0) ≡ paste d to s (i + 1)
  copy_more apart =
      let e : get_or d (from + i) 0 ≡ get_or s i 0 = sym (get_or-take n (drop from d) i 0 i<n ∙ get_or-drop from d i 0) in
      ap (set (paste d to s i) (to + i)) (kept apart ∙ e)
      ∙ rw add-one (paste-suc d to s i 0 (omega arith) (omega (arith, ls)))

-- ---- a header that is made in 64 bytes, which are zero at first

abbrev blank : List ℕ
blank = replicate 64 0

-- a good one is not refused
done : (r : Result (Unit {0}) WriteError) → written r ≡ given tt → IsOk r
done (Ok u) e = refl
done (Err write.Short) e = absurd (refused_not e)
done (Err write.NotGood) e = absurd (refused_not e)

module _ (size : ℕ) (h : VidHeader) (g : is_good (judge_vid size h) ≡ true) where
  pub vid_done : (r : Result (Unit {0}) WriteError) → written r ≡ vid_written size h blank → IsOk r
  unfolding vid_written
  vid_done r e = done r (e ∙ rw g)

  pub vid_made : vid_out size h blank ≡ vid_bytes h
  vid_made = vid_over size h blank (omega arith) g ∙ append-nil (vid_bytes h)

module _ (h : EcHeader) (g : is_good (judge_ec h) ≡ true) where
  pub ec_done : (r : Result (Unit {0}) WriteError) → written r ≡ ec_written h blank → IsOk r
  unfolding ec_written
  ec_done r e = done r (e ∙ rw g)

  pub ec_made : ec_out h blank ≡ ec_bytes h
  ec_made = ec_over h blank (omega arith) g ∙ append-nil (ec_bytes h)
