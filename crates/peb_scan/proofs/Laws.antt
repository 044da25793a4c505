-- Laws of what is seen of a PEB. Assumes nothing.
use mathlib.Core.Path.{◌≡◌, refl, sym, ap, ◌∙◌}
use mathlib.Core.Bool.{Bool, true, false, cond}
use mathlib.Core.List.{List, [], ◌∷◌}
use Prim.Native.Nat.{ℕ, ◌≤◌}
use native.Mathlib.Omega.{arith}
use borrow.Author.Tests.{ne_eqb, eqb-true, le-ltb}
use lib.Dec.{eqb}
use lib.ListN.{length, take}
use Rattle.std.specs.Prelude.{Result, Ok, Err}
use Rattle.std.specs.List.{list_all}
use Rattle.base.specs.Answers.{Answer, given, refused}
use Rattle.base.specs.Lists.{part, eqs}
use Rattle.base.proofs.Answers.{and_left, not_so}
use Rattle.base.proofs.Lists.{length_part}
use Rattle.header.specs.Fields.{Verdict, good, bad, newer, verdict_answer, lent_header}
use Rattle.header.specs.Ec.{read_ec, ec_read, ec_answer}
use Rattle.header.specs.Vid.{read_vid, vid_read, vid_answer}
use Rattle.header.specs.declared.EcHeader.{EcHeader}
use Rattle.header.specs.declared.VidHeader.{VidHeader}
use Rattle.header.specs.declared.ReadError.{ReadError}
use Rattle.header.specs.declared.ReadError.TheVariants.{Newer, Short, Bad}
use Rattle.geometry.specs.Placed.{Placed}
use Rattle.geometry.specs.declared.Geometry.{Geometry}
use Rattle.report.specs.View.{all_ff, ec_blank, ec_lost, vid_blank, vid_bad, ec_of, vid_of, vid_part}
use Rattle.peb_scan.specs.Seen.{ec_seen, vid_seen, no_header}
use Rattle.peb_scan.specs.declared.NoHeader.{NoHeader}
use Rattle.peb_scan.specs.declared.NoHeader.TheVariants as no

-- ---- all 0xFF

pub ff_is : (s : List ℕ) → list_all (λ b. eqb b 0xFF) s ≡ all_ff s
unfolding all_ff
ff_is [] = refl
ff_is (b ∷ s) = rw (ff_is s)

-- a blank header has no magic
ff_magic : (s : List ℕ) (a b c d : ℕ) → (0xFF ≡ a → ⊥) → 4 ≤ length s → all_ff s ≡ true
    → eqs (part 0 4 s) (a ∷ b ∷ c ∷ d ∷ []) ≡ false
unfolding all_ff eqs
ff_magic [] a b c d n h e = absurd (omega arith)
ff_magic (x ∷ s) a b c d n h e =
    let q : x ≡ 0xFF = eqb-true x 0xFF (and_left (eqb x 0xFF) (all_ff s) e) in
    rw (q, ne_eqb 0xFF a n)

ff_ec : (s : List ℕ) → length s ≡ 64 → all_ff s ≡ true → read_ec s ≡ bad
unfolding read_ec
ff_ec s l e = rw (ff_magic s 0x55 0x42 0x49 0x23 (λ (z : 0xFF ≡ 0x55). absurd (omega arith)) (omega arith) e)

ff_vid : (size : ℕ) (s : List ℕ) → length s ≡ 64 → all_ff s ≡ true → read_vid size s ≡ bad
unfolding read_vid
ff_vid size s l e = rw (ff_magic s 0x55 0x42 0x49 0x21 (λ (z : 0xFF ≡ 0x55). absurd (omega arith)) (omega arith) e)

-- ---- a header's verdict, and what is seen of it

module _ {A : Type 0} where
  abbrev verdict_of : Answer (Verdict A) → Verdict A
  verdict_of (given v) = v
  verdict_of (refused _ _) = newer

  verdict_back : (v : Verdict A) → verdict_of (verdict_answer v) ≡ v
  verdict_back (good h) = refl
  verdict_back bad = refl
  verdict_back newer = refl

  not_four : (v : Verdict A) → refused 4 0 ≡ verdict_answer v → ⊥
  not_four (good h) q = let y : ◌≡◌ {A = ℕ} 0 1 = cc in omega arith
  not_four bad q = let y : ◌≡◌ {A = ℕ} 0 1 = cc in omega arith
  not_four newer q = let y : ◌≡◌ {A = ℕ} 4 5 = cc in omega arith

-- what the reader answers about 64 bytes is what is seen of them
module _ {A T : Type 0} (s : List ℕ) (l : length s ≡ 64) (v : Verdict A) (ff : all_ff s ≡ true → v ≡ bad)
    (of : Verdict A → T) (blank : T) where
  lent_is : lent_header v s ≡ verdict_answer v
  lent_is = let h : 64 ≤ length s = omega arith in rw (le-ltb (length s) 64 h)

  verdict_is : (w : Verdict A) → verdict_answer w ≡ lent_header v s → v ≡ w
  verdict_is w e = sym (verdict_back v) ∙ ap verdict_of (sym (e ∙ lent_is)) ∙ verdict_back w

  seen_good : (h : A) → given (good h) ≡ lent_header v s → of (good h) ≡ cond (all_ff s) blank (of v)
  seen_good h e =
      let q = verdict_is (good h) e in
      rw (not_so (all_ff s) (λ b. let y = ff b in let z : ◌≡◌ {A = ℕ} 0 1 = cc in omega arith), q)

  seen_newer : refused 5 0 ≡ lent_header v s → of newer ≡ cond (all_ff s) blank (of v)
  seen_newer e =
      let q = verdict_is newer e in
      rw (not_so (all_ff s) (λ b. let y = ff b in let z : ◌≡◌ {A = ℕ} 0 1 = cc in omega arith), q)

  seen_bad : given bad ≡ lent_header v s → cond (all_ff s) blank (of bad) ≡ cond (all_ff s) blank (of v)
  seen_bad e = rw (verdict_is bad e)

  not_short : {B : Type 0} → refused 4 0 ≡ lent_header v s → B
  not_short e = absurd (not_four v (e ∙ lent_is))

-- what is seen, from the reader's answer: in place of its error, what stands in the bytes
abbrev pub seen_from : {A : Type 0} → List ℕ → Result A ReadError → Result A NoHeader
seen_from s (Ok h) = Ok h
seen_from s (Err e) = Err (no_header e s)

ec_or_lost : (b : Bool) → ec_seen (Err (cond b no.Blank no.Bad)) ≡ cond b ec_blank ec_lost
ec_or_lost true = refl
ec_or_lost false = refl

pub ec_from_lem : (s : List ℕ) → length s ≡ 64 → (r : Result EcHeader ReadError) → ec_answer r ≡ ec_read s
    → ec_seen (seen_from s r) ≡ cond (all_ff s) ec_blank (ec_of (read_ec s))
unfolding ec_read
ec_from_lem s l (Ok h) e = seen_good s l (read_ec s) (ff_ec s l) ec_of ec_blank h e
ec_from_lem s l (Err Newer) e = seen_newer s l (read_ec s) (ff_ec s l) ec_of ec_blank e
ec_from_lem s l (Err Bad) e = ec_or_lost (all_ff s) ∙ seen_bad s l (read_ec s) (ff_ec s l) ec_of ec_blank e
ec_from_lem s l (Err Short) e = not_short s l (read_ec s) (ff_ec s l) ec_of ec_blank e

module _ (g : Geometry) (p : List ℕ) where
  abbrev read_as : List ℕ → Verdict VidHeader
  read_as = read_vid g.leb_size

  vid_or_bad : (b : Bool) → vid_seen g p (Err (cond b no.Blank no.Bad)) ≡ cond b vid_blank vid_bad
  vid_or_bad true = refl
  vid_or_bad false = refl

  pub vid_from_lem : (s : List ℕ) → length s ≡ 64 → (r : Result VidHeader ReadError) → vid_answer r ≡ vid_read g.leb_size s
      → vid_seen g p (seen_from s r) ≡ cond (all_ff s) vid_blank (vid_of g p (read_as s))
  unfolding vid_read
  vid_from_lem s l (Ok h) e = seen_good s l (read_as s) (ff_vid g.leb_size s l) (vid_of g p) vid_blank h e
  vid_from_lem s l (Err Newer) e = seen_newer s l (read_as s) (ff_vid g.leb_size s l) (vid_of g p) vid_blank e
  vid_from_lem s l (Err Bad) e = vid_or_bad (all_ff s) ∙ seen_bad s l (read_as s) (ff_vid g.leb_size s l) (vid_of g p) vid_blank e
  vid_from_lem s l (Err Short) e = not_short s l (read_as s) (ff_vid g.leb_size s l) (vid_of g p) vid_blank e

-- the headers of a whole PEB have their 64 bytes
module _ {g : Geometry} (o : Placed g) (p : List ℕ) (whole : length p ≡ g.peb_size) where
  pub ec_long : length (take 64 p) ≡ 64
  ec_long = length_part 0 64 p (omega (arith, o.vid_after_ec, o.data_after_vid, o.leb_fills))

  pub vid_long : length (vid_part g p) ≡ 64
  vid_long = length_part g.vid_start 64 p (omega (arith, o.data_after_vid, o.leb_fills))
