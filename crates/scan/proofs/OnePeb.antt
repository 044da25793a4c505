-- Laws of the pass over one PEB: what is seen of it is its view, and the totals and words with it. Assumes nothing.
use mathlib.Core.Path.{◌≡◌, refl, sym, ◌∙◌}
use mathlib.Core.Bool.{Bool, true, false, ◌&&◌, ◌||◌, cond}
use mathlib.Core.Option.{Option, none, some}
use mathlib.Core.List.{List, [], ◌∷◌}
use Prim.Native.Nat.{ℕ, ◌*◌, ◌≤◌}
use native.Mathlib.Omega.{arith}
use borrow.Author.Tests.{leb-true}
use lib.Dec.{eqb, leb}
use lib.ListN.{take}
use Rattle.base.specs.Lists.{put, eqs, part}
use Rattle.base.proofs.Answers.{and_left, either_way}
use Rattle.geometry.specs.declared.Geometry.{Geometry}
use Rattle.header.specs.Fields.{good, bad, newer, crc_matches}
use Rattle.header.proofs.Laws.{by_version}
use Rattle.header.specs.Ec.{ec_magic, ec_rules, ec_fields, judge_ec, read_ec}
use Rattle.header.specs.declared.EcHeader.{EcHeader}
use Rattle.header.specs.declared.VidHeader.{VidHeader}
use Rattle.std.specs.Prelude.{Result, Ok, Err}
use Rattle.words.specs.Words.{no_word, peb_stride, entry_stride}
use Rattle.report.specs.View.{all_ff, ec_blank, View, ec_of, view_of, good_ec}
use Rattle.report.specs.Class.{first_class}
use Rattle.report.specs.Scan.{ec_refusal, vid_refusal, view_refusal}
use Rattle.report.specs.Report.{counter_or}
use Rattle.report.specs.Scratch.{key_words}
use Rattle.peb_scan.specs.Seen.{ec_seen, vid_seen}
use Rattle.peb_scan.specs.Seen.{small_counter}
use Rattle.scan.specs.Totals.{with_ec, with_vid}
use Rattle.scan.specs.Pass.{PebPassed}
use Rattle.scan.specs.declared.EcTotals.{EcTotals}
use Rattle.scan.specs.declared.VidTotals.{VidTotals}
use Rattle.scan.specs.declared.ScanTotals.{ScanTotals}
use Rattle.peb_scan.specs.declared.NoHeader.{NoHeader}

-- ---- a good counter is small

small_verdict : (one nought b : Bool) (h : EcHeader) → (b ≡ true → h.counter ≤ 0x7FFFFFFF)
    → small_counter (ec_of (cond one (cond b (good h) bad) (cond nought bad newer)))
small_verdict true nought true h l = l refl
small_verdict true nought false h l = omega arith
small_verdict false true b h l = omega arith
small_verdict false false b h l = omega arith

small_read : (s : List ℕ) → small_counter (ec_of (read_ec s))
unfolding read_ec judge_ec ec_rules
small_read s =
    let small = leb (ec_fields s).counter 0x7FFFFFFF in
    let v = (ec_fields s).version in
    let verdict = by_version v (cond (small && true) (good (ec_fields s)) bad) in
    either_way (λ (b : Bool). small_counter (ec_of (cond b verdict bad)))
    (eqs (part 0 4 s) ec_magic && crc_matches s)
    (small_verdict (eqb v 1) (eqb v 0) (small && true) (ec_fields s)
    (λ (e : small && true ≡ true). leb-true _ _ (and_left small true e)))
    (omega arith)

pub small_view : (g : Geometry) (p : List ℕ) → small_counter (view_of g p).ec
unfolding view_of
small_view g p =
    either_way (λ (b : Bool). small_counter (cond b ec_blank (ec_of (read_ec (take 64 p))))) (all_ff (take 64 p))
    (omega arith) (small_read (take 64 p))

-- ---- the pass over one PEB

-- the EC header e was seen in a view, ec are the totals with it, and a is its refusal
pub record EcPassed (g : Geometry) (v : View) (s : ScanTotals) (e : Result EcHeader NoHeader) (ec : EcTotals)
    (a : Option ℕ) : Type 0 where
  pub seen : ec_seen e ≡ v.ec
  pub totals : ec ≡ with_ec s.ec (ec_seen e)
  pub refusal : a ≡ ec_refusal g ec.image_seq (ec_seen e)

-- the VID header w was seen in a view of the bytes p, and b is its refusal
pub record VidPassed (g : Geometry) (p : List ℕ) (v : View) (w : Result VidHeader NoHeader) (b : Option ℕ) : Type 0 where
  pub seen : vid_seen g p w ≡ v.vid
  pub refusal : b ≡ vid_refusal (vid_seen g p w)

module _ {g : Geometry} {v : View} {s : ScanTotals} {e : Result EcHeader NoHeader} {ec : EcTotals} {a : Option ℕ}
    (x : EcPassed g v s e ec a) where
  totals_are : ec ≡ with_ec s.ec v.ec
  totals_are = x.totals ∙ rw x.seen

  ec_ends : a ≡ ec_refusal g (with_ec s.ec v.ec).image_seq v.ec
  ec_ends = x.refusal ∙ rw (totals_are, x.seen)

  -- the EC header refuses
  pub ec_refused : {k : ℕ} → a ≡ some k → {i : ℕ} {pebs map : List ℕ} → PebPassed g i v s (Err k) pebs pebs map map
  unfolding view_refusal
  ec_refused q = record { refusal = rw (sym ec_ends ∙ q); ec = tt; vid = tt; pebs_are = refl; map_is = refl }

  module _ {p : List ℕ} {w : Result VidHeader NoHeader} {b : Option ℕ} (z : a ≡ none) (y : VidPassed g p v w b) where
    both_end : b ≡ view_refusal g (with_ec s.ec v.ec).image_seq v
    unfolding view_refusal
    both_end = y.refusal ∙ rw (sym ec_ends ∙ z, y.seen)

    -- the VID header refuses
    pub vid_refused : {k : ℕ} → b ≡ some k → {i : ℕ} {pebs map : List ℕ}
        → PebPassed g i v s (Err k) pebs pebs map map
    vid_refused q = record { refusal = sym q ∙ both_end; ec = tt; vid = tt; pebs_are = refl; map_is = refl }

    -- neither refuses: the class k, the counter and whether the PEB is free or blank, and the words stored
    pub peb_passed : b ≡ none → {i k counter : ℕ} {idle : Bool} {vid : VidTotals} {pebs pebs' map map' : List ℕ}
        → k ≡ first_class (ec_seen e) (vid_seen g p w) → counter ≡ counter_or no_word (good_ec (ec_seen e))
        → idle ≡ eqb k 0 || eqb k 3 → vid ≡ with_vid s.vid idle (vid_seen g p w)
        → pebs' ≡ put (i * peb_stride) (k ∷ counter ∷ []) pebs
        → map' ≡ put (i * entry_stride) (key_words i (vid_seen g p w)) map
        → PebPassed g i v s (Ok (record { ec = ec; vid = vid })) pebs pebs' map map'
    peb_passed q ck cc ci cv cp cm = record {
      refusal = sym q ∙ both_end;
      ec = totals_are;
      vid = cv ∙ rw (ci, ck, x.seen, y.seen);
      pebs_are = cp ∙ rw (ck, cc, x.seen, y.seen);
      map_is = cm ∙ rw y.seen;
    }
