-- What a report of attaching leaves to a move. Assumes nothing.
use mathlib.Core.Path.{◌≡◌, refl, sym, ap, ◌∙◌}
use mathlib.Core.Bool.{Bool, true}
use mathlib.Core.Option.{some}
use mathlib.Core.List.{List, [], ◌∷◌, Memᴰ}
use Prim.Native.Nat.{ℕ}
use native.Mathlib.Omega.{arith}
use lib.ListN.{length, drop, length-append}
use Rattle.base.specs.Answers.{Answer, given, refused, all_of, map_o}
use Rattle.base.specs.Lists.{Bytes}
use Rattle.base.proofs.Answers.{none_some, map_o_some, by_option, by_test, refused_not}
use Rattle.words.proofs.Laws.{class_at_lem, counter_at_lem}
use Rattle.geometry.specs.declared.Geometry.{Geometry}
use Rattle.geometry.specs.Slip.{slip_geometry}
use Rattle.geometry.specs.Image.{peb_count_of, image_rules}
use Rattle.report.specs.View.{Copy, Medium, medium_of, copies}
use Rattle.report.specs.Choice.{chosen}
use Rattle.report.specs.Volumes.{Entry, places_of, map_of}
use Rattle.report.specs.Report.{class_at, counter_at, entries, records, places}
use Rattle.report.specs.Attach.{
  AttachRequest,
  Tables,
  Outcome,
  early,
  late,
  whole,
  by_geometry,
  attaching,
  report_of,
  answer_of,
  peb_words,
  tables_after,
}
use Rattle.report.specs.declared.Report.{Report}
use Rattle.report.proofs.Choice.{chosen_at}
use Rattle.report.proofs.Map.{in_map}
use Rattle.report.proofs.Words.{peb_words_length}
use Rattle.lookup.specs.Lookup.{place_in}
use Rattle.lookup.proofs.Reported.{found_in_map, in_map_found}
use Rattle.mover_rules.specs.Begin.{mapped, plan_of, begin_on, beginning}
use Rattle.mover_rules.specs.declared.Plan.{Plan}
use Rattle.mover_rules.proofs.Mapped.{mapped_at, mapped_none}
use Rattle.job.specs.Outcomes.{outcome_of, attaches}
use Rattle.job.proofs.Outcomes.{Attached, has_attached, attached, chip_placed}
use Rattle.mover_begin.specs.Begins.{medium_in, Begins}

-- ---- the words of a report

module _ (m : Medium) (t : Tables) where
  abbrev after : Tables
  after = tables_after (whole m) t

  abbrev place : ℕ × Copy → ℕ
  place x = x.0

  -- an entry's PEB has the copy that is moved
  entry_mapped : (e : Entry) → Memᴰ e (entries m) → map_o place (mapped m e.volume e.lnum) ≡ some e.peb
  unfolding entries map_of places_of
  entry_mapped e k =
      let x = map_o_some place (chosen m.count (copies m.views) e.volume e.lnum) e.peb
      (in_map 128 2 (records m) (places m) e k).place in
      let h = chosen_at m.count (copies m.views) e.volume e.lnum x.0.0 x.0.1 x.1 in
      rw (mapped_at m e k x.0.1 (ap (copies m.views) (sym x.2) ∙ h.1))

  -- what is found is what is moved
  finds : (v l : ℕ) → place_in after.map (length (entries m)) v l ≡ map_o place (mapped m v l)
  finds v l =
      by_option (place_in after.map (length (entries m)) v l)
      (λ q. q ∙ sym (ap (map_o place) (mapped_none m v l
      (λ e k a b. none_some (sym q ∙ rw (a, b) at (in_map_found m t e k))))))
      (λ p q. let f = found_in_map m t v l p q in q ∙ sym (rw (f.2, f.3, f.4) at (entry_mapped f.0 f.1)))

  abbrev row : ℕ → List ℕ
  row i = class_at m i ∷ counter_at m i ∷ []

-- ---- an image that attached

not_whole : (k : ℕ) (m : Medium) → early k ≡ whole m → ⊥
not_whole k m e = let z : ◌≡◌ {A = ℕ} 0 1 = cc in omega arith

whole_of : (o : Outcome) (r : Report) → given r ≡ answer_of o → (m : Medium) × (o ≡ whole m) × (r ≡ report_of m)
whole_of (early k) r e = absurd (refused_not (sym e))
whole_of (late n x) r e = absurd (refused_not (sym e))
whole_of (whole m) r e = (m, refl, cc)

module _ (req : AttachRequest) (image : List ℕ) (room : ℕ → Bool) where
  -- the room decides refusal 4 alone
  in_any_room : (m : Medium) → attaching req image room ≡ whole m → outcome_of req image ≡ whole m
  unfolding attaching outcome_of
  in_any_room m = go (slip_geometry req.slip)
    where
      go : (a : Answer Geometry) → by_geometry image room a ≡ whole m → by_geometry image (λ n. true) a ≡ whole m
      go (refused k p) e = absurd (let z : ◌≡◌ {A = ℕ} 0 1 = cc in omega arith)
      go (given g) e =
          by_test (all_of (image_rules g image))
          (λ q. by_test (room (peb_count_of g image)) (λ h. rw q (rw (q, h) at e))
          (λ h. absurd (not_whole 4 m (rw (q, h) at e))))
          (λ q. absurd (not_whole 3 m (rw q at e)))

  module _ (r : Report) (is : given r ≡ answer_of (attaching req image room)) where
    known : (a : Attached req image) × (attaching req image room ≡ whole (medium_of a.g a.n image))
        × (r ≡ report_of (medium_of a.g a.n image))
    known =
        let w = whole_of (attaching req image room) r is in
        let o = in_any_room w.0 w.1 in
        let a = has_attached req image (ap attaches o) in
        let q : whole w.0 ≡ whole (medium_of a.g a.n image) =
        sym o ∙ attached req a.g a.n a.chip image a.long a.unrefused in
        let e : w.0 ≡ medium_of a.g a.n image = cc in
        (a, w.1 ∙ ap whole e, w.2 ∙ ap report_of e)

    -- the words after it are told, and find each LEB
    told_by : (a : Attached req image) → Bytes image → (t : Tables)
        → Begins image (report_of (medium_of a.g a.n image))
        (tables_after (whole (medium_of a.g a.n image)) t).pebs (tables_after (whole (medium_of a.g a.n image)) t).map
    unfolding report_of peb_words
    told_by a bytes t =
        let m = medium_of a.g a.n image in
        let rest = drop (length (peb_words m)) t.pebs in
        record {
          told = record {
            reported = record {
              placed = chip_placed req a.g a.n a.chip;
              bytes = bytes;
              whole = a.long;
              few = a.chip.most;
              long = simp length-append (omega (arith, peb_words_length m));
              attached = a.unrefused;
              classes = class_at_lem a.n (row m t) rest refl (λ j. refl);
              counters = counter_at_lem a.n (row m t) rest refl (λ j. refl);
            };
            report_is = refl;
          };
          found = finds m t;
        }

    pub begins : Bytes image → (t : Tables) {t' : Tables} → t' ≡ tables_after (attaching req image room) t
        → Begins image r t'.pebs t'.map
    begins bytes t e =
        let k = known in
        let q = e ∙ ap (λ (o : Outcome). tables_after o t) k.1 in
        rw (k.2, q) (told_by k.0 bytes t)

    pub begun : {a : Answer Plan} (v l t : ℕ) → a ≡ plan_of (medium_in image r) v l t → a ≡ beginning req image room v l t
    unfolding beginning report_of
    begun v l t e =
        let k = known in
        e ∙ ap (λ (x : Report). plan_of (medium_in image x) v l t) k.2
        ∙ ap (λ (o : Outcome). begin_on o v l t) (sym k.1)

-- ---- a refusal

pub refused_too : (x : Outcome) (k p v l t : ℕ) → refused k p ≡ answer_of x → refused k p ≡ begin_on x v l t
refused_too (early j) k p v l t e = let a : k ≡ j = cc in let b : p ≡ 0 = cc in rw (a, b)
refused_too (late n r) k p v l t e = let a : k ≡ r.number = cc in let b : p ≡ r.place = cc in rw (a, b)
refused_too (whole m) k p v l t e = absurd (refused_not e)
