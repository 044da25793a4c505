-- Laws of the stages of attaching, up to the table taken. Assumes nothing.
use mathlib.Core.Path.{◌≡◌, refl, sym, ap, ap₂, ◌∙◌}
use mathlib.Core.Bool.{true, false}
use mathlib.Core.Option.{none, some}
use mathlib.Core.List.{List, ◌++◌}
use Prim.Native.Nat.{ℕ, ◌≤◌}
use native.Mathlib.Omega.{arith}
use borrow.Author.Tests.{leb-true}
use lib.ListN.{length, drop}
use Rattle.base.specs.Answers.{Answer, given, refused, all_of}
use Rattle.base.proofs.Answers.{each_holds}
use Rattle.words.specs.Words.{peb_words_needed}
use Rattle.words.proofs.Laws.{volume_at, lnum_at}
use Rattle.geometry.proofs.Laws.{image_whole, image_least, image_few}
use Rattle.geometry.specs.declared.Geometry.{Geometry}
use Rattle.geometry.specs.Placed.{Placed}
use Rattle.geometry.specs.Slip.{slip_geometry}
use Rattle.geometry.specs.Geometry.{geometry_read}
use Rattle.geometry.specs.declared.SlipError.{SlipError}
use Rattle.geometry.specs.declared.SlipError.TheVariants.{Malformed, Outside}
use Rattle.geometry.specs.Image.{peb_count_of, image_rules}
use Rattle.header.specs.Vid.{layout_volume}
use Rattle.volume_table.specs.Table.{taken_leb, taken_records, records_taken, copies_mark_of, taken_number}
use Rattle.volume_table.proofs.Tables.{taken_records_lem}
use Rattle.report.specs.View.{medium_of, views_of, copies}
use Rattle.report.specs.Scan.{refusal10}
use Rattle.report.specs.Choice.{refusal9}
use Rattle.report.specs.Volumes.{layout_content, table_leb, table_records, table_mark}
use Rattle.report.specs.Report.{refusal, faces, places, taken, mark}
use Rattle.report.specs.Attach.{
  Outcome,
  early,
  Tables,
  lent,
  room_rules,
  long_enough,
  request,
  by_geometry,
  attaching,
  attaching_into,
  attached_answer,
  answer_of,
  tables_after,
}
use Rattle.report.specs.declared.Report.{Report}
use Rattle.refusals.specs.declared.Refused.{Refused}
use Rattle.refusals.specs.Slip.{slip_refused}
use Rattle.std.specs.declared.option.Option as rust
use Rattle.std.specs.Prelude.{Some, None, Result, Ok, Err}
use Rattle.report.specs.Scratch.{key_words, keys_of, marked_words}
use Rattle.report.proofs.Words.{key_length}
use Rattle.scan.specs.declared.ScanTotals.{ScanTotals}
use Rattle.scan.specs.Pass.{Passed, first_words_of}
use Rattle.choice.specs.Keyed.{Keyed, repeat_at}
use Rattle.choice.specs.Chain.{Chains}
use Rattle.choice.specs.Marking.{Linking, MarkedTo}
use Rattle.choice.proofs.Marks.{marked_none}
use Rattle.summary.specs.Stage.{Ended, SameBeyond, Room, Past8, Past10, Past11, outcome}
use Rattle.summary.proofs.Ends.{words_tail, late_refusal}

-- ---- refusals 1 to 4

abbrev unplaced : ℕ → Refused
unplaced k = record { number = k; place = 0 }

early_ended : (k : ℕ) (t : Tables) → Ended (early k) (Err (unplaced k)) t t
early_ended k t = record { answer = refl; tables_are = refl }

pub slip_ended : (e : SlipError) (image : List ℕ) (t : Tables)
    → Ended (by_geometry image (long_enough t) (geometry_read (Err e))) (Err (slip_refused e)) t t
slip_ended Malformed image t = early_ended 1 t
slip_ended Outside image t = early_ended 2 t

module _ (g : Geometry) (image : List ℕ) (t : Tables) where
  abbrev end : Outcome
  end = by_geometry image (long_enough t) (given g)

  pub refused3 : all_of (image_rules g image) ≡ false → Ended end (Err (unplaced 3)) t t
  refused3 e = rw e (early_ended 3 t)

  module _ (e : all_of (image_rules g image) ≡ true) where
    pub refused4 : long_enough t (peb_count_of g image) ≡ false → Ended end (Err (unplaced 4)) t t
    refused4 h = rw (e, h) (early_ended 4 t)

    module _ (h : long_enough t (peb_count_of g image) ≡ true) where
      pub room_of : Placed g → Room g (peb_count_of g image) image t
      unfolding image_rules room_rules
      room_of p = record {
        placed = p;
        whole = image_whole g image e;
        least = image_least g image e;
        few = image_few g image e;
        long_pebs = leb-true _ (length t.pebs) (each_holds (room_rules t (peb_count_of g image)) h 0);
        long_map = leb-true _ (length t.map) (each_holds (room_rules t (peb_count_of g image)) h 1);
        long_states = leb-true _ (length t.states) (each_holds (room_rules t (peb_count_of g image)) h 2);
      }

      pub ended_image : {r : Result Report Refused} {t' : Tables} → Ended (outcome g (peb_count_of g image) image) r t t'
          → Ended end r t t'
      ended_image o = rw (e, h) o

-- the promise of attaching, from how it ends
module _ (slip image : List ℕ) (t : Tables) (a : Answer Geometry) (e : a ≡ slip_geometry slip) where
  pub promised : {r : Result Report Refused} {t' : Tables} → Ended (by_geometry image (long_enough t) a) r t t'
      → (attached_answer r ≡ answer_of (attaching_into (request slip) image t))
      × (t' ≡ tables_after (attaching_into (request slip) image t) t)
  unfolding attaching
  promised o = rw (← e) (o.answer, o.tables_are)

-- ---- refusals 5 to 8

module _ {g : Geometry} {n : ℕ} {image : List ℕ} {t : Tables} (rm : Room g n image t) where
  module _ {pebs₁ map₁ : List ℕ} where
    pub pass_refusal : {e : Refused} → Passed (medium_of g n image) (Err e) t.pebs pebs₁ t.map map₁
        → refusal (medium_of g n image) ≡ some (record { number = e.number; place = e.place })
    unfolding refusal
    pass_refusal o = rw (sym o.refusal)

    pub pass_beyond : {r : Result ScanTotals Refused} → Passed (medium_of g n image) r t.pebs pebs₁ t.map map₁
        → SameBeyond n t (lent pebs₁ map₁ t.states)
    pass_beyond o = record { pebs_tail = o.pebs_tail; map_tail = o.map_tail; states_tail = refl }

    pub past_eight : {s : ScanTotals} → Passed (medium_of g n image) (Ok s) t.pebs pebs₁ t.map map₁
        → length pebs₁ ≡ length t.pebs → length map₁ ≡ length t.map → Past8 g n image s (lent pebs₁ map₁ t.states)
    past_eight o lp lm = record {
      room = record {
        placed = rm.placed;
        whole = rm.whole;
        least = rm.least;
        few = rm.few;
        long_pebs = omega (arith, rm.long_pebs, lp);
        long_map = omega (arith, rm.long_map, lm);
        long_states = rm.long_states;
      };
      totals = o.totals;
      no5678 = sym o.refusal;
      pebs_are = o.pebs_are ∙ ap (λ (x : List ℕ). first_words_of n (views_of g image) ++ x) (sym o.pebs_tail);
      map_is = o.map_is ∙ ap (λ (x : List ℕ). keys_of n (views_of g image) ++ x) (sym o.map_tail);
    }

-- ---- refusals 9 and 10

module _ {g : Geometry} {n : ℕ} {image : List ℕ} {s : ScanTotals} {t : Tables} (p : Past8 g n image s t)
    {map₁ heads heads₁ : List ℕ} (o : Chains n n t.map map₁ heads heads₁) where
  abbrev keys : ℕ → List ℕ
  keys i = key_words i (views_of g image i).vid

  pub keyed : Keyed g image n map₁
  keyed = record {
    placed = p.room.placed;
    whole = p.room.whole;
    long = o.chained.long_map;
    volumes = λ i h. o.relinked.volumes i
        ∙ volume_at n keys _ p.map_is (λ j. key_length j (views_of g image j).vid) i h;
    lnums = λ i h. o.relinked.lnums i ∙ lnum_at n keys _ p.map_is (λ j. key_length j (views_of g image j).vid) i h;
  }

  pub link_beyond : SameBeyond n t (lent t.pebs map₁ t.states)
  link_beyond = record { pebs_tail = refl; map_tail = o.relinked.tail; states_tail = refl }

  pub repeat_refusal : (r : ℕ) → repeat_at (Some r) ≡ refusal9 n (copies (views_of g image))
      → refusal (medium_of g n image) ≡ some (record { number = 9; place = r })
  unfolding refusal
  repeat_refusal r e = rw (p.no5678, sym e)

  module _ (e : repeat_at None ≡ refusal9 n (copies (views_of g image))) where
    pub unused_refusal : s.vid.unused ≡ true
        → refusal (medium_of g n image) ≡ some (record { number = 10; place = 0 })
    unfolding refusal refusal10
    unused_refusal u = let q = sym p.totals.unused ∙ u in rw (p.no5678, sym e, q)

    none10 : s.vid.unused ≡ false → refusal10 (medium_of g n image) ≡ none
    unfolding refusal10
    none10 u = let q = sym p.totals.unused ∙ u in rw q

    pub linking : (Linking g image n map₁ heads₁) × (MarkedTo (medium_of g n image) map₁ t.pebs 0)
    linking = (
      record { keyed = keyed; chained = o.chained; no_repeat = sym e },
      marked_none p.room.long_pebs p.pebs_are,
    )

    module _ {pebs₂ : List ℕ} (lp : length pebs₂ ≡ length t.pebs)
        (me : pebs₂ ≡ marked_words (places (medium_of g n image)) n (views_of g image) ++ drop (peb_words_needed n) t.pebs)
      where
        marked_tail : drop (peb_words_needed n) pebs₂ ≡ drop (peb_words_needed n) t.pebs
        marked_tail = words_tail (peb_words_needed n) (marked_words (places (medium_of g n image)) n (views_of g image))
            t.pebs me lp p.room.long_pebs

        pub mark_beyond : SameBeyond n t (lent pebs₂ map₁ t.states)
        mark_beyond = record { pebs_tail = marked_tail; map_tail = o.relinked.tail; states_tail = refl }

        pub past_ten : s.vid.unused ≡ false → Past10 g n image s (lent pebs₂ map₁ t.states)
        past_ten u =
            let long_pebs : peb_words_needed n ≤ length pebs₂ = omega (arith, p.room.long_pebs, lp) in
            record {
              room = record {
                placed = p.room.placed;
                whole = p.room.whole;
                least = p.room.least;
                few = p.room.few;
                long_pebs = long_pebs;
                long_map = o.chained.long_map;
                long_states = p.room.long_states;
              };
              chosen = record {
                keyed = keyed;
                long_pebs = long_pebs;
                pebs_are = me ∙ ap (λ (x : List ℕ). marked_words (places (medium_of g n image)) n (views_of g image) ++ x)
                    (sym marked_tail);
              };
              totals = p.totals;
              no5678 = p.no5678;
              no9 = sym e;
              no10 = none10 u;
            }

-- ---- the table taken

module _ {g : Geometry} {n : ℕ} {image : List ℕ} {s : ScanTotals} {t : Tables} (p : Past10 g n image s t) where
  abbrev copy_of : ℕ → List ℕ
  copy_of l = layout_content (faces (medium_of g n image) layout_volume l)

  module _ {c0 c1 : List ℕ} (e0 : c0 ≡ copy_of 0) (e1 : c1 ≡ copy_of 1)
      (k : rust.Option ℕ) (e : taken_number k ≡ taken_leb g.leb_size g.unit n c0 c1) where
    taken_as : taken_number k ≡ taken (medium_of g n image)
    unfolding table_leb
    taken_as = e ∙ ap₂ (taken_leb g.leb_size g.unit n) e0 e1

    module _ {m : ℕ} (em : m ≡ copies_mark_of g.leb_size g.unit n c0 c1) where
      mark_as : m ≡ mark (medium_of g n image)
      unfolding table_mark
      mark_as = em ∙ ap₂ (copies_mark_of g.leb_size g.unit n) e0 e1

      pub table_past : {l : ℕ} {r : List ℕ} → k ≡ Some l → r ≡ records_taken g.leb_size (taken_number k) c0 c1
          → Past11 g n image s r l m t
      unfolding table_leb table_records
      table_past kf q = record {
        past10 = p;
        table_is = q ∙ taken_records_lem g.leb_size g.unit n c0 c1 e
            ∙ ap₂ (taken_records g.leb_size g.unit n) e0 e1;
        taken_is = sym taken_as ∙ ap taken_number kf;
        mark_is = mark_as;
      }

    pub no_table : k ≡ None → refusal (medium_of g n image) ≡ some (record { number = 11; place = 0 })
    no_table kf =
        let z : taken (medium_of g n image) ≡ refused 11 0 = sym taken_as ∙ ap taken_number kf in
        late_refusal p ∙ rw z
