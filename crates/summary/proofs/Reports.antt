-- From the table taken on, attaching ends as 01 says. Assumes nothing.
use mathlib.Core.Path.{◌≡◌, refl, sym, ap, ◌∙◌}
use mathlib.Core.Option.{none, some}
use mathlib.Core.List.{List, ◌++◌}
use Prim.Native.Nat.{ℕ, ◌*◌, ◌/◌, ◌%◌, ◌≤◌}
use native.Mathlib.Nat.{mul-mod_right, min-le_left}
use native.Mathlib.Omega.{arith}
use borrow.Author.Tests.{leb-true}
use lib.ListN.{length, drop, length-take}
use Rattle.base.specs.Answers.{given}
use Rattle.base.proofs.Answers.{each_holds}
use Rattle.words.specs.Words.{peb_words_needed, map_words_needed, state_words_needed, peb_word}
use Rattle.geometry.specs.declared.Geometry.{Geometry}
use Rattle.volume_table.specs.Table.{record_count, records_part, table_tests, table_good}
use Rattle.report.specs.View.{Medium, medium_of}
use Rattle.report.specs.Volumes.{table_leb, table_records}
use Rattle.report.specs.Report.{entries, mean_of, grade_of, refusal, records}
use Rattle.report.specs.Attach.{Tables, lent, peb_words, map_words, state_words, report_of}
use Rattle.report.specs.declared.Report.{Report}
use Rattle.std.specs.Prelude.{Some, None, Ok}
use Rattle.report.proofs.Tables.{TakenIn}
use Rattle.report.proofs.Tables as tables
use Rattle.scan.specs.declared.ScanTotals.{ScanTotals}
use Rattle.layout.proofs.Contents.{layout_small}
use Rattle.mapping.specs.Settle.{Marked, Mapped}
use Rattle.volumes.specs.Sorted.{SortedMap, table_refusal, misfit_refusal}
use Rattle.volumes.proofs.Misfits.{none_misfits}
use Rattle.grade.specs.Words.{Read}
use Rattle.summary.specs.Stage.{Ended, SameBeyond, Past11, Past12, outcome}
use Rattle.summary.proofs.Ends.{words_over, words_take, words_tail, lent_same, lost_word, late_refusal}

module _ {g : Geometry} {n : ℕ} {image : List ℕ} {s : ScanTotals} {r : List ℕ} {l k : ℕ} {t : Tables}
    (p : Past11 g n image s r l k t) where
  abbrev m : Medium
  m = medium_of g n image

  from : TakenIn m (records m)
  unfolding table_leb table_records
  from = tables.taken _ _ n _ _ l p.taken_is

  pub whole_records : length r % 172 ≡ 0
  unfolding table_good table_tests records_part
  whole_records =
      let c = record_count g.leb_size in
      let q = records_part g.leb_size from.content in
      let e : r ≡ q = p.table_is ∙ from.is in
      let a = leb-true (172 * c) (length q) (each_holds (table_tests c g.leb_size g.unit n q) from.good 1) in
      let b : length q ≤ 172 * c = rw length-take (min-le_left (172 * c) (length from.content)) in
      let f : length r ≡ 172 * c = rw e (omega arith) in
      rw f (mul-mod_right 172 c)

  pub marked : Marked m r t.pebs t.map
  marked = record {
    table_is = p.table_is;
    pebs_are = p.past10.chosen.pebs_are;
    volumes = p.past10.chosen.keyed.volumes;
    lnums = p.past10.chosen.keyed.lnums;
    layout_small = layout_small g image;
  }

  module _ {count : ℕ} {pebs₁ map₁ : List ℕ} (o : Mapped m count t.pebs pebs₁ t.map map₁)
      (lp : length pebs₁ ≡ length t.pebs) (lm : length map₁ ≡ length t.map) where
    pub sorted : SortedMap g n image map₁ r count
    sorted = record {
      placed = p.past10.room.placed;
      whole = p.past10.room.whole;
      words = words_take (map_words_needed n) (map_words n (entries m)) t.map o.map_is lm p.past10.room.long_map;
      count_is = o.count_is;
      table_is = p.table_is;
      leb = l;
      taken_is = p.taken_is;
    }

    pub map_beyond : SameBeyond n t (lent pebs₁ map₁ t.states)
    map_beyond = record {
      pebs_tail = words_tail (peb_words_needed n) (peb_words m) t.pebs o.pebs_are lp p.past10.room.long_pebs;
      map_tail = words_tail (map_words_needed n) (map_words n (entries m)) t.map o.map_is lm p.past10.room.long_map;
      states_tail = refl;
    }

    -- an entry that refusal 12 names
    pub misfit_refusal_lem : (j : ℕ) → misfit_refusal map₁ (Some j) ≡ table_refusal m → {peb : ℕ} → peb ≡ peb_word map₁ j
        → refusal m ≡ some (record { number = 12; place = peb })
    misfit_refusal_lem j e q = late_refusal p.past10 ∙ sym e ∙ rw q

    module _ (e : misfit_refusal map₁ None ≡ table_refusal m) where
      pub past_twelve : Past12 g n image s r l k count (lent pebs₁ map₁ t.states)
      past_twelve = record {
        room = record {
          placed = p.past10.room.placed;
          whole = p.past10.room.whole;
          least = p.past10.room.least;
          few = p.past10.room.few;
          long_pebs = omega (arith, p.past10.room.long_pebs, lp);
          long_map = omega (arith, p.past10.room.long_map, lm);
          long_states = p.past10.room.long_states;
        };
        totals = p.past10.totals;
        pebs_are = words_take (peb_words_needed n) (peb_words m) t.pebs o.pebs_are lp p.past10.room.long_pebs;
        fitting = none_misfits sorted e;
        taken_is = p.taken_is;
        mark_is = p.mark_is;
      }

      pub report_ended : {report : Report} {states₁ : List ℕ} → report ≡ report_of m
          → states₁ ≡ state_words m ++ drop state_words_needed t.states → length states₁ ≡ length t.states
          → Ended (outcome g n image) (Ok report) t (lent pebs₁ map₁ states₁)
      report_ended q se ls =
          let z : refusal m ≡ none = late_refusal p.past10 ∙ sym e in
          rw z
          (record {
            answer = ap given q;
            tables_are =
                lent_same (words_over (peb_words_needed n) (peb_words m) t.pebs o.pebs_are lp p.past10.room.long_pebs)
                (words_over (map_words_needed n) (map_words n (entries m)) t.map o.map_is lm p.past10.room.long_map)
                (words_over state_words_needed (state_words m) t.states se ls p.past10.room.long_states);
          })

-- ---- the report's numbers

module _ {g : Geometry} {n : ℕ} {image : List ℕ} {s : ScanTotals} {r : List ℕ} {l k count : ℕ} {t : Tables}
    (p : Past12 g n image s r l k count t) where
  pub graded : {states₁ : List ℕ} → states₁ ≡ state_words (medium_of g n image) ++ drop state_words_needed t.states
      → length states₁ ≡ length t.states → Read (medium_of g n image) t.pebs states₁ k
  graded se ls = record {
    pebs_are = p.pebs_are;
    states_are = words_take state_words_needed (state_words (medium_of g n image)) t.states se ls p.room.long_states;
    mark_is = p.mark_is;
    lost_only = lost_word g n image;
  }

  pub report_is : {a b : ℕ} → a ≡ s.ec.counters / s.ec.good → b ≡ grade_of (medium_of g n image)
      → record {
        geometry = g;
        peb_count = n;
        entries = count;
        mean = a;
        highest = s.vid.highest;
        image_seq = s.ec.image_seq;
        read_only = s.vid.read_only;
        table = l;
        copies_mark = k;
        grade = b;
      }
      ≡ report_of (medium_of g n image)
  unfolding report_of mean_of
  report_is ae be =
      rw (
        ae,
        be,
        p.fitting.sorted.count_is,
        p.totals.counters,
        p.totals.good,
        p.totals.highest,
        p.totals.image_seq,
        p.totals.read_only,
        p.taken_is,
        p.mark_is,
      )
