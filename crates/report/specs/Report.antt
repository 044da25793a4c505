-- 01 'The report': its numbers as total functions of the views, and refusals 5 to 12 in their order. Assumes nothing.
use Rattle.std.specs.Prelude.{ℕ, ◌/◌, Bool, true, false, not, ◌&&◌, ◌||◌, cond, List, eqb, ltb}
use Rattle.std.proofs.Math.Option.{Option, none, some}
use Rattle.base.specs.Answers.{Answer, or_else}
use Rattle.words.specs.Words.{no_word}
use Rattle.base.specs.Below.{all_below, any_below, count_below, sum_below, max_below}
use Rattle.header.specs.Vid.{layout_volume}
use Rattle.header.specs.declared.EcHeader.{EcHeader}
use Rattle.report.specs.View.{Copy, EcView, VidView, Medium, ecs, copies, is_mappable}
use Rattle.report.specs.Class.{class_by}
use Rattle.report.specs.Scan.{Refusal, refusal5678, refusal10}
use Rattle.report.specs.Choice.{refusal9}
use Rattle.report.specs.Volumes.{
  Faces,
  Places,
  faces_of,
  places_of,
  table_leb,
  table_records,
  table_mark,
  record_for,
  reserved_of,
  Entry,
  map_of,
  refusal1112,
  state_of,
}

-- is the PEB the one in which the LEB is found?
abbrev pub is_place : Option ℕ → ℕ → Bool
is_place none i = false
is_place (some p) i = eqb p i

-- "A chosen user copy whose record is empty or absent, or whose LEB is not below reserved, becomes class 5": does it
-- stay?
abbrev pub stays_in : List ℕ → ℕ → ℕ → Bool
stays_in t v l = eqb v layout_volume || ltb l (reserved_of (record_for t v))

-- "1 chosen; 2 passed over", or class 5 if it was chosen and does not stay
abbrev pub copy_class : List ℕ → Places → ℕ → Copy → ℕ
copy_class t ps i c =
    cond (is_place (ps c.header.volume c.header.lnum) i) (cond (stays_in t c.header.volume c.header.lnum) 1 5) 2

-- the class of PEB i, with that of a user or layout copy as above
abbrev pub class_of : List ℕ → Places → ℕ → EcView → VidView → ℕ
class_of t ps i = class_by (copy_class t ps i)

-- the counter of a good EC header, or m if it is lost
abbrev pub counter_or : ℕ → Option EcHeader → ℕ
counter_or m none = m
counter_or m (some h) = h.counter

abbrev pub has_counter : Option EcHeader → Bool
has_counter none = false
has_counter (some h) = true

-- "mean (floor of good counters' sum over their number, 0 if none; otherwise it lies between the lowest and the highest
-- good counter)": a division by 0 gives 0, and the rest is proofs/Mean.antt
unfoldable pub mean_of : Medium → ℕ
mean_of m = sum_below m.count (λ i. counter_or 0 (ecs m.views i)) / count_below m.count (λ i. has_counter (ecs m.views i))

abbrev pub sequence_or0 : Option Copy → ℕ
sequence_or0 none = 0
sequence_or0 (some c) = c.header.sequence

-- "highest sequence of all good VID headers"
unfoldable pub highest_of : ℕ → (ℕ → Option Copy) → ℕ
highest_of n cs = max_below n (λ i. sequence_or0 (cs i))

-- a copy of one of the "Other internal volumes" with this compatibility
abbrev pub is_internal : ℕ → Option Copy → Bool
is_internal k none = false
is_internal k (some c) = not (is_mappable c.header.volume) && eqb c.header.compat k

-- "2, class 6 and the read-only mark"
unfoldable pub read_only_of : ℕ → (ℕ → Option Copy) → Bool
read_only_of n cs = any_below n (λ i. is_internal 2 (cs i))

module _ (m : Medium) where
  abbrev pub faces : Faces
  faces = faces_of m.geometry m.count (copies m.views)

  abbrev pub places : Places
  places = places_of m.count (copies m.views)

  -- the table: the LEB whose table is taken, its records, and the copies mark
  abbrev pub taken : Answer ℕ
  taken = table_leb m faces

  abbrev pub records : List ℕ
  records = table_records m faces

  abbrev pub mark : ℕ
  mark = table_mark m faces

  -- the class of a PEB
  unfoldable pub class_at : ℕ → ℕ
  class_at i = class_of records places i (m.views i).ec (m.views i).vid

  -- "counter (0xFFFFFFFF if lost)"
  unfoldable pub counter_at : ℕ → ℕ
  counter_at i = counter_or no_word (ecs m.views i)

  unfoldable pub entries : List Entry
  entries = map_of records places

  unfoldable pub state_at : ℕ → ℕ
  state_at v = state_of records faces v

  -- "Grade is 0 exactly if no PEB is class 4, only class 3 has lost counters, copies mark is 0, and no state is 2 or 3;
  -- else 1."
  unfoldable pub grade_of : ℕ
  grade_of =
      cond (all_below m.count (λ i. not (eqb (class_at i) 4))
      && (all_below m.count (λ i. eqb (class_at i) 3 || has_counter (ecs m.views i))
      && (eqb mark 0 && all_below 128 (λ v. not (eqb (state_at v) 2 || eqb (state_at v) 3))))) 0 1

  -- refusals 5 to 12, "in order of checking"
  unfoldable pub refusal : Option Refusal
  refusal =
      or_else (refusal5678 m)
      (or_else (refusal9 m.count (copies m.views)) (or_else (refusal10 m) (refusal1112 taken records faces places)))
