-- What the contracts here cite: the totals over the PEBs passed so far, PEB by PEB. No public promise names them.
-- Assumes nothing.
use Rattle.std.specs.Prelude.{◌≡◌, ℕ, ◌*◌, ◌≤◌, ◌<◌, cond, List, [], ◌∷◌, ◌++◌, length, drop, Result, Ok, Err, IfOk, is_ok}
use Rattle.std.proofs.Math.Option.{Option, none, some}
use Rattle.base.specs.Below.{all_below, count_below, sum_below, concat_below}
use Rattle.base.specs.Lists.{put}
use Rattle.geometry.specs.Placed.{Placed}
use Rattle.geometry.specs.declared.Geometry.{Geometry}
use Rattle.words.specs.Words.{no_word, peb_stride, entry_stride, most_pebs, peb_words_needed, map_words_needed, HasPeb, HasEntry}
use Rattle.report.specs.View.{View, Views, Medium, ecs, copies, good_ec}
use Rattle.report.specs.Class.{first_class, is_unused}
use Rattle.report.specs.Scan.{Refusal, image_seq_of, view_refusal, refusal5678}
use Rattle.report.specs.Report.{counter_or, has_counter, highest_of, read_only_of}
use Rattle.report.specs.Scratch.{key_words, keys_of}
use Rattle.scan.specs.Totals.{with_ec, with_vid, SmallTotals, refusal_of}
use Rattle.scan.specs.declared.ScanTotals.{ScanTotals}
use Rattle.refusals.specs.declared.Refused.{Refused}

-- the totals of the first n PEBs
pub record TotalsOf (n : ℕ) (vs : Views) (s : ScanTotals) : Type 0 where
  pub image_seq : s.ec.image_seq ≡ image_seq_of n vs
  pub counters : s.ec.counters ≡ sum_below n (λ i. counter_or 0 (ecs vs i))
  pub good : s.ec.good ≡ count_below n (λ i. has_counter (ecs vs i))
  pub highest : s.vid.highest ≡ highest_of n (copies vs)
  pub read_only : s.vid.read_only ≡ read_only_of n (copies vs)
  pub unused : s.vid.unused ≡ all_below n (λ i. is_unused (vs i).ec (vs i).vid)
  pub counters_small : s.ec.counters ≤ s.ec.good * 0x7FFFFFFF
  pub good_few : s.ec.good ≤ n

-- PEB i with the bytes p can be passed: it is whole, and has its words in the lent tables
pub record PebReady (g : Geometry) (p : List ℕ) (i : ℕ) (s : ScanTotals) (pebs map : List ℕ) : Type 0 where
  pub placed : Placed g
  pub whole : length p ≡ g.peb_size
  pub few : i < most_pebs
  pub has_peb : HasPeb pebs i
  pub has_entry : HasEntry map i
  pub small : SmallTotals s.ec

-- the words of PEB i before any copy is chosen
abbrev pub first_row : View → List ℕ
first_row v = first_class v.ec v.vid ∷ counter_or no_word (good_ec v.ec) ∷ []

abbrev pub first_words_of : ℕ → Views → List ℕ
first_words_of n vs = concat_below n (λ i. first_row (vs i))

-- PEB i of the view v, passed after the totals s: the refusal's number, or the totals with it, and its words stored
pub record PebPassed (g : Geometry) (i : ℕ) (v : View) (s : ScanTotals) (t : Result ScanTotals ℕ)
    (pebs pebs' map map' : List ℕ) : Type 0 where
  pub refusal : refusal_of t ≡ view_refusal g (with_ec s.ec v.ec).image_seq v
  pub ec : IfOk t (λ r. r.ec ≡ with_ec s.ec v.ec)
  pub vid : IfOk t (λ r. r.vid ≡ with_vid s.vid (is_unused v.ec v.vid) v.vid)
  pub pebs_are : pebs' ≡ cond (is_ok t) (put (i * peb_stride) (first_row v) pebs) pebs
  pub map_is : map' ≡ cond (is_ok t) (put (i * entry_stride) (key_words i v.vid) map) map

-- the refusal, if there is one
abbrev pub refused_at : Result ScanTotals Refused → Option Refusal
refused_at (Ok s) = none
refused_at (Err e) = some (record { number = e.number; place = e.place })

-- an image of n PEBs can be passed: they are whole, and have their words in the lent tables
pub record ImageReady (g : Geometry) (n : ℕ) (image pebs map : List ℕ) : Type 0 where
  pub placed : Placed g
  pub whole : length image ≡ n * g.peb_size
  pub few : n ≤ most_pebs
  pub long_pebs : peb_words_needed n ≤ length pebs
  pub long_map : map_words_needed n ≤ length map

-- the pass over all PEBs: refusals 5 to 8; where there is none the totals and words of all. Words beyond stay
pub record Passed (m : Medium) (r : Result ScanTotals Refused) (pebs pebs' map map' : List ℕ) : Type 0 where
  pub refusal : refused_at r ≡ refusal5678 m
  pub totals : IfOk r (λ s. TotalsOf m.count m.views s)
  pub pebs_are : IfOk r (λ s. pebs' ≡ first_words_of m.count m.views ++ drop (peb_words_needed m.count) pebs)
  pub map_is : IfOk r (λ s. map' ≡ keys_of m.count m.views ++ drop (map_words_needed m.count) map)
  pub pebs_tail : drop (peb_words_needed m.count) pebs' ≡ drop (peb_words_needed m.count) pebs
  pub map_tail : drop (map_words_needed m.count) map' ≡ drop (map_words_needed m.count) map
