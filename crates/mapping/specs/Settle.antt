-- What the contracts here cite: the words of a PEB once the table is known. No public promise names them. Assumes
-- nothing.
use Rattle.std.specs.Prelude.{◌≡◌, ℕ, ◌*◌, ◌<◌, cond, List, [], ◌∷◌, ◌++◌, eqb, length, get_or, drop}
use Rattle.std.proofs.Math.Option.{some}
use Rattle.base.specs.Below.{concat_below}
use Rattle.base.specs.Lists.{put}
use Rattle.header.specs.Vid.{layout_volume}
use Rattle.words.specs.Words.{no_word, peb_stride, entry_stride, peb_words_needed, map_words_needed, class_word, counter_word, volume_word, lnum_word}
use Rattle.report.specs.View.{Copy, Medium, copies}
use Rattle.report.specs.Report.{stays_in, records, places, entries}
use Rattle.report.specs.Attach.{peb_words, map_words}
use Rattle.report.specs.Scratch.{key_words, marked_words}

-- a chosen copy (class 1) that does not stay in the map is class 5; the other classes stay
abbrev pub settled_class : List ℕ → ℕ → ℕ → ℕ → ℕ
settled_class t k v l = cond (eqb k 1) (cond (stays_in t v l) 1 5) k

-- volume and LEB where the settled class is 1; the third word is an empty slot
abbrev pub settled_key : ℕ → ℕ → ℕ → List ℕ
settled_key k v l = cond (eqb k 1) v no_word ∷ cond (eqb k 1) l no_word ∷ no_word ∷ []

-- the class of PEB i, and its words, settled
abbrev pub class_from : List ℕ → List ℕ → List ℕ → ℕ → ℕ
class_from t pebs map i = settled_class t (class_word pebs i) (volume_word map i) (lnum_word map i)

abbrev pub peb_row : List ℕ → List ℕ → List ℕ → ℕ → List ℕ
peb_row t pebs map i = class_from t pebs map i ∷ counter_word pebs i ∷ []

abbrev pub map_row : List ℕ → List ℕ → List ℕ → ℕ → List ℕ
map_row t pebs map i = settled_key (class_from t pebs map i) (volume_word map i) (lnum_word map i)

-- PEB i is settled
pub record PebSettled (t : List ℕ) (i : ℕ) (pebs pebs' map map' : List ℕ) : Type 0 where
  pub pebs_are : pebs' ≡ put (i * peb_stride) (peb_row t pebs map i) pebs
  pub map_is : map' ≡ put (i * entry_stride) (map_row t pebs map i) map

-- the first n PEBs are settled, and the others as they were
pub record Settled (t : List ℕ) (n : ℕ) (pebs pebs' map map' : List ℕ) : Type 0 where
  pub pebs_are : pebs' ≡ concat_below n (peb_row t pebs map) ++ drop (peb_words_needed n) pebs
  pub map_is : map' ≡ concat_below n (map_row t pebs map) ++ drop (map_words_needed n) map

-- the words once the copies are chosen: marked classes with counters, volumes and LEBs of all copies; and the records
-- of the table taken
pub record Marked (m : Medium) (t pebs map : List ℕ) : Type 0 where
  pub table_is : t ≡ records m
  pub pebs_are : pebs ≡ marked_words (places m) m.count m.views ++ drop (peb_words_needed m.count) pebs
  pub volumes : (i : ℕ) → i < m.count → volume_word map i ≡ get_or (key_words i (m.views i).vid) 0 0
  pub lnums : (i : ℕ) → i < m.count → lnum_word map i ≡ get_or (key_words i (m.views i).vid) 1 0
  pub layout_small : (i : ℕ) (c : Copy) → copies m.views i ≡ some c → c.header.volume ≡ layout_volume
      → c.header.lnum < 2

-- the words of the report then: classes and counters, and the map with its number of entries
pub record Mapped (m : Medium) (count : ℕ) (pebs pebs' map map' : List ℕ) : Type 0 where
  pub pebs_are : pebs' ≡ peb_words m ++ drop (peb_words_needed m.count) pebs
  pub map_is : map' ≡ map_words m.count (entries m) ++ drop (map_words_needed m.count) map
  pub count_is : count ≡ length (entries m)
