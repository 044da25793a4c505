-- 01 'The report': what lent tables that hold a report say of one PEB, and of one LEB. Assumes nothing.
use Rattle.std.specs.declared.option.Option as rust
use Rattle.std.specs.Prelude.{Some, None, ℕ, ◌+◌, ◌*◌, Bool, ◌&&◌, cond, List, eqb, ltb, leb, length}
use Rattle.std.proofs.Math.Option.{Option, none, some}
use Rattle.base.specs.Answers.{map_o}
use Rattle.base.specs.Below.{first_below}
use Rattle.words.specs.Words.{peb_stride, entry_stride, class_word, counter_word, volume_word, lnum_word, peb_word}
use Rattle.lookup.specs.declared.PebReport.{PebReport}

-- "Per PEB two u32 words: class, and counter": those of PEB i, of n
unfoldable pub peb_in : List ℕ → ℕ → ℕ → Option (ℕ × ℕ)
peb_in pebs n i =
    cond (ltb i n && leb (i * peb_stride + peb_stride) (length pebs)) (some (class_word pebs i, counter_word pebs i)) none

abbrev pub peb_answer : rust.Option PebReport → Option (ℕ × ℕ)
peb_answer (Some r) = some (r.class, r.counter)
peb_answer None = none

-- is entry i that of the volume's LEB?
abbrev pub is_entry : List ℕ → ℕ → ℕ → ℕ → Bool
is_entry map v l i = eqb (volume_word map i) v && eqb (lnum_word map i) l

-- the PEB of entry i, if it is that of the volume's LEB
abbrev pub place_at : List ℕ → ℕ → ℕ → ℕ → Option ℕ
place_at map v l i = cond (is_entry map v l i) (some (peb_word map i)) none

-- the PEB of the first of so many entries that is of the volume's LEB
unfoldable pub place_in : List ℕ → ℕ → ℕ → ℕ → Option ℕ
place_in map k v l = cond (leb (k * entry_stride) (length map)) (map_o (λ x. x.1) (first_below k (place_at map v l))) none

abbrev pub place_answer : rust.Option ℕ → Option ℕ
place_answer (Some p) = some p
place_answer None = none
