-- 01 'The report': the words of the lent tables, where they stand and how many there are. Assumes nothing.
use Rattle.std.specs.Prelude.{ℕ, ◌+◌, ◌*◌, ◌≤◌, List, length, get_or}

-- "0xFFFFFFFF"
abbrev pub no_word : ℕ
no_word = 0xFFFFFFFF

-- "Per PEB two u32 words: class, and counter"
abbrev pub peb_stride : ℕ
peb_stride = 2

-- "three words per entry (volume, LEB, PEB)"
abbrev pub entry_stride : ℕ
entry_stride = 3

-- "2 to 4,096 whole PEBs"
abbrev pub most_pebs : ℕ
most_pebs = 4096

-- the words that the report needs of each lent table for n PEBs; "up to 3 times PEB count in the map", "128 words"
abbrev pub peb_words_needed : ℕ → ℕ
peb_words_needed n = n * peb_stride

abbrev pub map_words_needed : ℕ → ℕ
map_words_needed n = n * entry_stride

abbrev pub state_words_needed : ℕ
state_words_needed = 128

-- the words of PEB i
abbrev pub class_word : List ℕ → ℕ → ℕ
class_word pebs i = get_or pebs (i * peb_stride) 0

abbrev pub counter_word : List ℕ → ℕ → ℕ
counter_word pebs i = get_or pebs (i * peb_stride + 1) 0

-- the words of entry k
abbrev pub volume_word : List ℕ → ℕ → ℕ
volume_word map k = get_or map (k * entry_stride) 0

abbrev pub lnum_word : List ℕ → ℕ → ℕ
lnum_word map k = get_or map (k * entry_stride + 1) 0

abbrev pub peb_word : List ℕ → ℕ → ℕ
peb_word map k = get_or map (k * entry_stride + 2) 0

-- the table has the words of PEB i; the map has those of entry k
abbrev pub HasPeb : List ℕ → ℕ → Type 0
HasPeb pebs i = i * peb_stride + peb_stride ≤ length pebs

abbrev pub HasEntry : List ℕ → ℕ → Type 0
HasEntry map k = k * entry_stride + entry_stride ≤ length map
