-- What the contracts here cite: the copies of a LEB along chains of links, while copies are compared. No public promise
-- names them. Assumes nothing.
use Rattle.std.specs.Prelude.{◌≡◌, cond, List, ℕ, ◌+◌, ◌*◌, ◌%◌, ◌≤◌, ◌<◌, eqb, length, drop, get_or}
use Rattle.words.specs.Words.{no_word, most_pebs, map_words_needed, volume_word, lnum_word, peb_word}
use Rattle.choice.specs.Keyed.{Holds}

abbrev pub buckets : ℕ
buckets = 2048

-- the bucket of a volume's LEB
abbrev pub bucket_of : ℕ → ℕ → ℕ
bucket_of volume lnum = volume % 4 * 512 + lnum % 512

-- the bucket of PEB i. A PEB that holds no user or layout LEB is in none of them
unfoldable pub bucket_at : List ℕ → ℕ → ℕ
bucket_at map i = cond (eqb (volume_word map i) no_word) buckets (bucket_of (volume_word map i) (lnum_word map i))

-- w is the highest PEB below m in bucket b; no word if there is none
pub record Nearest (map : List ℕ) (b m w : ℕ) : Type 0 where
  pub is : w < m → bucket_at map w ≡ b
  pub none : m ≤ w → w ≡ no_word
  pub skips : (k : ℕ) → k < m → bucket_at map k ≡ b → (w < m) × (k ≤ w)

-- PEB i, if it is in a bucket, is linked to the nearest below it; and so is each of the first m PEBs
abbrev pub Link : List ℕ → ℕ → Type 0
Link map i = Holds map i → Nearest map (bucket_at map i) i (peb_word map i)

abbrev pub Linked : ℕ → List ℕ → Type 0
Linked m map = (i : ℕ) → i < m → Link map i

-- the first m of n PEBs are linked, and each bucket's head is the nearest below m
pub record Chained (n m : ℕ) (map heads : List ℕ) : Type 0 where
  pub few : n ≤ most_pebs
  pub long_map : map_words_needed n ≤ length map
  pub long_heads : buckets ≤ length heads
  pub links : Linked m map
  pub tops : (b : ℕ) → b < buckets → Nearest map b m (get_or heads b 0)

-- map' has other links than map: the volumes, the LEBs and the words beyond n PEBs are the same
pub record Relinked (n : ℕ) (map map' : List ℕ) : Type 0 where
  pub size : length map' ≡ length map
  pub volumes : (i : ℕ) → volume_word map' i ≡ volume_word map i
  pub lnums : (i : ℕ) → lnum_word map' i ≡ lnum_word map i
  pub tail : drop (map_words_needed n) map' ≡ drop (map_words_needed n) map

-- map' and heads' link the first m of n PEBs, and map' is otherwise as map
pub record Chains (n m : ℕ) (map map' heads heads' : List ℕ) : Type 0 where
  pub chained : Chained n m map' heads'
  pub relinked : Relinked n map map'
  pub heads_size : length heads' ≡ length heads
