-- What a look into tables finds. Assumes nothing.
use mathlib.Core.Path.{◌≡◌}
use mathlib.Core.Bool.{true, false}
use mathlib.Core.Option.{none, some}
use mathlib.Core.List.{List}
use Prim.Native.Nat.{ℕ, ◌+◌, ◌*◌, ◌≤◌, ◌<◌}
use borrow.Author.Tests.{lt-ltb, le-leb}
use lib.ListN.{length}
use Rattle.base.proofs.Below.{first_none, first_is}
use Rattle.words.specs.Words.{peb_stride, map_words_needed, class_word, counter_word, peb_word, HasPeb}
use Rattle.lookup.specs.Lookup.{peb_in, is_entry, place_at, place_in}

-- ---- one PEB

pub peb_there : (pebs : List ℕ) (n i : ℕ) → i < n → HasPeb pebs i
    → some (class_word pebs i, counter_word pebs i) ≡ peb_in pebs n i
unfolding peb_in
peb_there pebs n i h k = rw (lt-ltb i n h, le-leb (i * peb_stride + peb_stride) (length pebs) k)

-- ---- one LEB

module _ (map : List ℕ) (k v l : ℕ) (long : map_words_needed k ≤ length map) where
  -- no entry is that of the LEB
  pub no_entry : ((i : ℕ) → i < k → is_entry map v l i ≡ false) → none ≡ place_in map k v l
  unfolding place_in
  no_entry h = rw (le-leb (map_words_needed k) (length map) long, first_none k (place_at map v l) (λ i q. rw (h i q)))

  -- entry i is the first
  pub first_entry : (i : ℕ) → i < k → ((j : ℕ) → j < i → is_entry map v l j ≡ false) → is_entry map v l i ≡ true
      → some (peb_word map i) ≡ place_in map k v l
  unfolding place_in
  first_entry i q h e =
      rw (
        le-leb (map_words_needed k) (length map) long,
        first_is (place_at map v l) k i (peb_word map i) q (first_none i (place_at map v l) (λ j w. rw (h j w))) (rw e),
      )
