-- Words that are set or stored, and words that stand in rows. Assumes nothing.
use mathlib.Core.Path.{◌≡◌, refl, ap}
use mathlib.Core.Logic.{◌≢◌}
use mathlib.Core.List.{List, [], ◌∷◌, ◌++◌}
use Prim.Native.Nat.{ℕ, zero, suc, ◌+◌, ◌*◌, ◌≤◌, ◌<◌}
use native.Mathlib.Nat.{suc-add}
use native.Mathlib.Omega.{arith}
use lib.ListN.{length, drop, get_or, set}
use lib.Seq.{get_or-set_same, get_or-set_other, drop-set-lt}
use Rattle.base.specs.Below.{concat_below}
use Rattle.base.specs.Lists.{put}
use Rattle.base.proofs.Rows.{row_word, row_first}
use Rattle.words.specs.Words.{peb_stride, entry_stride, class_word, counter_word, volume_word, lnum_word, peb_word, HasPeb, HasEntry}

-- ---- words stored one after the other

pub set_two : (d : List ℕ) (k a b : ℕ) → k + 2 ≤ length d → set (set d k a) (k + 1) b ≡ put k (a ∷ b ∷ []) d
set_two [] k a b h = absurd (omega arith)
set_two (x ∷ []) zero a b h = absurd (omega arith)
set_two (x ∷ y ∷ d) zero a b h = refl
set_two (x ∷ d) (suc k) a b h =
    rw (suc-add k 1, suc-add k 2) (ap (λ (l : List ℕ). x ∷ l) (set_two d k a b (omega arith)))

pub set_three : (d : List ℕ) (k a b c : ℕ) → k + 3 ≤ length d
    → set (set (set d k a) (k + 1) b) (k + 2) c ≡ put k (a ∷ b ∷ c ∷ []) d
set_three [] k a b c h = absurd (omega arith)
set_three (x ∷ []) zero a b c h = absurd (omega arith)
set_three (x ∷ y ∷ []) zero a b c h = absurd (omega arith)
set_three (x ∷ y ∷ z ∷ d) zero a b c h = refl
set_three (x ∷ d) (suc k) a b c h =
    rw (suc-add k 1, suc-add k 2, suc-add k 3) (ap (λ (l : List ℕ). x ∷ l) (set_three d k a b c (omega arith)))

-- ---- the class of PEB i set

module _ (pebs : List ℕ) (i class : ℕ) where
  abbrev class_set : List ℕ
  class_set = set pebs (i * peb_stride) class

  pub class_set_same : HasPeb pebs i → class_word class_set i ≡ class
  class_set_same h = get_or-set_same pebs (i * peb_stride) class 0 (omega arith)

  pub class_set_other : (j : ℕ) → j ≢ i → class_word class_set j ≡ class_word pebs j
  class_set_other j ne = get_or-set_other pebs (i * peb_stride) (j * peb_stride) class 0 (λ e. ne (omega arith))

  pub class_set_counter : (j : ℕ) → counter_word class_set j ≡ counter_word pebs j
  class_set_counter j = get_or-set_other pebs (i * peb_stride) (j * peb_stride + 1) class 0 (λ e. omega arith)

  pub class_set_tail : (n : ℕ) → i < n → drop (n * peb_stride) class_set ≡ drop (n * peb_stride) pebs
  class_set_tail n h = drop-set-lt (n * peb_stride) pebs (i * peb_stride) class (omega arith)

-- ---- the PEB of entry k set

module _ (map : List ℕ) (k peb : ℕ) where
  abbrev peb_set : List ℕ
  peb_set = set map (k * entry_stride + 2) peb

  pub peb_set_same : HasEntry map k → peb_word peb_set k ≡ peb
  peb_set_same h = get_or-set_same map (k * entry_stride + 2) peb 0 (omega arith)

  pub peb_set_other : (j : ℕ) → j ≢ k → peb_word peb_set j ≡ peb_word map j
  peb_set_other j ne = get_or-set_other map (k * entry_stride + 2) (j * entry_stride + 2) peb 0 (λ e. ne (omega arith))

  pub peb_set_volume : (j : ℕ) → volume_word peb_set j ≡ volume_word map j
  peb_set_volume j = get_or-set_other map (k * entry_stride + 2) (j * entry_stride) peb 0 (λ e. omega arith)

  pub peb_set_lnum : (j : ℕ) → lnum_word peb_set j ≡ lnum_word map j
  peb_set_lnum j = get_or-set_other map (k * entry_stride + 2) (j * entry_stride + 1) peb 0 (λ e. omega arith)

  pub peb_set_tail : (n : ℕ) → k < n → drop (n * entry_stride) peb_set ≡ drop (n * entry_stride) map
  peb_set_tail n h = drop-set-lt (n * entry_stride) map (k * entry_stride + 2) peb (omega arith)

-- ---- words that begin with n rows: those of row i

module _ (n : ℕ) (row : ℕ → List ℕ) (rest : List ℕ) {words : List ℕ} (e : words ≡ concat_below n row ++ rest) where
  module _ (wide : (j : ℕ) → length (row j) ≡ peb_stride) (i : ℕ) (h : i < n) where
    pub class_at_lem : class_word words i ≡ get_or (row i) 0 0
    class_at_lem = rw e (row_first n peb_stride row rest wide i h (omega arith))

    pub counter_at_lem : counter_word words i ≡ get_or (row i) 1 0
    counter_at_lem = rw e (row_word n peb_stride row rest wide i 1 h (omega arith))

  module _ (wide : (j : ℕ) → length (row j) ≡ entry_stride) (i : ℕ) (h : i < n) where
    pub volume_at : volume_word words i ≡ get_or (row i) 0 0
    volume_at = rw e (row_first n entry_stride row rest wide i h (omega arith))

    pub lnum_at : lnum_word words i ≡ get_or (row i) 1 0
    lnum_at = rw e (row_word n entry_stride row rest wide i 1 h (omega arith))

    pub peb_at_lem : peb_word words i ≡ get_or (row i) 2 0
    peb_at_lem = rw e (row_word n entry_stride row rest wide i 2 h (omega arith))
