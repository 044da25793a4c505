-- What the contracts here cite beside the report's definitions: the map's words after the first pass. Assumes nothing.
use Rattle.std.specs.declared.option.Option as rust
use Rattle.std.specs.Prelude.{Some, None, IfSome, MatchOption, ◌≡◌, Bool, true, not, ◌&&◌, cond, List, ℕ, ◌+◌, ◌*◌, ◌≤◌, ◌<◌, eqb, ltb, leb, length, get_or}
use Rattle.std.proofs.Math.Option.{Option, none, some}
use Rattle.words.specs.Words.{no_word, map_words_needed, HasEntry, volume_word, lnum_word}
use Rattle.geometry.specs.declared.Geometry.{Geometry}
use Rattle.geometry.specs.Placed.{Placed}
use Rattle.report.specs.View.{views_of, copies}
use Rattle.report.specs.Choice.{refusal9}
use Rattle.report.specs.Scan.{Refusal}
use Rattle.report.specs.Scratch.{key_words}
use Rattle.copies.specs.InPlace.{header_at}

-- PEB i holds a user or layout LEB
abbrev pub Holds : List ℕ → ℕ → Type 0
Holds map i = volume_word map i ≡ no_word → ⊥

-- an image of n PEBs, and the lent words: the first two of each PEB's three hold its volume and LEB
pub record Keyed (g : Geometry) (image : List ℕ) (n : ℕ) (map : List ℕ) : Type 0 where
  pub placed : Placed g
  pub whole : length image ≡ n * g.peb_size
  pub long : map_words_needed n ≤ length map
  pub volumes : (i : ℕ) → i < n → volume_word map i ≡ get_or (key_words i (views_of g image i).vid) 0 0
  pub lnums : (i : ℕ) → i < n → lnum_word map i ≡ get_or (key_words i (views_of g image i).vid) 1 0

-- the sequence in PEB i's VID header
abbrev pub sequence_at : Geometry → List ℕ → ℕ → ℕ
sequence_at g image i = (header_at g image i).sequence

-- PEB i lies within the image, and its three words within the map
pub record Within (g : Geometry) (image map : List ℕ) (i : ℕ) : Type 0 where
  pub placed : Placed g
  pub bytes : (i + 1) * g.peb_size ≤ length image
  pub words : HasEntry map i

-- do the words of two PEBs name one volume and LEB?
abbrev pub same_leb : List ℕ → ℕ → ℕ → Bool
same_leb map i j = eqb (volume_word map i) (volume_word map j) && eqb (lnum_word map i) (lnum_word map j)

-- does PEB i, which holds a user or layout LEB, repeat the volume, LEB and sequence of PEB j?
abbrev pub repeats_at : Geometry → List ℕ → List ℕ → ℕ → ℕ → Bool
repeats_at g image map i j =
    not (eqb (volume_word map i) no_word) && (same_leb map i j && eqb (sequence_at g image i) (sequence_at g image j))

-- the refusal that a first repeat stands for, if there is one
abbrev pub repeat_at : rust.Option ℕ → Option Refusal
repeat_at (Some r) = some (record { number = 9; place = r })
repeat_at None = none

-- PEB i holds a user or layout LEB, and no copy repeats another
pub record Choosing (g : Geometry) (image : List ℕ) (n : ℕ) (map : List ℕ) (i : ℕ) : Type 0 where
  pub keyed : Keyed g image n map
  pub below : i < n
  pub holds : Holds map i
  pub no_repeat : refusal9 n (copies (views_of g image)) ≡ none

-- has `best`, if there is one, a lower sequence than PEB j?
abbrev pub lower_than : Geometry → List ℕ → ℕ → rust.Option ℕ → Bool
lower_than g image j (Some best) = ltb (sequence_at g image best) (sequence_at g image j)
lower_than g image j None = true

-- the better of `best` and PEB j: of the copies of PEB i's LEB with a sequence of at most `most`, the one with the
-- higher
abbrev pub higher_of : Geometry → List ℕ → List ℕ → ℕ → ℕ → rust.Option ℕ → ℕ → rust.Option ℕ
higher_of g image map i most best j =
    cond (same_leb map i j && (leb (sequence_at g image j) most && lower_than g image j best)) (Some j) best

-- r is, of the copies of PEB i's LEB in the PEBs from k on with a sequence of at most `most`, one with the highest
-- sequence, if there is one
pub record Highest (g : Geometry) (image : List ℕ) (n : ℕ) (map : List ℕ) (i most k : ℕ)
    (r : rust.Option ℕ) : Type 0 where
  pub below : IfSome r (λ b. b < n)
  pub is : IfSome r (λ b. (same_leb map i b ≡ true) × (sequence_at g image b ≤ most))
  pub leads : (j : ℕ) → k ≤ j → j < n → same_leb map i j ≡ true → sequence_at g image j ≤ most
      → MatchOption r ⊥ (λ b. sequence_at g image j ≤ sequence_at g image b)
