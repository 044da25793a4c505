-- What the contracts here cite; no public promise names it. Assumes nothing.
use Rattle.std.specs.Prelude.{◌≡◌, ℕ, ◌+◌, ◌*◌, ◌≤◌, ◌<◌, Bool, not, ◌||◌, eqb, ltb, List, length}
use Rattle.std.proofs.Math.Option.{none}
use Rattle.base.specs.Lists.{Bytes}
use Rattle.words.specs.Words.{peb_words_needed, class_word, counter_word}
use Rattle.geometry.specs.declared.Geometry.{Geometry}
use Rattle.geometry.specs.Placed.{Placed}
use Rattle.header.specs.declared.EcHeader.{EcHeader}
use Rattle.report.specs.View.{Medium, medium_of}
use Rattle.report.specs.Report.{refusal, class_at, counter_at}

-- an image of n PEBs that attached, with the words of its PEBs
pub record Reported (g : Geometry) (n : ℕ) (image pebs : List ℕ) : Type 0 where
  pub placed : Placed g
  pub bytes : Bytes image
  pub whole : length image ≡ n * g.peb_size
  pub few : n ≤ 4096
  pub long : peb_words_needed n ≤ length pebs
  pub attached : refusal (medium_of g n image) ≡ none
  pub classes : (i : ℕ) → i < n → class_word pebs i ≡ class_at (medium_of g n image) i
  pub counters : (i : ℕ) → i < n → counter_word pebs i ≡ counter_at (medium_of g n image) i

-- refusal 16's test of a target
abbrev pub is_no_target : Medium → ℕ → Bool
is_no_target m t = not (ltb t m.count) || (not (eqb (class_at m t) 0) || not (m.views t).clean)

-- an EC header with the counter after this one
abbrev pub ec_with : Geometry → ℕ → ℕ → EcHeader
ec_with g counter seq = record {
  version = 1;
  counter = counter + 1;
  vid_start = g.vid_start;
  data_start = g.data_start;
  image_seq = seq;
}
