-- What the contracts here cite: totals with a PEB more. No public promise names them. Assumes nothing.
use Rattle.std.specs.Prelude.{ℕ, ◌+◌, ◌*◌, ◌≤◌, max, Bool, ◌&&◌, ◌||◌, Result, Ok, Err}
use Rattle.std.proofs.Math.Option.{Option, none, some}
use Rattle.base.specs.Below.{unless_zero}
use Rattle.words.specs.Words.{most_pebs}
use Rattle.report.specs.View.{EcView, ec_good, ec_newer, ec_blank, ec_lost, VidView, good_vid}
use Rattle.report.specs.Report.{is_internal, sequence_or0}
use Rattle.scan.specs.declared.EcTotals.{EcTotals}
use Rattle.scan.specs.declared.VidTotals.{VidTotals}

-- the totals with an EC header more
abbrev pub with_ec : EcTotals → EcView → EcTotals
with_ec s (ec_good h) = record {
  image_seq = unless_zero s.image_seq h.image_seq;
  counters = s.counters + h.counter;
  good = s.good + 1;
}
with_ec s ec_newer = s
with_ec s ec_blank = s
with_ec s ec_lost = s

-- the totals with a PEB more: whether it is free or blank, its sequence (0 if none), whether it asks for read-only
abbrev pub with_sequence : VidTotals → Bool → ℕ → Bool → VidTotals
with_sequence s idle sequence asks = record {
  highest = max s.highest sequence;
  read_only = s.read_only || asks;
  unused = s.unused && idle;
}

-- the totals with a VID header more
abbrev pub with_vid : VidTotals → Bool → VidView → VidTotals
with_vid s idle v = with_sequence s idle (sequence_or0 (good_vid v)) (is_internal 2 (good_vid v))

-- one header more is within a word
pub record SmallTotals (s : EcTotals) : Type 0 where
  pub counters_small : s.counters ≤ most_pebs * 0x7FFFFFFF
  pub good_few : s.good ≤ most_pebs

-- what each case of a check is: no refusal, or one with its number
abbrev pub refusal_of : {A : Type 0} → Result A ℕ → Option ℕ
refusal_of (Ok a) = none
refusal_of (Err k) = some k
