-- What the contracts here cite beside the report's definitions: how what was seen of a PEB stands for its view. Assumes
-- nothing.
use Rattle.std.specs.Prelude.{ℕ, ◌≤◌, cond, List, Result, Ok, Err}
use Rattle.geometry.specs.declared.Geometry.{Geometry}
use Rattle.report.specs.View.{all_ff, EcView, ec_good, ec_newer, ec_blank, ec_lost, VidView, vid_good, vid_newer, vid_blank, vid_bad, copy_of, good_ec}
use Rattle.report.specs.Report.{counter_or}
use Rattle.header.specs.declared.EcHeader.{EcHeader}
use Rattle.header.specs.declared.VidHeader.{VidHeader}
use Rattle.header.specs.declared.ReadError.{ReadError}
use Rattle.header.specs.declared.ReadError.TheVariants as read
use Rattle.peb_scan.specs.declared.NoHeader.{NoHeader}
use Rattle.peb_scan.specs.declared.NoHeader.TheVariants.{Newer, Blank, Bad}

abbrev pub ec_seen : Result EcHeader NoHeader → EcView
ec_seen (Ok h) = ec_good h
ec_seen (Err Newer) = ec_newer
ec_seen (Err Blank) = ec_blank
ec_seen (Err Bad) = ec_lost

-- what was seen of a PEB with the bytes p
abbrev pub vid_seen : Geometry → List ℕ → Result VidHeader NoHeader → VidView
vid_seen g p (Ok h) = vid_good (copy_of g p h)
vid_seen g p (Err Newer) = vid_newer
vid_seen g p (Err Blank) = vid_blank
vid_seen g p (Err Bad) = vid_bad

-- what stands in the bytes s, where the reader finds no good header
abbrev pub no_header : ReadError → List ℕ → NoHeader
no_header read.Newer s = Newer
no_header read.Short s = Bad
no_header read.Bad s = cond (all_ff s) Blank Bad

-- a good counter is at most 0x7FFFFFFF
abbrev pub small_counter : EcView → Type 0
small_counter v = counter_or 0 (good_ec v) ≤ 0x7FFFFFFF
