-- What is known at each stage of beginning a move; no public promise names it. Assumes nothing.
use Rattle.std.specs.Prelude.{◌≡◌, ℕ, ◌<◌, List}
use Rattle.std.proofs.Math.Option.{some}
use Rattle.base.specs.Answers.{map_o}
use Rattle.geometry.specs.declared.Geometry.{Geometry}
use Rattle.header.specs.declared.EcHeader.{EcHeader}
use Rattle.header.specs.declared.VidHeader.{VidHeader}
use Rattle.report.specs.View.{Copy, Medium, medium_of, copy_of, peb_at, views_of, copies}
use Rattle.report.specs.Attach.{report_of}
use Rattle.report.specs.declared.Report.{Report}
use Rattle.lookup.specs.Lookup.{place_in}
use Rattle.mover_rules.specs.Begin.{mapped}
use Rattle.mover_rules.specs.declared.Plan.{Plan}
use Rattle.mover_checks.specs.Reported.{Reported}

-- the image that a report is on
abbrev pub medium_in : List ℕ → Report → Medium
medium_in image r = medium_of r.geometry r.peb_count image

-- the image attached, with this report and these words
pub record Told (image : List ℕ) (r : Report) (pebs : List ℕ) : Type 0 where
  pub reported : Reported r.geometry r.peb_count image pebs
  pub report_is : r ≡ report_of (medium_in image r)

-- and the map's words find each LEB
pub record Begins (image : List ℕ) (r : Report) (pebs map : List ℕ) : Type 0 where
  pub told : Told image r pebs
  pub found : (v l : ℕ) → place_in map r.entries v l ≡ map_o (λ (x : ℕ × Copy). x.0) (mapped (medium_in image r) v l)

-- PEB o, with the bytes p, has the copy with the header h
pub record Moved (g : Geometry) (image p : List ℕ) (n o : ℕ) (h : VidHeader) : Type 0 where
  pub within : o < n
  pub bytes_are : p ≡ peb_at g image o
  pub copy_is : copies (views_of g image) o ≡ some (copy_of g p h)

-- the plan from PEB o to PEB t with these headers
abbrev pub plan_with : Geometry → ℕ → ℕ → VidHeader → EcHeader → Plan
plan_with g o t vid ec = record {
  peb_size = g.peb_size;
  unit = g.unit;
  sub_unit = g.sub_unit;
  old = o;
  target = t;
  vid = vid;
  ec = ec;
  steps = 0;
}
