-- The premise of demand 3, on one stopped image: of the move's headers and data runs, each that is not whole has a
-- checksum field unlike the checksum of its bytes. Assumes nothing.
use Rattle.std.specs.Prelude.{◌≡◌, Bool, true, not, ◌||◌, List, [], ◌∷◌, ℕ, eqb}
use Rattle.base.specs.Answers.{Answer, given, refused, all_of}
use Rattle.base.specs.Lists.{eqs}
use Rattle.crc32.specs.Crc.{crc_of}
use Rattle.header.specs.Ec.{ec_bytes}
use Rattle.header.specs.Vid.{implies}
use Rattle.geometry.specs.declared.Geometry.{Geometry}
use Rattle.report.specs.Attach.{AttachRequest}
use Rattle.job.specs.Course.{Course, to_end, to_stop}
use Rattle.job.specs.Torn.{ec_at, vid_at, run_at, unlike}
use Rattle.mover_rules.specs.declared.Plan.{Plan}
use Rattle.mover_rules.specs.Write.{plan_geometry}
use Rattle.mover_powercut.specs.Book.{Call, header_whole, run_whole, begun}

-- of a plan, the image that its move began on, and the stopped image
unfoldable pub premise_rules : Plan → List ℕ → List ℕ → List Bool
premise_rules p image stopped = let g : Geometry = plan_geometry p in
    -- the new VID header
    unlike (header_whole p stopped) (vid_at g stopped p.target)
    -- the new data run: its checksum field is the header's data CRC
    ∷ implies (header_whole p stopped) (run_whole p image stopped
    || not (eqb (crc_of (run_at g p.vid.data_size stopped p.target)) p.vid.data_crc))
    -- the old PEB's EC header: whole is the one that there was, and the new one
    ∷ unlike (eqs (ec_at g stopped p.old) (ec_at g image p.old) || eqs (ec_at g stopped p.old) (ec_bytes p.ec))
    (ec_at g stopped p.old)
    -- the old PEB's VID header
    ∷ unlike (eqs (vid_at g stopped p.old) (vid_at g image p.old)) (vid_at g stopped p.old) ∷ []

-- of a stopped move; nothing is asked where nothing was stopped
abbrev pub premise_of : List ℕ → Course → List ℕ → Answer Plan → Bool
premise_of image course last (refused k q) = true
premise_of image (to_end further) last (given p) = true
premise_of image (to_stop s) last (given p) = all_of (premise_rules p image last)

-- of a call on an image, and the image that it leaves
unfoldable pub Premise : AttachRequest → List ℕ → Call → List ℕ → Type 0
Premise req image c last = premise_of image c.course last (begun req image c) ≡ true
