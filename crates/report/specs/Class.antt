-- 01 'The report': the class of a PEB, as far as it says it alone. Assumes nothing.
use Rattle.std.specs.Prelude.{ℕ, Bool, ◌||◌, cond, eqb}
use Rattle.report.specs.View.{Copy, EcView, ec_good, ec_newer, ec_blank, ec_lost, VidView, vid_good, vid_newer, vid_blank, vid_bad, is_mappable}

-- "Classes: 0 free (good EC, VID bytes all 0xFF); .. 3 blank (both headers all 0xFF); 4 unreadable (VID bad and not all
-- 0xFF, or VID all 0xFF with an EC lost and not all 0xFF); 5 to delete; 6 kept aside"; "Other internal volumes:
-- compatibility 1, class 5; 2, class 6 ..; 4, class 6". f gives the class of a copy of a user or layout LEB, which
-- depends on the other PEBs. A newer header, and compatibility 5 here, refuse the image
abbrev pub class_by : (Copy → ℕ) → EcView → VidView → ℕ
class_by f e (vid_good c) = cond (is_mappable c.header.volume) (f c) (cond (eqb c.header.compat 1) 5 6)
class_by f (ec_good h) vid_blank = 0
class_by f ec_blank vid_blank = 3
class_by f ec_lost vid_blank = 4
class_by f ec_newer vid_blank = 4
class_by f e vid_bad = 4
class_by f e vid_newer = 4

-- the class before any copy is chosen: until then one of a user or layout LEB is passed over (2)
abbrev pub first_class : EcView → VidView → ℕ
first_class = class_by (λ (c : Copy). 2)

-- is it class 0 or 3? No choice among copies decides that
abbrev pub is_unused : EcView → VidView → Bool
is_unused e v = eqb (first_class e v) 0 || eqb (first_class e v) 3
