-- 01 'Refusal numbers': 5 to 8, which go PEB by PEB, 7 as in 02 2026-02, and 10. Assumes nothing.
use Rattle.std.specs.Prelude.{ℕ, Bool, true, false, not, ◌&&◌, eqb}
use Rattle.std.proofs.Math.Option.{Option, none, some}
use Rattle.base.specs.Answers.{or_else, map_o}
use Rattle.base.specs.Below.{all_below, first_below, first_nonzero}
use Rattle.geometry.specs.declared.Geometry.{Geometry}
use Rattle.header.specs.declared.EcHeader.{EcHeader}
use Rattle.report.specs.View.{EcView, ec_good, ec_newer, ec_blank, ec_lost, VidView, vid_good, vid_newer, vid_blank, vid_bad, View, Views, Medium, ecs, is_mappable}
use Rattle.report.specs.Class.{is_unused}

-- a refusal: "number and place"
pub record Refusal : Type 0 where
  pub number : ℕ
  pub place : ℕ

-- the number, if the test holds
abbrev pub when : Bool → ℕ → Option ℕ
when true k = some k
when false k = none

-- the image sequence of a good EC header, 0 without one; 02 2026-02: "A zero says nothing"
abbrev pub image_seq_or0 : Option EcHeader → ℕ
image_seq_or0 none = 0
image_seq_or0 (some h) = h.image_seq

-- the image sequence that refusal 7 compares with; 02 2026-02: "that of the lowest PEB that has one", "or zero if there
-- is none"
unfoldable pub image_seq_of : ℕ → Views → ℕ
image_seq_of n vs = first_nonzero n (λ i. image_seq_or0 (ecs vs i))

-- 6 "good EC names other VID or data starts"
abbrev pub other_starts : Geometry → EcHeader → Bool
other_starts g h = not (eqb h.vid_start g.vid_start && eqb h.data_start g.data_start)

-- does an image sequence disagree? 02 2026-02: "only nonzero values must agree, each compared with that of the lowest
-- PEB that has one"
abbrev pub seq_disagrees : ℕ → ℕ → Bool
seq_disagrees seq x = not (eqb x 0) && not (eqb x seq)

-- 5 "header version above 1"; 6; 7 "image sequence differs", if it is not zero
abbrev pub ec_refusal : Geometry → ℕ → EcView → Option ℕ
ec_refusal g seq ec_newer = some 5
ec_refusal g seq (ec_good h) = or_else (when (other_starts g h) 6) (when (seq_disagrees seq h.image_seq) 7)
ec_refusal g seq ec_blank = none
ec_refusal g seq ec_lost = none

-- 5, of the VID header; 8 "unknown internal volume with compatibility 5"
abbrev pub vid_refusal : VidView → Option ℕ
vid_refusal vid_newer = some 5
vid_refusal (vid_good c) = when (not (is_mappable c.header.volume) && eqb c.header.compat 5) 8
vid_refusal vid_blank = none
vid_refusal vid_bad = none

-- "within one: EC version, 6, 7, VID version, 8"
unfoldable pub view_refusal : Geometry → ℕ → View → Option ℕ
view_refusal g seq v = or_else (ec_refusal g seq v.ec) (vid_refusal v.vid)

abbrev pub at_peb : ℕ × ℕ → Refusal
at_peb x = record { number = x.1; place = x.0 }

-- "5 to 8 go PEB by PEB"; the place is the PEB
unfoldable pub refusal5678 : Medium → Option Refusal
refusal5678 m = map_o at_peb (first_below m.count (λ i. view_refusal m.geometry (image_seq_of m.count m.views) (m.views i)))

-- 10 "every PEB is class 0 or 3"
unfoldable pub refusal10 : Medium → Option Refusal
refusal10 m =
    map_o (λ k. record { number = k; place = 0 })
    (when (all_below m.count (λ i. is_unused (m.views i).ec (m.views i).vid)) 10)
