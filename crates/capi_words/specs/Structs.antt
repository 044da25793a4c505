-- The words of each struct, in the order of include/choduljin.h, and the struct of its words. Assumes nothing.
use Rattle.std.specs.Prelude.{Bool, not, cond, List, [], ◌∷◌, ◌++◌, ℕ, ◌≤◌, eqb, get_or}
use Rattle.base.specs.Answers.{Answer, given, refused}
use Rattle.base.specs.Lists.{part}
use Rattle.geometry.specs.declared.Geometry.{Geometry}
use Rattle.header.specs.Ec.{EcFits}
use Rattle.header.specs.Vid.{VidFits}
use Rattle.header.specs.declared.EcHeader.{EcHeader}
use Rattle.header.specs.declared.VidHeader.{VidHeader}
use Rattle.volume_record.specs.declared.VolumeRecord.{VolumeRecord}
use Rattle.report.specs.declared.Report.{Report}
use Rattle.mover_rules.specs.declared.Plan.{Plan}
use Rattle.capi_words.specs.Lent.{fits}

-- ---- the words of each struct

abbrev pub geometry_words : Geometry → List ℕ
geometry_words g = g.peb_size ∷ g.unit ∷ g.sub_unit ∷ g.vid_start ∷ g.data_start ∷ g.leb_size ∷ []

abbrev pub ec_words : EcHeader → List ℕ
ec_words h = h.version ∷ h.counter ∷ h.vid_start ∷ h.data_start ∷ h.image_seq ∷ []

abbrev pub vid_words : VidHeader → List ℕ
vid_words h =
    h.version ∷ h.vol_type ∷ h.copy_flag ∷ h.compat ∷ h.volume ∷ h.lnum ∷ h.data_size ∷ h.used_lebs
    ∷ h.data_pad ∷ h.data_crc ∷ h.sequence ∷ []

-- the name stands beside them
abbrev pub record_words : VolumeRecord → List ℕ
record_words v =
    v.reserved ∷ v.alignment ∷ v.data_pad ∷ v.vol_type ∷ v.update_marker ∷ v.name_length ∷ v.flags ∷ []

unfoldable pub report_words : Report → List ℕ
report_words r =
    geometry_words r.geometry
    ++ (r.peb_count ∷ r.entries ∷ r.mean ∷ r.highest ∷ r.image_seq ∷ cond r.read_only 1 0 ∷ r.table
    ∷ r.copies_mark ∷ r.grade ∷ [])

unfoldable pub plan_words : Plan → List ℕ
plan_words p =
    p.peb_size ∷ p.unit ∷ p.sub_unit ∷ p.old ∷ p.target ∷ (vid_words p.vid ++ (ec_words p.ec ++ (p.steps ∷ [])))

-- an answer's: 0 and 0 and what was given, or a refusal's number and place
abbrev pub answer_words : {A : Type 0} → (A → List ℕ) → Answer A → List ℕ
answer_words words (given a) = 0 ∷ 0 ∷ words a
answer_words words (refused k p) = k ∷ p ∷ []

-- ---- how large each word may be

abbrev pub most8 : ℕ
most8 = 0xFF

abbrev pub most32 : ℕ
most32 = 0xFFFFFFFF

abbrev pub most64 : ℕ
most64 = 0xFFFFFFFFFFFFFFFF

abbrev pub geometry_most : List ℕ
geometry_most = most32 ∷ most32 ∷ most32 ∷ most32 ∷ most32 ∷ most32 ∷ []

abbrev pub ec_most : List ℕ
ec_most = most8 ∷ most64 ∷ most32 ∷ most32 ∷ most32 ∷ []

abbrev pub vid_most : List ℕ
vid_most = most8 ∷ most8 ∷ most8 ∷ most8 ∷ most32 ∷ most32 ∷ most32 ∷ most32 ∷ most32 ∷ most32 ∷ most64 ∷ []

-- a report's, after the 0 and 0 of an answer that is given; from the PEB count on
abbrev pub report_rest : List ℕ
report_rest = most32 ∷ most32 ∷ most32 ∷ most64 ∷ most32 ∷ 1 ∷ most32 ∷ most32 ∷ most32 ∷ []

abbrev pub report_most : List ℕ
report_most = 0 ∷ 0 ∷ (geometry_most ++ report_rest)

-- a plan's, with the same 0 and 0; up to its target
abbrev pub plan_front : List ℕ
plan_front = 0 ∷ 0 ∷ most32 ∷ most32 ∷ most32 ∷ most32 ∷ most32 ∷ []

abbrev pub plan_most : List ℕ
plan_most = plan_front ++ (vid_most ++ (ec_most ++ (most32 ∷ [])))

abbrev pub refusal_most : List ℕ
refusal_most = most32 ∷ most32 ∷ []

-- ---- the struct of words

abbrev pub geometry_in : List ℕ → Geometry
geometry_in w = record {
  peb_size = get_or w 0 0;
  unit = get_or w 1 0;
  sub_unit = get_or w 2 0;
  vid_start = get_or w 3 0;
  data_start = get_or w 4 0;
  leb_size = get_or w 5 0;
}

abbrev pub ec_in : List ℕ → EcHeader
ec_in w = record {
  version = get_or w 0 0;
  counter = get_or w 1 0;
  vid_start = get_or w 2 0;
  data_start = get_or w 3 0;
  image_seq = get_or w 4 0;
}

abbrev pub vid_in : List ℕ → VidHeader
vid_in w = record {
  version = get_or w 0 0;
  vol_type = get_or w 1 0;
  copy_flag = get_or w 2 0;
  compat = get_or w 3 0;
  volume = get_or w 4 0;
  lnum = get_or w 5 0;
  data_size = get_or w 6 0;
  used_lebs = get_or w 7 0;
  data_pad = get_or w 8 0;
  data_crc = get_or w 9 0;
  sequence = get_or w 10 0;
}

unfoldable pub report_in : List ℕ → Report
report_in w = record {
  geometry = geometry_in (part 2 6 w);
  peb_count = get_or w 8 0;
  entries = get_or w 9 0;
  mean = get_or w 10 0;
  highest = get_or w 11 0;
  image_seq = get_or w 12 0;
  read_only = not (eqb (get_or w 13 0) 0);
  table = get_or w 14 0;
  copies_mark = get_or w 15 0;
  grade = get_or w 16 0;
}

unfoldable pub plan_in : List ℕ → Plan
plan_in w = record {
  peb_size = get_or w 2 0;
  unit = get_or w 3 0;
  sub_unit = get_or w 4 0;
  old = get_or w 5 0;
  target = get_or w 6 0;
  vid = vid_in (part 7 11 w);
  ec = ec_in (part 18 5 w);
  steps = get_or w 23 0;
}

-- the words of a report's answer: the first tells which of the two it is
unfoldable pub attached_fits : List ℕ → Bool
attached_fits w = cond (eqb (get_or w 0 0) 0) (fits w report_most) (fits w refusal_most)

unfoldable pub attached_in : List ℕ → Answer Report
attached_in w = cond (eqb (get_or w 0 0) 0) (given (report_in w)) (refused (get_or w 0 0) (get_or w 1 0))

-- ---- a struct whose fields are no larger than their types allow, which each struct of the code is

pub record GeometryFits (g : Geometry) : Type 0 where
  pub peb_size : g.peb_size ≤ most32
  pub unit : g.unit ≤ most32
  pub sub_unit : g.sub_unit ≤ most32
  pub vid_start : g.vid_start ≤ most32
  pub data_start : g.data_start ≤ most32
  pub leb_size : g.leb_size ≤ most32

pub record ReportFits (r : Report) : Type 0 where
  pub geometry : GeometryFits r.geometry
  pub peb_count : r.peb_count ≤ most32
  pub entries : r.entries ≤ most32
  pub mean : r.mean ≤ most32
  pub highest : r.highest ≤ most64
  pub image_seq : r.image_seq ≤ most32
  pub table : r.table ≤ most32
  pub copies_mark : r.copies_mark ≤ most32
  pub grade : r.grade ≤ most32

pub record PlanFits (p : Plan) : Type 0 where
  pub peb_size : p.peb_size ≤ most32
  pub unit : p.unit ≤ most32
  pub sub_unit : p.sub_unit ≤ most32
  pub old : p.old ≤ most32
  pub target : p.target ≤ most32
  pub vid : VidFits p.vid
  pub ec : EcFits p.ec
  pub steps : p.steps ≤ most32
