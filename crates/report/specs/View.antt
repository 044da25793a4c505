-- What a PEB, judged alone, says. All that attaching knows of an image it knows through the views of its PEBs. Assumes
-- nothing.
use Rattle.std.specs.Prelude.{ℕ, ◌*◌, Bool, true, ◌&&◌, ◌||◌, cond, List, [], ◌∷◌, eqb, ltb, take, drop}
use Rattle.std.proofs.Math.Option.{Option, none, some}
use Rattle.base.specs.Lists.{part}
use Rattle.crc32.specs.Crc.{crc_of}
use Rattle.geometry.specs.declared.Geometry.{Geometry}
use Rattle.header.specs.Fields.{Verdict, good, bad, newer}
use Rattle.header.specs.Ec.{read_ec}
use Rattle.header.specs.Vid.{read_vid, layout_volume}
use Rattle.header.specs.declared.EcHeader.{EcHeader}
use Rattle.header.specs.declared.VidHeader.{VidHeader}

-- "all 0xFF"
unfoldable pub all_ff : List ℕ → Bool
all_ff [] = true
all_ff (b ∷ bs) = eqb b 0xFF && all_ff bs

-- a good VID header with its data: whether "its data CRC matches the CRC of its first data-size bytes", and the bytes
-- from the data start on
pub record Copy : Type 0 where
  pub header : VidHeader
  pub matches : Bool
  pub body : List ℕ

-- an EC header is good, newer (version above 1), blank (lost, and all 0xFF), or lost otherwise
pub data EcView : Type 0 where
  ec_good : EcHeader → EcView
  ec_newer ec_blank ec_lost : EcView

-- a VID header is good, newer, blank (bad, and all 0xFF), or bad otherwise
pub data VidView : Type 0 where
  vid_good : Copy → VidView
  vid_newer vid_blank vid_bad : VidView

-- `clean`: every byte past the EC header is 0xFF (only the mover asks it, of a target: refusal 16)
pub record View : Type 0 where
  pub ec : EcView
  pub vid : VidView
  pub clean : Bool

abbrev pub ec_of : Verdict EcHeader → EcView
ec_of (good h) = ec_good h
ec_of bad = ec_lost
ec_of newer = ec_newer

unfoldable pub copy_of : Geometry → List ℕ → VidHeader → Copy
copy_of g p h = record {
  header = h;
  matches = eqb (crc_of (part g.data_start h.data_size p)) h.data_crc;
  body = drop g.data_start p;
}

abbrev pub vid_of : Geometry → List ℕ → Verdict VidHeader → VidView
vid_of g p (good h) = vid_good (copy_of g p h)
vid_of g p bad = vid_bad
vid_of g p newer = vid_newer

-- the bytes in the place of the VID header
abbrev pub vid_part : Geometry → List ℕ → List ℕ
vid_part g p = part g.vid_start 64 p

-- the view of a PEB's bytes
unfoldable pub view_of : Geometry → List ℕ → View
view_of g p = record {
  ec = cond (all_ff (take 64 p)) ec_blank (ec_of (read_ec (take 64 p)));
  vid = cond (all_ff (vid_part g p)) vid_blank (vid_of g p (read_vid g.leb_size (vid_part g p)));
  clean = all_ff (drop 64 p);
}

-- "An image is 2 to 4,096 whole PEBs": PEB i of an image
abbrev pub peb_at : Geometry → List ℕ → ℕ → List ℕ
peb_at g image i = part (i * g.peb_size) g.peb_size image

-- the views of an image's PEBs, by PEB number
abbrev pub Views : Type 0
Views = ℕ → View

abbrev pub views_of : Geometry → List ℕ → Views
views_of g image i = view_of g (peb_at g image i)

-- all that attaching knows of an image: the geometry, the number of PEBs and their views
pub record Medium : Type 0 where
  pub geometry : Geometry
  pub count : ℕ
  pub views : Views

-- an image of n PEBs
abbrev pub medium_of : Geometry → ℕ → List ℕ → Medium
medium_of g n image = record { geometry = g; count = n; views = views_of g image }

-- the good EC header of a PEB, if it has one
abbrev pub good_ec : EcView → Option EcHeader
good_ec (ec_good h) = some h
good_ec ec_newer = none
good_ec ec_blank = none
good_ec ec_lost = none

abbrev pub ecs : Views → ℕ → Option EcHeader
ecs vs i = good_ec (vs i).ec

-- the copy of a PEB, if its VID header is good
abbrev pub good_vid : VidView → Option Copy
good_vid (vid_good c) = some c
good_vid vid_newer = none
good_vid vid_blank = none
good_vid vid_bad = none

abbrev pub copies : Views → ℕ → Option Copy
copies vs i = good_vid (vs i).vid

-- a user volume ("volume below 128") or the layout volume; the others of good headers are 01's "Other internal volumes"
abbrev pub is_mappable : ℕ → Bool
is_mappable v = ltb v 128 || eqb v layout_volume
