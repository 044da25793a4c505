-- What the contracts here cite beside the report's definitions: a PEB's copy, where it stands in the image. No
-- public promise names them. Assumes nothing.
use Rattle.std.specs.Prelude.{◌≡◌, List, ℕ, ◌+◌, ◌*◌, ◌≤◌, length}
use Rattle.std.proofs.Math.Option.{some}
use Rattle.geometry.specs.declared.Geometry.{Geometry}
use Rattle.geometry.specs.Placed.{Placed}
use Rattle.header.specs.declared.VidHeader.{VidHeader}
use Rattle.header.specs.Vid.{vid_fields}
use Rattle.report.specs.Volumes.{Face, face_of}
use Rattle.report.specs.View.{Copy, vid_part, peb_at, views_of, copy_of, copies}

-- the fields in the place of PEB i's VID header, and the copy that they make if the header is good
unfoldable pub header_at : Geometry → List ℕ → ℕ → VidHeader
header_at g image i = vid_fields (vid_part g (peb_at g image i))

abbrev pub copy_at : Geometry → List ℕ → ℕ → Copy
copy_at g image i = copy_of g (peb_at g image i) (header_at g image i)

-- what the rest of attaching sees of it
abbrev pub face_at : Geometry → List ℕ → ℕ → Face
face_at g image i = face_of g (copy_at g image i)

-- PEB i lies within the image, and its VID header is good
pub record HasCopy (g : Geometry) (image : List ℕ) (i : ℕ) : Type 0 where
  pub placed : Placed g
  pub bytes : (i + 1) * g.peb_size ≤ length image
  pub is : copies (views_of g image) i ≡ some (copy_at g image i)
