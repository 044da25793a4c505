-- What contracts of inner functions ask for and give: a part of a PEB, a PEB of a volume. No public promise names it.
-- Assumes nothing.
use Rattle.std.specs.Prelude.{ℕ, ◌+◌, ◌-◌, ◌*◌, ◌≤◌, ◌<◌, List, length, replicate}
use Rattle.base.specs.Lists.{part, put}
use Rattle.geometry.specs.declared.Geometry.{Geometry}
use Rattle.header.specs.Ec.{ec_bytes}
use Rattle.header.specs.Vid.{vid_bytes}
use Rattle.header.specs.declared.EcHeader.{EcHeader}
use Rattle.header.specs.declared.VidHeader.{VidHeader}
use Rattle.builder_rules.specs.Blocks.{used_peb, user_vid}
use Rattle.builder_rules.specs.Filling.{Shaped}
use Rattle.builder_rules.specs.declared.VolumeShape.{VolumeShape}

-- what stands before the data
unfoldable pub headers_of : Geometry → EcHeader → VidHeader → List ℕ
headers_of g e h = put g.vid_start (vid_bytes h) (put 0 (ec_bytes e) (replicate g.data_start 0xFF))

-- the bytes of LEB l
abbrev pub bytes_of : Geometry → VolumeShape → List ℕ → ℕ → List ℕ
bytes_of g v content l = part (l * (g.leb_size - v.data_pad)) (g.leb_size - v.data_pad) content

-- the PEB of LEB l of a volume whose first PEB is `first`
unfoldable pub leb_peb : Geometry → EcHeader → VolumeShape → List ℕ → ℕ → ℕ → List ℕ
leb_peb g e v content first l =
    used_peb g e (user_vid v (first + l + 1) l (bytes_of g v content l)) (bytes_of g v content l)

pub record VolumeReady (g : Geometry) (v : VolumeShape) (content : List ℕ) (first : ℕ) (image : List ℕ) : Type 0 where
  pub pad : v.data_pad < g.leb_size
  pub there : (first + v.lebs) * g.peb_size ≤ length image
  pub few : first + v.lebs ≤ 4096
  pub starts : (l : ℕ) → l < v.lebs → l * (g.leb_size - v.data_pad) < length content
  pub shaped : (l : ℕ) → l < v.lebs → Shaped g.leb_size v l (bytes_of g v content l)
