-- 01 'The volume table' from the table taken on: map, volume states, refusals 11 and 12. All of it is a function of the
-- table's records and of what is seen of the chosen copies. Assumes nothing.
use Rattle.std.specs.Prelude.{ℕ, ◌-◌, Bool, true, false, not, ◌&&◌, ◌||◌, cond, List, [], ◌∷◌, ◌++◌, map, eqb, ltb, take}
use Rattle.std.proofs.Math.Option.{Option, none, some}
use Rattle.std.specs.Int.Bits.{bit_and}
use Rattle.base.specs.Answers.{Answer, given, refused, map_o}
use Rattle.base.specs.Below.{any_below, first_below, concat_below}
use Rattle.geometry.specs.declared.Geometry.{Geometry}
use Rattle.header.specs.Vid.{layout_volume}
use Rattle.volume_record.specs.Record.{record_of}
use Rattle.volume_table.specs.Table.{record_at, taken_leb, taken_records, copies_mark_of}
use Rattle.volume_record.specs.declared.VolumeRecord.{VolumeRecord}
use Rattle.report.specs.View.{Copy, Medium}
use Rattle.report.specs.Scan.{Refusal, when}
use Rattle.report.specs.Choice.{sound, chosen}

-- what the rest of attaching may see of a chosen copy. `right`: not static, or its data CRC matches (a move may change
-- flag and CRC of a dynamic copy, but not this)
pub record Face : Type 0 where
  pub vol_type : ℕ
  pub pad : ℕ
  pub used : ℕ
  pub sound : Bool
  pub right : Bool
  pub content : List ℕ

-- 01 'The mover's steps': "A LEB's content is its first (LEB size less pad) bytes, or data size bytes if static."
abbrev pub content_of : Geometry → Copy → List ℕ
content_of g c = take (cond (eqb c.header.vol_type 2) c.header.data_size (g.leb_size - c.header.data_pad)) c.body

unfoldable pub face_of : Geometry → Copy → Face
face_of g c = record {
  vol_type = c.header.vol_type;
  pad = c.header.data_pad;
  used = c.header.used_lebs;
  sound = sound c;
  right = not (eqb c.header.vol_type 2) || c.matches;
  content = content_of g c;
}

-- of each volume and LEB: the face of the chosen copy, and its PEB
abbrev pub Faces : Type 0
Faces = ℕ → ℕ → Option Face

abbrev pub Places : Type 0
Places = ℕ → ℕ → Option ℕ

unfoldable pub faces_of : Geometry → ℕ → (ℕ → Option Copy) → Faces
faces_of g n cs v l = map_o (λ (x : ℕ × Copy). face_of g x.1) (chosen n cs v l)

unfoldable pub places_of : ℕ → (ℕ → Option Copy) → Places
places_of n cs v l = map_o (λ (x : ℕ × Copy). x.0) (chosen n cs v l)

-- the content of a layout LEB; no bytes where it is not mapped
abbrev pub layout_content : Option Face → List ℕ
layout_content none = []
layout_content (some f) = f.content

-- a question about both layout copies, asked with the LEB size, the unit and the PEB count
abbrev pub of_layout : {A : Type 0} → (ℕ → ℕ → ℕ → List ℕ → List ℕ → A) → Medium → Faces → A
of_layout f m fs =
    f m.geometry.leb_size m.geometry.unit m.count
    (layout_content (fs layout_volume 0)) (layout_content (fs layout_volume 1))

-- "LEB 0's table is taken if mapped and good, else LEB 1's"; the records of the table taken; "Copies mark"
unfoldable pub table_leb : Medium → Faces → Answer ℕ
table_leb = of_layout taken_leb

unfoldable pub table_records : Medium → Faces → List ℕ
table_records = of_layout taken_records

unfoldable pub table_mark : Medium → Faces → ℕ
table_mark = of_layout copies_mark_of

-- the record of a volume; none where it "is empty or absent": in a good table exactly the empty ones reserve 0, and
-- past the records there are no bytes, which reserve 0 too
unfoldable pub record_for : List ℕ → ℕ → Option VolumeRecord
record_for t v = cond (ltb 0 (record_of (record_at t v)).reserved) (some (record_of (record_at t v))) none

abbrev pub reserved_of : Option VolumeRecord → ℕ
reserved_of none = 0
reserved_of (some r) = r.reserved

-- 01 'The report': "Map: three words per entry (volume, LEB, PEB), by volume then LEB."
pub record Entry : Type 0 where
  pub volume : ℕ
  pub lnum : ℕ
  pub peb : ℕ

abbrev pub entry_at : ℕ → ℕ → Option ℕ → List Entry
entry_at v l none = []
entry_at v l (some p) = record { volume = v; lnum = l; peb = p } ∷ []

-- user volumes below k and layout LEBs below m, each LEB below reserved that has a place: a chosen user copy "whose
-- record is empty or absent, or whose LEB is not below reserved .. leaves the map"
unfoldable pub map_up_to : ℕ → ℕ → List ℕ → Places → List Entry
map_up_to k m t ps =
    concat_below k (λ v. concat_below (reserved_of (record_for t v)) (λ l. entry_at v l (ps v l)))
    ++ concat_below m (λ l. entry_at layout_volume l (ps layout_volume l))

unfoldable pub map_of : List ℕ → Places → List Entry
map_of t ps = map_up_to 128 2 t ps

-- 01 'The mover's steps': the place book, a map, in which a move "writes its target for its LEB"
abbrev pub place_written : ℕ → ℕ → ℕ → List Entry → List Entry
place_written v l p =
    map (λ e. record { volume = e.volume; lnum = e.lnum; peb = cond (eqb v e.volume && eqb l e.lnum) p e.peb })

-- used LEBs of the "volume's first entry"
unfoldable pub used_of : List ℕ → Faces → ℕ → Option ℕ
used_of t fs v = map_o (λ (x : ℕ × Face). x.1.used) (first_below (reserved_of (record_for t v)) (fs v))

-- does a number differ from the one compared with, if there is one?
abbrev pub differs : Option ℕ → ℕ → Bool
differs none x = false
differs (some y) x = not (eqb x y)

-- 12: "a user map entry's type or pad differs from its record; or, static, its used LEBs differ from its volume's first
-- entry or exceed reserved"
abbrev pub misfit : Option VolumeRecord → Option ℕ → Option Face → Option ℕ
misfit none u f = none
misfit (some r) u none = none
misfit (some r) u (some f) =
    when (not (eqb f.vol_type r.vol_type && eqb f.pad r.data_pad)
    || (eqb f.vol_type 2 && (differs u f.used || ltb r.reserved f.used))) 12

-- the first LEB of a volume whose entry is a misfit
unfoldable pub misfit_in : List ℕ → Faces → ℕ → Option ℕ
misfit_in t fs v =
    map_o (λ (x : ℕ × ℕ). x.0)
    (first_below (reserved_of (record_for t v)) (λ l. misfit (record_for t v) (used_of t fs v) (fs v l)))

-- volume and LEB of the first misfit in the map
unfoldable pub misfit_at : List ℕ → Faces → Option (ℕ × ℕ)
misfit_at t fs = first_below 128 (misfit_in t fs)

abbrev pub or_zero : Option ℕ → ℕ
or_zero none = 0
or_zero (some x) = x

-- 11 "no good table", place 0; then 12, "the first such entry's PEB"
abbrev pub refusal1112 : Answer ℕ → List ℕ → Faces → Places → Option Refusal
refusal1112 (refused k p) t fs ps = some (record { number = k; place = p })
refusal1112 (given k) t fs ps =
    map_o (λ (x : ℕ × ℕ). record { number = 12; place = or_zero (ps x.0 x.1) }) (misfit_at t fs)

-- "skip flag" of a record
abbrev pub skips_crc : VolumeRecord → Bool
skips_crc r = eqb (bit_and r.flags 2) 2

-- is a data CRC of this volume asked: "(static, skip flag clear)"?
abbrev pub asks_crc : VolumeRecord → Bool
asks_crc r = eqb r.vol_type 2 && not (skips_crc r)

-- is this entry of a volume at fault: "a mapped copy is unsound, or .. a data CRC is wrong"?
abbrev pub faulty : VolumeRecord → Option Face → Bool
faulty r none = false
faulty r (some f) = not f.sound || (asks_crc r && not f.right)

abbrev pub is_missing : Option Face → Bool
is_missing none = true
is_missing (some f) = false

-- "(static, something mapped) a LEB below used LEBs is missing"
abbrev pub lacks : VolumeRecord → Option ℕ → (ℕ → Option Face) → Bool
lacks r none fs = false
lacks r (some u) fs = eqb r.vol_type 2 && any_below u (λ l. is_missing (fs l))

-- "Volume state: 0 no record; 2 marker set; else 3 if ..; else 1."
abbrev pub state_with : Option VolumeRecord → Option ℕ → (ℕ → Option Face) → ℕ
state_with none u fs = 0
state_with (some r) u fs =
    cond (eqb r.update_marker 1) 2 (cond (any_below r.reserved (λ l. faulty r (fs l)) || lacks r u fs) 3 1)

unfoldable pub state_of : List ℕ → Faces → ℕ → ℕ
state_of t fs v = state_with (record_for t v) (used_of t fs v) (fs v)
