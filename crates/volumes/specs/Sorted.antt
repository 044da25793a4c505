-- What the contracts here cite beside the report's definitions: the sorted map and its table. No public promise names
-- them. Assumes nothing.
use Rattle.std.specs.declared.option.Option as rust
use Rattle.std.specs.Prelude.{Some, None, MatchOption, ◌≡◌, Bool, true, false, not, ◌&&◌, ◌||◌, List, ℕ, ◌*◌, ◌≤◌, ◌<◌, eqb, ltb, length, take}
use Rattle.std.proofs.Math.Option.{Option, none, some}
use Rattle.std.specs.Int.Bits.{bit_and}
use Rattle.base.specs.Answers.{given}
use Rattle.base.specs.Below.{count_below}
use Rattle.words.specs.Words.{map_words_needed, volume_word, lnum_word, peb_word}
use Rattle.geometry.specs.declared.Geometry.{Geometry}
use Rattle.geometry.specs.Placed.{Placed}
use Rattle.header.specs.declared.VidHeader.{VidHeader}
use Rattle.volume_record.specs.declared.VolumeRecord.{VolumeRecord}
use Rattle.volume_record.specs.Record.{record_of}
use Rattle.volume_table.specs.Table.{record_at}
use Rattle.report.specs.View.{Medium, medium_of}
use Rattle.report.specs.Scan.{Refusal}
use Rattle.report.specs.Volumes.{Face, misfit_in, misfit_at, refusal1112}
use Rattle.report.specs.Report.{faces, places, records, entries, taken}
use Rattle.report.specs.Attach.{map_words}
use Rattle.copies.specs.InPlace.{header_at, face_at, HasCopy}
use Rattle.volumes.specs.declared.RecordNumbers.{RecordNumbers}

-- is an entry at fault, in a volume whose data CRCs are asked or not?
abbrev pub faulty_by : Bool → Face → Bool
faulty_by asks f = not f.sound || (asks && not f.right)

-- the numbers of a record that are compared with the entries of its volume
unfoldable pub numbers_of : VolumeRecord → RecordNumbers
numbers_of r = record {
  reserved = r.reserved;
  data_pad = r.data_pad;
  vol_type = r.vol_type;
  marker = r.update_marker;
  flags = r.flags;
}

-- r are the numbers of the record of volume v, if it reserves PEBs
abbrev pub NumbersOf : List ℕ → ℕ → rust.Option RecordNumbers → Type 0
NumbersOf t v (Some r) = (r ≡ numbers_of (record_of (record_at t v))) × (r.reserved ≡ 0 → ⊥)
NumbersOf t v None = (record_of (record_at t v)).reserved ≡ 0

-- is a data CRC of this volume asked?
abbrev pub asks_by : RecordNumbers → Bool
asks_by r = eqb r.vol_type 2 && not (eqb (bit_and r.flags 2) 2)

-- the words of each entry are there, and each names a PEB with a copy
pub record Entries (g : Geometry) (image map : List ℕ) (count : ℕ) : Type 0 where
  pub words : map_words_needed count ≤ length map
  pub mapped : (k : ℕ) → k < count → HasCopy g image (peb_word map k)

-- is entry k one of volume v?
abbrev pub is_of : List ℕ → ℕ → ℕ → Bool
is_of map v k = eqb (volume_word map k) v

-- .. and at fault?
abbrev pub fault_at : Geometry → List ℕ → List ℕ → ℕ → Bool → ℕ → Bool
fault_at g image map v asks k = is_of map v k && faulty_by asks (face_at g image (peb_word map k))

-- the lowest number below n that passes the test, if there is one
abbrev pub FirstBelow : ℕ → (ℕ → Bool) → rust.Option ℕ → Type 0
FirstBelow n p (Some k) = (k < n) × (p k ≡ true) × ((j : ℕ) → j < k → p j ≡ false)
FirstBelow n p None = (j : ℕ) → j < n → p j ≡ false

-- are the entries of volume v fewer than the used LEBs that its first entry has?
abbrev pub fewer_than_used : Geometry → List ℕ → List ℕ → ℕ → ℕ → rust.Option ℕ → Bool
fewer_than_used g image map count v (Some first) =
    ltb (count_below count (is_of map v)) (header_at g image (peb_word map first)).used_lebs
fewer_than_used g image map count v None = false

-- has volume v an entry, and fewer than the used LEBs that its first entry has?
pub record LacksLeb (g : Geometry) (image map : List ℕ) (count v : ℕ) (b : Bool) : Type 0 where
  pub first : rust.Option ℕ
  pub is_first : FirstBelow count (is_of map v) first
  pub is : b ≡ fewer_than_used g image map count v first

-- does refusal 12 name a copy with the header h, where its volume's record is r and its first entry has `used` LEBs?
unfoldable pub misfit_by : RecordNumbers → ℕ → VidHeader → Bool
misfit_by r used h =
    not (eqb h.vol_type r.vol_type && eqb h.data_pad r.data_pad)
    || (eqb h.vol_type 2 && (not (eqb h.used_lebs used) || ltb r.reserved h.used_lebs))

-- is entry k one of volume v, and named by refusal 12, where `first` is the volume's first entry?
abbrev pub misfit_entry : Geometry → List ℕ → List ℕ → ℕ → RecordNumbers → ℕ → ℕ → Bool
misfit_entry g image map v r first k =
    is_of map v k && misfit_by r (header_at g image (peb_word map first)).used_lebs (header_at g image (peb_word map k))

-- k is the first such entry, if there is one
pub record FirstMisfit (g : Geometry) (image map : List ℕ) (count v : ℕ) (r : RecordNumbers)
    (k : rust.Option ℕ) : Type 0 where
  pub first : rust.Option ℕ
  pub is_first : FirstBelow count (is_of map v) first
  pub is : MatchOption first (k ≡ None) (λ f. FirstBelow count (misfit_entry g image map v r f) k)

-- k is the number of the first entry of volume v that refusal 12 names, if there is one, by the report's definition
abbrev pub VolumeMisfit : Medium → List ℕ → ℕ → ℕ → rust.Option ℕ → Type 0
VolumeMisfit m map count v (Some k) =
    (k < count) × (volume_word map k ≡ v) × (misfit_in (records m) (faces m) v ≡ some (lnum_word map k))
VolumeMisfit m map count v None = misfit_in (records m) (faces m) v ≡ none

-- 11 or 12 of an image, if it is refused so; and the refusal that an entry stands for, if there is one
abbrev pub table_refusal : Medium → Option Refusal
table_refusal m = refusal1112 (taken m) (records m) (faces m) (places m)

abbrev pub misfit_refusal : List ℕ → rust.Option ℕ → Option Refusal
misfit_refusal map (Some k) = some (record { number = 12; place = peb_word map k })
misfit_refusal map None = none

-- an image of n PEBs, the words of its map, the number of its entries, and the records of the table taken
pub record SortedMap (g : Geometry) (n : ℕ) (image map table : List ℕ) (count : ℕ) : Type 0 where
  pub placed : Placed g
  pub whole : length image ≡ n * g.peb_size
  pub words : take (map_words_needed n) map ≡ map_words n (entries (medium_of g n image))
  pub count_is : count ≡ length (entries (medium_of g n image))
  pub table_is : table ≡ records (medium_of g n image)
  pub leb : ℕ
  pub taken_is : taken (medium_of g n image) ≡ given leb

-- no entry is one that refusal 12 names
pub record NoMisfit (g : Geometry) (n : ℕ) (image map table : List ℕ) (count : ℕ) : Type 0 where
  pub sorted : SortedMap g n image map table count
  pub none12 : misfit_at (records (medium_of g n image)) (faces (medium_of g n image)) ≡ none
