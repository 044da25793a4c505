-- No refusal has number 0: a call that answers 0 attached the image. Assumes nothing.
use mathlib.Core.Bool.{Bool, true, false, not, ◌&&◌, cond}
use mathlib.Core.Option.{Option, none, some}
use mathlib.Core.List.{List}
use Prim.Native.Nat.{ℕ, zero, suc, ◌<◌}
use lib.Dec.{eqb, lit<}
use Rattle.base.specs.Answers.{Answer, given, refused, or_else, map_o, all_of}
use Rattle.base.specs.Below.{first_below, numbered, any_below, all_below}
use Rattle.base.proofs.Answers.{either_way}
use Rattle.geometry.specs.Geometry.{geometry_rules, geometry_of, make_geometry}
use Rattle.geometry.specs.Image.{peb_count_of, image_rules}
use Rattle.geometry.specs.Slip.{value_at, head_geometry, well_formed, slip_geometry}
use Rattle.geometry.specs.declared.Geometry.{Geometry}
use Rattle.header.specs.Vid.{layout_volume}
use Rattle.volume_table.specs.Table.{table_good, taken_leb}
use Rattle.report.specs.View.{EcView, ec_good, ec_newer, ec_blank, ec_lost, VidView, vid_good, vid_newer, vid_blank, vid_bad}
use Rattle.report.specs.View.{View, Medium, copies, medium_of, is_mappable}
use Rattle.report.specs.Class.{is_unused}
use Rattle.report.specs.Scan.{Refusal, when, image_seq_of, other_starts, seq_disagrees, ec_refusal, vid_refusal}
use Rattle.report.specs.Scan.{view_refusal, at_peb, refusal5678, refusal10}
use Rattle.report.specs.Choice.{repeats, refusal9}
use Rattle.report.specs.Volumes.{or_zero, layout_content, table_leb, misfit_at, refusal1112}
use Rattle.report.specs.Report.{refusal, taken, records, faces, places}
use Rattle.report.specs.Attach.{AttachRequest, Outcome, early, late, whole, by_refusal, by_geometry, attaching, answer_of}

abbrev pub Numbered : {A : Type 0} → Answer A → Type 0
Numbered (given a) = Unit {0}
Numbered (refused k p) = 0 < k

-- ---- what holds of a value, if there is one

abbrev pub Each : {A : Type 0} → (A → Type 0) → Option A → Type 0
Each P none = Unit {0}
Each P (some a) = P a

each_or : {A : Type 0} (P : A → Type 0) (a b : Option A) → Each P a → Each P b → Each P (or_else a b)
each_or P none b p q = q
each_or P (some x) b p q = p

each_map : {A B : Type 0} (P : B → Type 0) (f : A → B) (o : Option A) → Each (λ (a : A). P (f a)) o → Each P (map_o f o)
each_map P f none p = tt
each_map P f (some a) p = p

each_numbered : {A : Type 0} (P : A → Type 0) (n : ℕ) (o : Option A) → Each P o
    → Each (λ (x : ℕ × A). P x.1) (numbered n o)
each_numbered P n none p = tt
each_numbered P n (some a) p = p

each_first : {A : Type 0} (P : A → Type 0) (n : ℕ) (f : ℕ → Option A) → ((i : ℕ) → Each P (f i))
    → Each (λ (x : ℕ × A). P x.1) (first_below n f)
each_first P zero f h = tt
each_first {A} P (suc n) f h =
    each_or (λ (x : ℕ × A). P x.1) (first_below n f) (numbered n (f n)) (each_first P n f h)
    (each_numbered P n (f n) (h n))

abbrev pub Above : ℕ → Type 0
Above k = 0 < k

abbrev Told : Refusal → Type 0
Told r = 0 < r.number

pub each_when : (b : Bool) (k : ℕ) → 0 < k → Each Above (when b k)
each_when true k h = h
each_when false k h = tt

-- ---- refusals 5 to 12

ec_told : (g : Geometry) (seq : ℕ) (v : EcView) → Each Above (ec_refusal g seq v)
ec_told g seq ec_newer = lit< tt
ec_told g seq (ec_good h) =
    each_or Above (when (other_starts g h) 6) (when (seq_disagrees seq (h.image_seq)) 7)
    (each_when (other_starts g h) 6 (lit< tt))
    (each_when (seq_disagrees seq (h.image_seq)) 7 (lit< tt))
ec_told g seq ec_blank = tt
ec_told g seq ec_lost = tt

vid_told : (v : VidView) → Each Above (vid_refusal v)
vid_told vid_newer = lit< tt
vid_told (vid_good c) = each_when (not (is_mappable (c.header).volume) && eqb (c.header).compat 5) 8 (lit< tt)
vid_told vid_blank = tt
vid_told vid_bad = tt

view_told : (g : Geometry) (seq : ℕ) (v : View) → Each Above (view_refusal g seq v)
unfolding view_refusal
view_told g seq v =
    each_or Above (ec_refusal g seq (v.ec)) (vid_refusal (v.vid)) (ec_told g seq (v.ec)) (vid_told (v.vid))

module _ (m : Medium) where
  told_5678 : Each Told (refusal5678 m)
  unfolding refusal5678
  told_5678 =
      let f : ℕ → Option ℕ = λ i. view_refusal (m.geometry) (image_seq_of (m.count) (m.views)) (m.views i) in
      each_map Told at_peb (first_below (m.count) f)
      (each_first Above (m.count) f (λ i. view_told (m.geometry) (image_seq_of (m.count) (m.views)) (m.views i)))

  told_9 : Each Told (refusal9 (m.count) (copies (m.views)))
  unfolding refusal9
  told_9 =
      let again : ℕ → Bool = λ i. any_below i (λ (j : ℕ). repeats (copies (m.views) i) (copies (m.views) j)) in
      each_map Told at_peb (first_below (m.count) (λ (i : ℕ). when (again i) 9))
      (each_first Above (m.count) (λ (i : ℕ). when (again i) 9) (λ i. each_when (again i) 9 (lit< tt)))

  told_10 : Each Told (refusal10 m)
  unfolding refusal10
  told_10 =
      let unused = all_below (m.count) (λ (i : ℕ). is_unused (m.views i).ec (m.views i).vid) in
      each_map Told (λ (k : ℕ). record { number = k; place = 0 }) (when unused 10) (each_when unused 10 (lit< tt))

  taken_numbered : Numbered (taken m)
  unfolding table_leb taken_leb
  taken_numbered =
      let size = (m.geometry).leb_size in let unit = (m.geometry).unit in
      let copy : ℕ → List ℕ = λ l. layout_content (faces m layout_volume l) in
      let other : Answer ℕ = cond (table_good size unit (m.count) (copy 1)) (given 1) (refused 11 0) in
      either_way (λ (b : Bool). Numbered (cond b (given 0) other)) (table_good size unit (m.count) (copy 0)) tt
      (either_way (λ (b : Bool). Numbered {A = ℕ} (cond b (given 1) (refused 11 0)))
      (table_good size unit (m.count) (copy 1)) tt (lit< tt))

  told_1112 : (a : Answer ℕ) → Numbered a → Each Told (refusal1112 a (records m) (faces m) (places m))
  told_1112 (refused k p) h = h
  told_1112 (given k) h =
      each_map Told (λ (x : ℕ × ℕ). record { number = 12; place = or_zero (places m x.0 x.1) })
      (misfit_at (records m) (faces m))
      (all (misfit_at (records m) (faces m)))
    where
      all : (o : Option (ℕ × ℕ)) → Each (λ (x : ℕ × ℕ). 0 < 12) o
      all none = tt
      all (some x) = lit< tt

  refusal_told : Each Told (refusal m)
  unfolding refusal
  refusal_told =
      let late = refusal1112 (taken m) (records m) (faces m) (places m) in
      let nine = refusal9 (m.count) (copies (m.views)) in
      each_or Told (refusal5678 m) (or_else nine (or_else (refusal10 m) late)) told_5678
      (each_or Told nine (or_else (refusal10 m) late) told_9
      (each_or Told (refusal10 m) late told_10 (told_1112 (taken m) taken_numbered)))

-- ---- attaching

abbrev pub Reached : Outcome → Type 0
Reached (early k) = 0 < k
Reached (late n r) = 0 < r.number
Reached (whole m) = Unit {0}

slip_numbered : (s : List ℕ) → Numbered (slip_geometry s)
unfolding slip_geometry geometry_of
slip_numbered s =
    let peb = value_at 0 4 s in let unit = value_at 7 2 s in let sub = value_at 12 2 s in
    either_way (λ (b : Bool). Numbered (cond b (head_geometry s) (refused 1 0))) (well_formed s)
    (either_way (λ (b : Bool). Numbered (cond b (given (make_geometry peb unit sub)) (refused 2 0)))
    (all_of (geometry_rules peb unit sub)) tt (lit< tt))
    (lit< tt)

by_refusal_lem : (m : Medium) (o : Option Refusal) → Each Told o → Reached (by_refusal m o)
by_refusal_lem m none p = tt
by_refusal_lem m (some r) p = p

by_geometry_lem : (image : List ℕ) (room : ℕ → Bool) (a : Answer Geometry) → Numbered a → Reached (by_geometry image room a)
by_geometry_lem image room (refused k p) h = h
by_geometry_lem image room (given g) h =
    let n = peb_count_of g image in let m = medium_of g n image in let o = by_refusal m (refusal m) in
    either_way (λ (b : Bool). Reached (cond b (cond (room n) o (early 4)) (early 3))) (all_of (image_rules g image))
    (either_way (λ (b : Bool). Reached (cond b o (early 4))) (room n) (by_refusal_lem m (refusal m) (refusal_told m))
    (lit< tt))
    (lit< tt)

pub reached : (req : AttachRequest) (image : List ℕ) (room : ℕ → Bool) → Reached (attaching req image room)
unfolding attaching
reached req image room = by_geometry_lem image room (slip_geometry (req.slip)) (slip_numbered (req.slip))

answer_numbered : (o : Outcome) → Reached o → Numbered (answer_of o)
answer_numbered (early k) h = h
answer_numbered (late n r) h = h
answer_numbered (whole m) h = tt

pub attached_numbered : (req : AttachRequest) (image : List ℕ) (room : ℕ → Bool)
    → Numbered (answer_of (attaching req image room))
attached_numbered req image room = answer_numbered (attaching req image room) (reached req image room)
