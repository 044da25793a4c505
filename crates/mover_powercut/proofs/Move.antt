-- One accepted move: what any course of it leaves. Assumes nothing.
use mathlib.Core.Path.{◌≡◌, refl, sym, ◌∙◌, ap, ap₂}
use mathlib.Core.Logic.{◌≢◌, ◌⊎◌, inl, inr, ⊎_elim}
use mathlib.Core.Bool.{Bool, true, ◌&&◌, cond}
use mathlib.Core.Option.{none, some}
use mathlib.Core.List.{List}
use Prim.Native.Nat.{ℕ, ◌+◌, ◌-◌, ◌*◌, ◌/◌, ◌<◌, min}
use native.Mathlib.Omega.{arith}
use borrow.Author.Tests.{lt-ltb, ne_eqb}
use lib.ListN.{length, drop, get_or, replicate, length-drop}
use lib.Seq.{take_all, drop-drop}
use Rattle.base.specs.Answers.{given, all_of}
use Rattle.base.specs.Lists.{part, put, Bytes}
use Rattle.base.proofs.Answers.{either_way, each_holds, none_some}
use Rattle.base.proofs.Lists.{length_part, part_part}
use Rattle.base.proofs.Stores.{drop_replicate}
use Rattle.geometry.specs.Geometry.{geometry_rules}
use Rattle.geometry.specs.Placed.{Placed}
use Rattle.geometry.specs.declared.Geometry.{Geometry}
use Rattle.header.specs.Fields.{is_good}
use Rattle.header.specs.Ec.{judge_ec, ec_bytes}
use Rattle.header.specs.Vid.{judge_vid, vid_bytes}
use Rattle.report.specs.View.{all_ff, Copy, ec_good, vid_blank, Views, vid_part, view_of, views_of, peb_at, copies, Medium, medium_of}
use Rattle.report.specs.Scan.{image_seq_of}
use Rattle.report.specs.Volumes.{places_of, table_records, map_of, place_written}
use Rattle.report.specs.Report.{faces, places, records, class_at, entries, refusal}
use Rattle.geometry.specs.Image.{peb_count_of, image_rules}
use Rattle.report.specs.Attach.{AttachRequest, whole}
use Rattle.report.proofs.Choice.{chosen_at}
use Rattle.report.proofs.Map.{places_with, map_moved}
use Rattle.mover_rules.specs.declared.Plan.{Plan}
use Rattle.mover_rules.specs.Headers.{new_vid}
use Rattle.mover_rules.specs.Begin.{make_plan}
use Rattle.mover_rules.specs.Write.{plan_geometry, data_steps, step_count, unit_bytes, relocation, write_after}
use Rattle.mover_rules.specs.Step.{step_rules, runnable, mover_job}
use Rattle.job.specs.Course.{Stop, Course, to_end, to_stop, image_left}
use Rattle.job.specs.Relocation.{relocating}
use Rattle.job.specs.Write.{Write}
use Rattle.job.specs.Outcomes.{outcome_of}
use Rattle.job.proofs.Blocks.{peb_length, same_byte}
use Rattle.job.proofs.Seen.{Read, ec_written_lem, vid_erased, renewed_ec, renewed_vid}
use Rattle.job.proofs.Outcomes.{Ruled, slip_ruled, Chip, chip_placed, peb_above, count_is, image_ruled, attached}
use Rattle.job.proofs.Runs.{nexts, steps, left_is, left_octets}
use Rattle.job.proofs.Relocated.{Sited, Relocates, Near, Stored, Halt, cut_halts, Whole, whole_end}
use Rattle.mover_rules.proofs.Data.{all_ff_lem, unit_starts, units_cover}
use Rattle.mover_rules.proofs.Accepted.{Accepted, in_map_mappable, below_next}
use Rattle.mover_rules.proofs.Good.{Good}
use Rattle.mover_rules.proofs.Bounds.{read, goods}
use Rattle.mover_rules.proofs.Steps.{mover_lawful, mover_runs}
use Rattle.mover_powercut.specs.Book.{header_whole, run_whole, is_written}
use Rattle.mover_powercut.specs.Premise.{premise_rules, premise_of}
use Rattle.mover_powercut.specs.Claim.{Freed, Moved}
use Rattle.header.proofs.Writes.{ec_64, vid_64}
use Rattle.job.proofs.Stage.{Ready, Keeps}
use Rattle.mover_powercut.proofs.Stops.{stopped, finished}

runnable_by : (p : Plan) (g : Geometry) (image : List ℕ) (n : ℕ)
    → all_of (geometry_rules p.peb_size p.unit p.sub_unit) ≡ true
    → plan_geometry p ≡ g → all_of (image_rules g image) ≡ true → peb_count_of g image ≡ n → p.old < n → p.target < n
    → p.old ≢ p.target
    → is_good (judge_vid g.leb_size p.vid) ≡ true → is_good (judge_ec p.ec) ≡ true → runnable p image ≡ true
unfolding runnable step_rules
runnable_by p g image n r geo i c o t ne v e =
    rw (r, geo, i, c, lt-ltb p.old n o, lt-ltb p.target n t, ne_eqb p.old p.target ne, v, e)

-- an image of n PEBs that attaches
pub record Attachable (g : Geometry) (n : ℕ) (image : List ℕ) : Type 0 where
  pub long : length image ≡ n * g.peb_size
  pub bytes : Bytes image
  pub unrefused : refusal (medium_of g n image) ≡ none

module _ (req : AttachRequest) (g : Geometry) (n : ℕ) (chip : Chip req g n) (image : List ℕ) (f : Attachable g n image)
    (v l t o : ℕ) (c : Copy) (a : Accepted (medium_of g n image) v l t o c) where
  P : Placed g
  P = chip_placed req g n chip

  R : Ruled g
  R = slip_ruled req.slip g chip.geometry

  abbrev vs : Views
  vs = views_of g image

  abbrev m : Medium
  m = medium_of g n image

  abbrev p : Plan
  p = make_plan m t o c

  -- ---- the copy that is moved, and the plan's headers

  at_o : (o < n) × (copies vs o ≡ some c) × (c.header.volume ≡ v) × (c.header.lnum ≡ l)
  at_o = chosen_at n (copies vs) v l o c a.chosen_here

  good : Good g (image_seq_of n vs) c p.vid p.ec
  unfolding make_plan
  good = goods g P n image f.bytes f.long f.unrefused v l t o c a

  ready : Ready m v l p.old p.target c p.vid
  unfolding make_plan new_vid
  ready = record {
    chosen_here = a.chosen_here;
    mappable_here = in_map_mappable (records m) v l a.in_map;
    is_sound = a.is_sound;
    t<n = a.target_there;
    free_vid = a.target_free.0;
    spare = a.target_free.1.0;
    free_ec = a.target_free.1.1;
    volume = at_o.2;
    lnum = at_o.3;
    above = λ i k d q. below_next n (copies vs) i d k q;
  }

  apart : o ≢ t
  apart e = none_some (sym (ap (copies vs) e ∙ rw a.target_free.0) ∙ at_o.1)

  geometry_is : plan_geometry p ≡ g
  unfolding make_plan plan_geometry
  geometry_is = R.made

  may_run : (k : ℕ) → runnable (nexts mover_job p k) image ≡ true
  unfolding make_plan
  may_run =
      mover_runs p image
      (runnable_by p g image n R.rules geometry_is (image_ruled req g n chip image f.long)
      (count_is req g n chip image f.long) at_o.0
      a.target_there apart (rw good.vid_good_holds) (rw good.ec_good_holds))

  abbrev d : ℕ
  d = p.vid.data_size

  -- ---- the two PEBs at first

  abbrev T : List ℕ
  T = peb_at g image p.target

  abbrev O : List ℕ
  O = peb_at g image p.old

  read_O : Read g O c
  unfolding make_plan
  read_O = read g P n image f.bytes f.long o at_o.0 c at_o.1

  clean_T : all_ff (drop 64 T) ≡ true
  unfolding make_plan view_of
  clean_T = a.target_clean

  blank_T : drop (g.data_start + d) T ≡ replicate (g.leb_size - d) 0xFF
  unfolding make_plan
  blank_T =
      let s = good.data_fits in
      let lenT = peb_length g n image f.long t a.target_there in
      let e : g.data_start + d ≡ 64 + (g.data_start + d - 64) = omega (arith, P.vid_after_ec, P.data_after_vid) in
      let k : length (drop 64 T) - (g.data_start + d - 64) ≡ g.leb_size - d =
      rw length-drop (omega (arith, lenT, P.vid_after_ec, P.data_after_vid, P.leb_fills)) in
      ap (λ i. drop i T) e ∙ sym (drop-drop (g.data_start + d - 64) 64 T)
      ∙ ap (drop (g.data_start + d - 64)) (all_ff_lem (drop 64 T) clean_T)
      ∙ drop_replicate 0xFF (g.data_start + d - 64) (length (drop 64 T)) ∙ ap (λ i. replicate i 0xFF) k

  -- ---- what its steps write

  abbrev D : List ℕ
  D = part g.data_start d O

  sited : Sited g n d (relocation p image)
  unfolding make_plan data_steps
  sited = record {
    placed = P;
    old_there = at_o.0;
    target_there = a.target_there;
    apart = apart;
    vid_64 = vid_64 p.vid;
    ec_64 = ec_64 p.ec;
    data_fits = good.data_fits;
    unit_starts = λ j h. unit_starts j d g.unit P.unit_above h;
    units_cover = units_cover d g.unit P.unit_above;
  }

  -- the units are those of the data run, as long as the old PEB is as it was
  unit_is : (y : List ℕ) → peb_at g y p.old ≡ O → (j : ℕ) → j < data_steps p
      → unit_bytes p y j ≡ part (j * g.unit) (min g.unit (d - j * g.unit)) D
  unfolding unit_bytes
  unit_is y e j h =
      let w = sited.unit_starts j h in
      let z : ℕ = min g.unit (d - j * g.unit) in
      rw geometry_is
      (sym (part_part (g.data_start + j * g.unit) z (p.old * g.peb_size) g.peb_size y
      (omega (arith, good.data_fits, P.leb_fills)))
      ∙ ap (part (g.data_start + j * g.unit) z) e ∙ sym (part_part (j * g.unit) z g.data_start d O (omega arith)))

  abbrev relocates : Relocates g n image
  relocates = record {
    relocation = relocation p image;
    size = d;
    bytes = D;
    unit_in = unit_bytes p;
    sited = sited;
    long = f.long;
    long_bytes = length_part g.data_start d O
        (omega (arith, peb_length g n image f.long p.old sited.old_there, good.data_fits, P.leb_fills));
    unit_is = unit_is;
  }

  -- the writes, in the geometry of the chip
  abbrev write : List ℕ → ℕ → Write
  write y k = relocating g (relocation p y) k

  writes_are : write_after p ≡ write
  unfolding write_after
  writes_are = λ i y k. relocating (geometry_is i) (relocation p y) k

  abbrev left : Course → List ℕ
  left course = image_left mover_job p image course

  halts : (s : Stop) → Halt g n image relocates (left (to_stop s))
  unfolding make_plan
  halts s =
      rw (left_is mover_job mover_lawful p image may_run refl (to_stop s), writes_are)
      (cut_halts g n image relocates s.stored s.erased s.before)

  wholes : (k : ℕ) → Whole g n image relocates (left (to_end k))
  unfolding make_plan step_count
  wholes k =
      rw (left_is mover_job mover_lawful p image may_run refl (to_end k), writes_are)
      (whole_end g n image relocates (3 + data_steps p + k) (omega arith))

  -- ---- an image that a course of it leaves

  module _ (image' : List ℕ) (ha : Halt g n image relocates image') where
    abbrev vs' : Views
    vs' = views_of g image'

    abbrev X : List ℕ
    X = peb_at g image' p.target

    abbrev Y : List ℕ
    Y = peb_at g image' p.old

    all_run : Stored g n image relocates d image' → part g.data_start d X ≡ D
    all_run s = s.run ∙ take_all d D (omega (arith, relocates.long_bytes))

    order : (Y ≡ O) ⊎ ((vid_part g X ≡ vid_bytes p.vid) × (part g.data_start d X ≡ part g.data_start d O))
    order = ⊎_elim (λ e. inl e) (λ s. inr (s.header, all_run s)) ha.order

    -- a stopped move
    kept_cut : all_of (premise_rules p image image') ≡ true
        → Keeps m vs' v l p.target (header_whole p image' && run_whole p image image')
    unfolding premise_rules header_whole run_whole
    kept_cut pr =
        let r : (k : ℕ) → get_or (premise_rules p image image') k true ≡ true = each_holds
        (premise_rules p image image') pr in
        rw geometry_is
        (stopped g n image image' f.unrefused v l p.old p.target c p ready good read_O ha.near.elsewhere ha.near.same_ec
        (ha.near.same_tail ∙ blank_T) order
        (rw geometry_is at (r 0)) (rw geometry_is at (r 1)) (rw geometry_is at (r 2)) (rw geometry_is at (r 3)))

    -- a move that is not cut
    module _ (s : Stored g n image relocates d image') (Y-is : Y ≡ put 0 (ec_bytes p.ec) (replicate g.peb_size 0xFF)) where
      kept_end : Keeps m vs' v l p.target true
      kept_end =
          finished g n image image' f.unrefused v l p.old p.target c p ready good read_O ha.near.elsewhere
          ha.near.same_ec
          (ha.near.same_tail ∙ blank_T) s.header (all_run s) (renewed_ec g P Y p.ec Y-is) (renewed_vid g P Y p.ec Y-is)

      end_free : class_at (medium_of g n image') p.old ≡ 0
      unfolding class_at
      end_free =
          let e : (vs' p.old).ec ≡ ec_good p.ec = ec_written_lem g Y p.ec good.ec_fits good.ec_good_holds
          (renewed_ec g P Y p.ec Y-is) in
          let w : (vs' p.old).vid ≡ vid_blank = vid_erased g Y (renewed_vid g P Y p.ec Y-is) in
          rw (e, w)

  -- ---- what a course leaves

  -- the map with the place written
  map_after : (y : List ℕ) (w : Bool) → Keeps m (views_of g y) v l p.target w
      → entries (medium_of g n y) ≡ cond w (place_written v l p.target (entries m)) (entries m)
  unfolding entries places_of table_records
  map_after y w k =
      ap₂ map_of (ap (table_records m) k.same_faces) k.new_places
      ∙ either_way
      (λ w. map_of (records m) (cond w (places_with v l p.target (places m)) (places m))
      ≡ cond w (place_written v l p.target (map_of (records m) (places m))) (map_of (records m) (places m)))
      w (map_moved v l p.target (places m) p.old (rw ready.chosen_here) (records m)) refl

  pub record After (course : Course) : Type 0 where
    pub still : Attachable g n (image_left mover_job p image course)
    pub same_faces : faces (medium_of g n (image_left mover_job p image course)) ≡ faces (medium_of g n image)
    pub new_map : entries (medium_of g n (image_left mover_job p image course))
        ≡ cond (is_written p image course (image_left mover_job p image course))
        (place_written v l t (entries (medium_of g n image))) (entries (medium_of g n image))
    pub moved : Moved req p course image (image_left mover_job p image course)

  module _ (course : Course) (near : Near g n image relocates (left course))
      (kept : Keeps m (views_of g (left course)) v l p.target (is_written p image course (left course)))
      (freed : outcome_of req (left course) ≡ whole (medium_of g n (left course)) → Freed req p course (left course))
    where
      still : Attachable g n (left course)
      unfolding make_plan
      still = record {
        long = near.long ∙ f.long;
        bytes = left_octets mover_job mover_lawful p image may_run refl f.bytes course;
        unrefused = kept.attaches;
      }

      after_of : After course
      unfolding make_plan
      after_of = record {
        still = still;
        same_faces = kept.same_faces;
        new_map = map_after (left course) (is_written p image course (left course)) kept;
        moved = record {
          same_length = near.long;
          elsewhere = λ k nq nt.
              same_byte g (left course) image k (peb_above req g n chip) (near.elsewhere (k / g.peb_size) nq nt);
          steps = steps mover_job mover_lawful p image may_run refl;
          freed = freed (attached req g n chip (left course) still.long still.unrefused);
        };
      }

  -- any course, with the premise if it was stopped
  pub after : (course : Course) → premise_of image course (image_left mover_job p image course) (given p) ≡ true
      → After course
  unfolding is_written
  after (to_end k) pr =
      let w = wholes k in
      let ha : Halt g n image relocates (left (to_end k)) = record { near = w.near; order = inr w.stored } in
      after_of (to_end k) w.near (kept_end (left (to_end k)) ha w.stored w.old_erased)
      (λ q. rw (q, end_free (left (to_end k)) ha w.stored w.old_erased))
  after (to_stop s) pr = after_of (to_stop s) (halts s).near (kept_cut (left (to_stop s)) (halts s) pr) (λ q. tt)
