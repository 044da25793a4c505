-- From the bytes of the two PEBs to the stages: a stopped move is torn, half or whole. Assumes nothing.
use mathlib.Core.Path.{◌≡◌, refl, sym, ◌∙◌, ap}
use mathlib.Core.Logic.{◌≢◌, ◌⊎◌, ⊎_elim}
use mathlib.Core.Bool.{Bool, true, false, not, ◌&&◌, ◌||◌, or-true}
use mathlib.Core.Option.{none, some}
use mathlib.Core.List.{List}
use Prim.Native.Nat.{ℕ, ◌+◌, ◌-◌, ◌<◌}
use lib.Dec.{eqb}
use borrow.Author.Tests.{eq-eqb, ne_eqb, not-true}
use lib.ListN.{take, drop, replicate}
use lib.Seq.{drop-drop}
use Rattle.base.specs.Lists.{part, eqs}
use Rattle.base.proofs.Answers.{clash, none_some}
use Rattle.base.proofs.Below.{eq_or_ne}
use Rattle.base.proofs.Lists.{eqs_refl, eqs_true}
use Rattle.crc32.specs.Crc.{crc_of}
use Rattle.geometry.specs.declared.Geometry.{Geometry}
use Rattle.header.specs.Fields.{good}
use Rattle.header.specs.Ec.{ec_bytes}
use Rattle.header.specs.Vid.{implies, vid_bytes}
use Rattle.report.specs.View.{Copy, VidView, vid_good, vid_blank, Views, good_vid, copy_of, vid_part, peb_at, view_of, views_of, Medium, medium_of, copies, is_mappable}
use Rattle.report.specs.Scan.{image_seq_of, ec_refusal, vid_refusal}
use Rattle.report.specs.Choice.{sound}
use Rattle.report.specs.Report.{refusal}
use Rattle.report.specs.Volumes.{content_of, face_of}
use Rattle.report.proofs.Choice.{chosen_at}
use Rattle.mover_rules.specs.declared.Plan.{Plan}
use Rattle.mover_rules.proofs.Good.{Good}
use Rattle.job.specs.Torn.{unlike}
use Rattle.job.proofs.Stage.{Ready, Keeps, o_before, keeps_torn, keeps_half, keeps_whole}
use Rattle.job.proofs.Seen.{ec_written_lem, vid_written_lem, vid_torn, vid_erased, Read, ec_after, vid_after}

-- O is the old PEB at first, X and Y the target and the old PEB in the stopped image
module _ (g : Geometry) (n : ℕ) (image image' : List ℕ) (ok : refusal (medium_of g n image) ≡ none) (v l o t : ℕ) (old : Copy) (p : Plan)
    (b : Ready (medium_of g n image) v l o t old p.vid) (good : Good g (image_seq_of n (views_of g image)) old p.vid p.ec)
    (read_O : Read g (peb_at g image o) old) (rest : (i : ℕ) → i ≢ o → i ≢ t → peb_at g image' i ≡ peb_at g image i)
    (same_ec : take 64 (peb_at g image' t) ≡ take 64 (peb_at g image t))
    (tail-X : drop (g.data_start + p.vid.data_size) (peb_at g image' t) ≡ replicate
    (g.leb_size - p.vid.data_size) 0xFF) where
  abbrev m : Medium
  m = medium_of g n image

  abbrev vs' : Views
  vs' = views_of g image'

  abbrev Kept : Bool → Type 0
  Kept = Keeps m vs' v l t

  views_rest : (i : ℕ) → i < n → i ≢ t → i ≢ o → vs' i ≡ m.views i
  views_rest i h nt nq = ap (view_of g) (rest i nq nt)

  target_ec : (vs' t).ec ≡ (m.views t).ec
  unfolding view_of
  target_ec = rw same_ec

  abbrev O : List ℕ
  O = peb_at g image o

  abbrev X : List ℕ
  X = peb_at g image' t

  abbrev Y : List ℕ
  Y = peb_at g image' o

  abbrev run : List ℕ
  run = part g.data_start p.vid.data_size X

  abbrev data_run : List ℕ
  data_run = part g.data_start p.vid.data_size O

  body_O : old.body ≡ drop g.data_start O
  unfolding copy_of
  body_O = ap (λ (c : Copy). c.body) read_O.is

  old_run : take p.vid.data_size old.body ≡ data_run
  old_run = ap (take p.vid.data_size) body_O

  -- the new copy, once its header is whole
  abbrev new : Copy
  new = copy_of g X p.vid

  new_seen : vid_part g X ≡ vid_bytes p.vid → (vs' t).vid ≡ vid_good new
  new_seen e = vid_written_lem g X p.vid good.vid_fits good.vid_good_holds e

  half_unsound : eqs run data_run ≡ false → eqb (crc_of run) p.vid.data_crc ≡ false → sound new ≡ false
  unfolding copy_of
  half_unsound ne c =
      ⊎_elim
      (λ (e : p.vid.copy_flag ≡ 0). clash ne (rw (good.no_data e) (eqs_refl _)))
      (λ (e : p.vid.copy_flag ≢ 0). rw (ne_eqb p.vid.copy_flag 0 e, c))
      (eq_or_ne p.vid.copy_flag 0)

  whole_sound : run ≡ data_run → sound new ≡ true
  unfolding copy_of
  whole_sound e =
      ⊎_elim
      (λ (z : p.vid.copy_flag ≡ 0). rw (eq-eqb p.vid.copy_flag 0 z))
      (λ (q : p.vid.data_crc ≡ crc_of (take p.vid.data_size old.body)).
      rw (e, q, old_run, eq-eqb (crc_of data_run) (crc_of data_run) refl) (or-true (eqb p.vid.copy_flag 0)))
      good.summed

  same_face : run ≡ data_run → face_of g new ≡ face_of g old
  unfolding face_of copy_of
  same_face e =
      let r : run ≡ take p.vid.data_size old.body = e ∙ sym old_run in
      let s : sound new ≡ sound old = whole_sound e ∙ sym good.old_sound in
      let q : not (eqb p.vid.vol_type 2) || eqb (crc_of run) p.vid.data_crc ≡ not
      (eqb old.header.vol_type 2) || old.matches =
      rw r good.new_right ∙ sym good.old_right in
      let c : content_of g new ≡ content_of g old =
      good.content (drop g.data_start X) r (drop-drop p.vid.data_size g.data_start X ∙ tail-X) in
      λ i. record {
        vol_type = good.same_type i;
        pad = good.same_pad i;
        used = good.same_used i;
        sound = s i;
        right = q
            i;
        content = c i;
      }

  -- ---- the old PEB, whatever is left of it

  old_ec : unlike (eqs (take 64 Y) (take 64 O) || eqs (take 64 Y) (ec_bytes p.ec)) (take 64 Y) ≡ true
      → ec_refusal g (image_seq_of n m.views) (vs' o).ec ≡ none
  old_ec =
      ec_after g O Y p.ec good.ec_fits good.ec_good_holds (λ x. ec_refusal g (image_seq_of n m.views) x ≡ none)
      (o_before m vs' v l o t old p.vid ok b views_rest target_ec).0 good.ec_stands refl refl

  -- its VID header is the old one, or none
  abbrev OldVid : VidView → Type 0
  OldVid x = (vid_refusal x ≡ none) × ((c : Copy) → good_vid x ≡ some c → c.header ≡ old.header)

  no_copy : OldVid vid_blank
  no_copy = (refl, λ c e. none_some e)

  old_vid : unlike (eqs (vid_part g Y) (vid_part g O)) (vid_part g Y) ≡ true → OldVid (vs' o).vid
  unfolding copy_of
  old_vid = vid_after g O Y old read_O OldVid (rw mappable, same) no_copy (refl, λ c e. none_some e)
    where
      mappable : is_mappable old.header.volume ≡ true
      mappable = rw (chosen_at n (copies m.views) v l o old b.chosen_here).2 b.mappable_here

      same : (c : Copy) → some (copy_of g Y old.header) ≡ some c → c.header ≡ old.header
      same c e = let z : copy_of g Y old.header ≡ c = cc in sym (ap (λ (y : Copy). y.header) z)

  -- ---- the stages

  whole_now : vid_part g X ≡ vid_bytes p.vid → run ≡ data_run → ec_refusal g (image_seq_of n m.views) (vs' o).ec ≡ none
      → OldVid (vs' o).vid → Kept true
  unfolding copy_of
  whole_now eh ed ec ov =
      keeps_whole m vs' v l o t old p.vid ok b views_rest target_ec new (new_seen eh) refl (whole_sound ed)
      (same_face ed) ec ov.0 ov.1

  abbrev header_whole_lem : Bool
  header_whole_lem = eqs (vid_part g X) (vid_bytes p.vid)

  abbrev run_whole_lem : Bool
  run_whole_lem = eqs run data_run

  -- a stopped move: the old PEB is touched only when the new one is whole, and the premise holds
  pub stopped : (Y ≡ O) ⊎ ((vid_part g X ≡ vid_bytes p.vid) × (run ≡ data_run))
      → unlike header_whole_lem (vid_part g X) ≡ true
      → implies header_whole_lem (run_whole_lem || not (eqb (crc_of run) p.vid.data_crc)) ≡ true
      → unlike (eqs (take 64 Y) (take 64 O) || eqs (take 64 Y) (ec_bytes p.ec)) (take 64 Y) ≡ true
      → unlike (eqs (vid_part g Y) (vid_part g O)) (vid_part g Y) ≡ true
      → Kept (header_whole_lem && run_whole_lem)
  unfolding copy_of
  stopped order c1 c2 c3 c4 = go header_whole_lem refl run_whole_lem refl c1 c2
    where
      untouched : header_whole_lem && run_whole_lem ≡ false → vs' o ≡ m.views o
      untouched ne =
          ⊎_elim (λ (e : Y ≡ O). ap (view_of g) e)
          (λ w. clash ne (rw (w.0, w.1, eqs_refl (vid_bytes p.vid)) (eqs_refl data_run))) order

      go : (h : Bool) → header_whole_lem ≡ h → (d : Bool) → run_whole_lem ≡ d → unlike h (vid_part g X) ≡ true
          → implies h (d || not (eqb (crc_of run) p.vid.data_crc)) ≡ true → Kept (h && d)
      go false eh d ed c1 c2 = keeps_torn m vs' v l o t old p.vid ok b views_rest target_ec (untouched (rw eh))
          (vid_torn g X c1)
      go true eh false ed c1 c2 =
          keeps_half m vs' v l o t old p.vid ok b views_rest target_ec new (untouched (rw (eh, ed)))
          (new_seen (eqs_true (vid_part g X) (vid_bytes p.vid) eh)) refl
          (half_unsound ed (not-true (eqb (crc_of run) p.vid.data_crc) c2))
      go true eh true ed c1 c2 =
          whole_now (eqs_true (vid_part g X) (vid_bytes p.vid) eh) (eqs_true run data_run ed) (old_ec c3) (old_vid c4)

  -- a move that is not cut
  pub finished : vid_part g X ≡ vid_bytes p.vid → run ≡ data_run → take 64 Y ≡ ec_bytes p.ec
      → vid_part g Y ≡ replicate 64 0xFF → Kept true
  finished eh ed ee ev =
      whole_now eh ed (rw (ec_written_lem g Y p.ec good.ec_fits good.ec_good_holds ee) good.ec_stands)
      (rw (vid_erased g Y ev) no_copy)
