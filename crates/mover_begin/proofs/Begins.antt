-- From stage to stage of beginning a move. Assumes nothing.
use mathlib.Core.Path.{◌≡◌, sym, ap, ◌∙◌}
use mathlib.Core.Logic.{◌≢◌}
use mathlib.Core.Bool.{Bool, true, false}
use mathlib.Core.Option.{none, some}
use mathlib.Core.List.{List}
use Prim.Native.Nat.{ℕ, ◌+◌, ◌-◌, ◌*◌, ◌^◌, ◌<◌}
use native.Mathlib.Omega.{arith}
use borrow.Author.Tests.{eq-eqb, ne_eqb, ltb-true, leb-true}
use lib.ListN.{length, take, drop, get_or}
use Rattle.base.proofs.Lists.{lent_part}
use Rattle.base.specs.Answers.{Answer, given, refused, map_o}
use Rattle.base.specs.Below.{any_below}
use Rattle.base.proofs.Answers.{none_some, map_o_none, map_o_some, each_holds, cond_yes}
use Rattle.geometry.specs.declared.Geometry.{Geometry}
use Rattle.header.specs.Vid.{vid_fields, vid_rules}
use Rattle.header.specs.declared.VidHeader.{VidHeader}
use Rattle.report.specs.View.{Copy, Medium, peb_at, copy_of, views_of, copies}
use Rattle.report.specs.Scan.{image_seq_of}
use Rattle.report.specs.Report.{highest_of, read_only_of, mean_of, is_internal, entries}
use Rattle.report.specs.Attach.{report_of}
use Rattle.report.specs.declared.Report.{Report}
use Rattle.report.proofs.Choice.{chosen_at}
use Rattle.copies.specs.InPlace.{header_at, copy_at}
use Rattle.copies.proofs.Copies.{copy_is}
use Rattle.mover_rules.specs.Headers.{old_counter, new_ec}
use Rattle.mover_rules.specs.Begin.{is_in, refusal13, mapped, refusal15, refusal16, refusal17, make_plan, plan_for, plan_of}
use Rattle.mover_rules.specs.declared.Plan.{Plan}
use Rattle.mover_rules.proofs.Bounds.{copy_rules}
use Rattle.job.proofs.Blocks.{peb_length}
use Rattle.mover_checks.specs.Reported.{is_no_target, ec_with}
use Rattle.mover_copy.specs.Examined.{Fits, is_damaged, examined, renewed_as}
use Rattle.mover_copy.specs.declared.Examined.{Examined}
use Rattle.mover_copy.proofs.Data.{renewed}
use Rattle.mover_begin.specs.Begins.{medium_in, Told, Moved, plan_with}

-- ---- the copy that is moved

module _ {image p : List ℕ} {r : Report} {pebs : List ℕ} {o : ℕ} {h : VidHeader}
    (k : Told image r pebs) (m : Moved r.geometry image p r.peb_count o h) where
  abbrev g : Geometry
  g = r.geometry

  p_long : length p ≡ g.peb_size
  p_long = rw m.bytes_are (peb_length g r.peb_count image k.reported.whole o m.within)

  rule : (i : ℕ) → get_or (vid_rules g.leb_size h) i true ≡ true
  unfolding copy_of
  rule =
      let t = k.reported in
      each_holds (vid_rules g.leb_size h)
      (copy_rules g t.placed r.peb_count image t.bytes t.whole o m.within (copy_of g p h) m.copy_is)

  pub fits : Fits g p h
  unfolding vid_rules
  fits =
      let pad = ltb-true (2 * h.data_pad) g.leb_size (rule 5) in
      let size = leb-true h.data_size (g.leb_size - h.data_pad) (rule 6) in
      record {
        placed = k.reported.placed;
        whole = p_long;
        pad_fits = omega (arith, pad);
        data_fits = omega (arith, p_long, k.reported.placed.leb_fills, size);
      }

-- it is the one that stands in its PEB
module _ (g : Geometry) (image : List ℕ) (o : ℕ) {p : List ℕ} {h : VidHeader} (is : p ≡ peb_at g image o)
    (fields : h ≡ vid_fields (take (g.vid_start + 64 - g.vid_start) (drop g.vid_start p))) where
  pub copy_there : copy_of g p h ≡ copy_at g image o
  unfolding header_at
  copy_there = rw (fields, lent_part g.vid_start 64 p, is)

  pub moved : {n : ℕ} → o < n → copies (views_of g image) o ≡ some (copy_at g image o) → Moved g image p n o h
  moved k e = record { within = k; bytes_are = is; copy_is = e ∙ ap some (sym copy_there) }

-- ---- the report's numbers

module _ {image : List ℕ} {r : Report} {pebs : List ℕ} (k : Told image r pebs) where
  abbrev m : Medium
  m = medium_in image r

  pub highest_is : r.highest ≡ highest_of m.count (copies m.views)
  unfolding report_of
  highest_is = ap (λ (x : Report). x.highest) k.report_is

  pub mean_is : r.mean ≡ mean_of m
  unfolding report_of
  mean_is = ap (λ (x : Report). x.mean) k.report_is

  seq_is : r.image_seq ≡ image_seq_of m.count m.views
  unfolding report_of
  seq_is = ap (λ (x : Report). x.image_seq) k.report_is

  read_only_is : r.read_only ≡ read_only_of m.count (copies m.views)
  unfolding report_of
  read_only_is = ap (λ (x : Report). x.read_only) k.report_is

  -- ---- 13 and 14

  module _ (v l t : ℕ) where
    pub read_only_refused : r.read_only ≡ true → refused 13 0 ≡ plan_of m v l t
    unfolding plan_of refusal13
    read_only_refused e = let z = sym read_only_is ∙ e in rw z

    abbrev stands : Bool
    stands = any_below m.count (λ (i : ℕ). is_internal 1 (copies m.views i))

    abbrev place : ℕ × Copy → ℕ
    place x = x.0

    -- a LEB that is found is in a PEB of the image, with the copy that stands there
    mapped_copy : (x : ℕ × Copy) → mapped m v l ≡ some x
        → (x.0 < m.count) × (x.1 ≡ copy_at r.geometry image x.0) × (copies m.views x.0 ≡ some x.1)
    unfolding mapped
    mapped_copy x e =
        let c = (cond_yes (is_in v l (entries m)) none_some e).1 in
        let w = chosen_at m.count (copies m.views) v l x.0 x.1 c in
        (w.0, copy_is r.geometry image x.0 x.1 w.1, w.1)

    module _ (e : r.read_only ≡ false) where
      pub standing_refused : stands ≡ true → refused 13 0 ≡ plan_of m v l t
      unfolding plan_of refusal13
      standing_refused s = let z = sym read_only_is ∙ e in rw (z, s)

      past_13 : stands ≡ false → plan_of m v l t ≡ plan_for m t (mapped m v l)
      unfolding plan_of refusal13
      past_13 s = let z = sym read_only_is ∙ e in rw (z, s)

      pub unmapped_refused : stands ≡ false → map_o place (mapped m v l) ≡ none → refused 14 0 ≡ plan_of m v l t
      unmapped_refused s q = sym (past_13 s ∙ rw (map_o_none place (mapped m v l) q))

      pub found_planned : stands ≡ false → (o : ℕ) {a : Answer Plan} → map_o place (mapped m v l) ≡ some o
          → a ≡ plan_for m t (some (o, copy_at r.geometry image o)) → a ≡ plan_of m v l t
      found_planned s o q e =
          let x = map_o_some place (mapped m v l) o q in
          let w = mapped_copy x.0 x.1 in
          e ∙ sym (past_13 s ∙ ap (plan_for m t) x.1 ∙ rw (w.1, x.2))

    pub found_copy : (o : ℕ) → map_o place (mapped m v l) ≡ some o
        → (o < m.count) × (copies m.views o ≡ some (copy_at r.geometry image o))
    found_copy o q =
        let x = map_o_some place (mapped m v l) o q in
        let w = mapped_copy x.0 x.1 in
        rw (← x.2) (w.0, w.2 ∙ ap some w.1)

  -- ---- 15 to 17

  module _ (p : List ℕ) (o : ℕ) (h : VidHeader) (t : ℕ) where
    abbrev c : Copy
    c = copy_of r.geometry p h

    abbrev answer : Answer Plan
    answer = plan_for m t (some (o, c))

    module _ {found : Examined} (found-is : found ≡ examined r.geometry c) where
      damaged_is : is_damaged c ≡ found.damaged
      damaged_is = ap (λ (x : Examined). x.damaged) (sym found-is)

      pub damaged_refused : found.damaged ≡ true → refused 15 0 ≡ answer
      unfolding refusal15
      damaged_refused e = rw (damaged_is, e)

      module _ (e15 : found.damaged ≡ false) where
        pub target_refused : is_no_target m t ≡ true → refused 16 0 ≡ answer
        unfolding refusal15 refusal16
        target_refused e = rw (damaged_is, e15, e)

        module _ (e16 : is_no_target m t ≡ false) where
          pub highest_refused : r.highest ≡ 2 ^ 64 - 1 → refused 17 0 ≡ answer
          unfolding refusal15 refusal16 refusal17
          highest_refused e = rw (damaged_is, e15, e16, ← highest_is, eq-eqb r.highest (2 ^ 64 - 1) e)

          module _ (e17 : r.highest ≢ 2 ^ 64 - 1) {counter : ℕ} (is : counter ≡ old_counter m o) where
            pub counter_refused : counter ≡ 0x7FFFFFFF → refused 17 0 ≡ answer
            unfolding refusal15 refusal16 refusal17
            counter_refused e =
                rw (
                  damaged_is,
                  e15,
                  e16,
                  ← highest_is,
                  ne_eqb r.highest
                      (2 ^ 64 - 1) e17,
                  ← is,
                  eq-eqb counter 0x7FFFFFFF e,
                )

            ec_is : ec_with r.geometry counter r.image_seq ≡ new_ec m o
            unfolding new_ec
            ec_is = rw (seq_is, is)

            pub planned : counter ≢ 0x7FFFFFFF
                → given (plan_with r.geometry o t (renewed_as h found (r.highest + 1))
                (ec_with r.geometry counter r.image_seq))
                ≡ answer
            unfolding refusal15 refusal16 refusal17 make_plan
            planned e =
                rw (
                  damaged_is,
                  e15,
                  e16,
                  ← highest_is,
                  ne_eqb r.highest
                      (2 ^ 64 - 1) e17,
                  ← is,
                  ne_eqb counter 0x7FFFFFFF e,
                )
                (rw (found-is, renewed r.geometry p h r.highest, ec_is))
