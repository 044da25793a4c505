-- What the bytes of an image leave to the numbers of its views. Assumes nothing.
use mathlib.Core.Path.{◌≡◌, refl, ◌∙◌, ap, subst}
use mathlib.Core.Logic.{inl, inr}
use mathlib.Core.Bool.{Bool, true, false, ◌&&◌, cond}
use mathlib.Core.Option.{Option, none, some}
use mathlib.Core.List.{List}
use Prim.Native.Nat.{ℕ, ◌-◌, ◌*◌, ◌%◌, ◌^◌, ◌≤◌, ◌<◌}
use native.Mathlib.Omega.{arith}
use native.Mathlib.Nat.{sub-zero}
use lib.Dec.{eqb, leb, lit<}
use borrow.Author.Tests.{eqb-true, eq-eqb, leb-true}
use lib.ListN.{length, take, drop, get_or, length-take, length-drop}
use Rattle.base.specs.Answers.{all_of}
use Rattle.base.specs.Lists.{Bytes}
use Rattle.base.proofs.Answers.{by_option, and_left, and_right, each_holds}
use Rattle.base.proofs.Below.{nonzero_all}
use Rattle.base.proofs.Highest.{max_most}
use Rattle.base.proofs.Lists.{length_part, bytes_take, bytes_drop, bytes_part}
use Rattle.crc32.specs.Crc.{crc_of}
use Rattle.geometry.specs.Geometry.{round_up}
use Rattle.geometry.specs.Placed.{Placed}
use Rattle.geometry.specs.declared.Geometry.{Geometry}
use Rattle.header.specs.Ec.{ec_fields, EcFits}
use Rattle.header.specs.Vid.{layout_volume, vid_fields, vid_rules, layout_rule, VidFits}
use Rattle.header.specs.declared.EcHeader.{EcHeader}
use Rattle.header.proofs.Laws.{ec_good_holds, vid_good_holds}
use Rattle.header.proofs.RoundTrip.{ec_read_fits, vid_read_fits}
use Rattle.volume_table.specs.Table.{record_at}
use Rattle.volume_record.specs.declared.VolumeRecord.{VolumeRecord}
use Rattle.volume_table.proofs.Good.{good_pads}
use Rattle.report.specs.View.{Copy, copy_of, vid_part, peb_at, Views, Medium, medium_of, ecs, copies}
use Rattle.report.specs.Scan.{image_seq_or0, image_seq_of}
use Rattle.report.specs.Choice.{chosen}
use Rattle.report.specs.Volumes.{face_of, faces_of, table_leb, record_for, reserved_of}
use Rattle.report.specs.Report.{mean_of, highest_of, sequence_or0, faces, places, records, refusal}
use Rattle.report.proofs.Choice.{chosen_at}
use Rattle.report.proofs.Facts.{parts}
use Rattle.report.proofs.Mean.{mean_between}
use Rattle.report.proofs.Tables.{no_misfit, entry_fits, record_good_lem, table_good_holds}
use Rattle.mover_rules.specs.Headers.{is_static, data_end, new_size, new_vid, old_counter, new_ec}
use Rattle.job.proofs.Blocks.{peb_length}
use Rattle.mover_rules.proofs.Data.{end_within, round_within}
use Rattle.job.proofs.Seen.{Read, copy_read, ec_seen_lem}
use Rattle.mover_rules.proofs.Accepted.{InMap, Accepted}
use Rattle.mover_rules.proofs.Good.{Good, Moves, good_headers}

-- ---- the numbers in an image

module _ (g : Geometry) (P : Placed g) (n : ℕ) (image : List ℕ) (bytes : Bytes image) (len : length image ≡ n * g.peb_size) where
  abbrev m : Medium
  m = medium_of g n image

  abbrev vs : Views
  vs = m.views

  abbrev peb : ℕ → List ℕ
  peb i = peb_at g image i

  peb_bytes : (i : ℕ) → Bytes (peb i)
  peb_bytes i = bytes_part (i * g.peb_size) g.peb_size image bytes

  vid_long : (i : ℕ) → i < n → 64 ≤ length (vid_part g (peb i))
  vid_long i h =
      let e = peb_length g n image len i h in
      let l = length_part g.vid_start 64 (peb i) (omega (arith, P.data_after_vid, P.leb_fills)) in
      omega arith

  ec_long : (i : ℕ) → i < n → 64 ≤ length (take 64 (peb i))
  ec_long i h =
      let e = peb_length g n image len i h in
      let l = length_part 0 64 (peb i) (omega (arith, P.vid_after_ec, P.data_after_vid, P.leb_fills)) in
      omega arith

  -- a copy
  module _ (i : ℕ) (i<n : i < n) (c : Copy) (is : copies vs i ≡ some c) where
    pub read : Read g (peb i) c
    read = copy_read g (peb i) c is

    fields : vid_fields (vid_part g (peb i)) ≡ c.header
    fields = (vid_good_holds g.leb_size (vid_part g (peb i)) read.reads).0

    copy_widths : VidFits c.header
    copy_widths =
        subst VidFits fields
        (vid_read_fits (vid_part g (peb i)) (bytes_part g.vid_start 64 (peb i) (peb_bytes i)) (vid_long i i<n))

    pub copy_rules : all_of (vid_rules g.leb_size c.header) ≡ true
    copy_rules = (vid_good_holds g.leb_size (vid_part g (peb i)) read.reads).1

    body_is : c.body ≡ drop g.data_start (peb i)
    unfolding copy_of
    body_is = ap (λ (x : Copy). x.body) read.is

    body_long : length c.body ≡ g.leb_size
    body_long = rw body_is (length-drop g.data_start (peb i)
        ∙ omega (arith, peb_length g n image len i i<n, P.leb_fills))

    body_bytes : Bytes c.body
    body_bytes = rw body_is (bytes_drop g.data_start (peb i) (peb_bytes i))

    matches_is : c.matches ≡ eqb (crc_of (take c.header.data_size c.body)) c.header.data_crc
    unfolding copy_of
    matches_is = rw body_is (ap (λ (x : Copy). x.matches) read.is)

  -- a good EC header
  module _ (i : ℕ) (i<n : i < n) (h : EcHeader) (is : ecs vs i ≡ some h) where
    ec_fields_lem : ec_fields (take 64 (peb i)) ≡ h
    ec_fields_lem = (ec_good_holds (take 64 (peb i)) (ec_seen_lem g (peb i) h is)).0

    pub ec_widths : EcFits h
    ec_widths = subst EcFits ec_fields_lem
        (ec_read_fits (take 64 (peb i)) (bytes_take 64 (peb i) (peb_bytes i)) (ec_long i i<n))

    pub counter_most : h.counter ≤ 0x7FFFFFFF
    counter_most = (ec_good_holds (take 64 (peb i)) (ec_seen_lem g (peb i) h is)).1

  -- the highest sequence
  highest_most : highest_of n (copies vs) ≤ 256 ^ 8 - 1
  unfolding highest_of
  highest_most = max_most n (λ i. sequence_or0 (copies vs i)) (256 ^ 8 - 1)
      (λ i h. by_option (copies vs i) (λ e. rw e (omega arith))
      (λ c e. rw e (let w = (copy_widths i h c e).sequence in omega arith)))

  -- where one EC header is good: the old PEB's counter, and the image sequence
  module _ (t : ℕ) (t<n : t < n) (s : EcHeader) (is : ecs vs t ≡ some s) where
    mean_most : mean_of m ≤ 0x7FFFFFFF
    mean_most =
        let r = mean_between m t s t<n is in
        let b = r.1 in
        omega (arith, r.3, counter_most b.at b.below b.value b.is)

    old_counter_most : (o : ℕ) → o < n → old_counter m o ≤ 0x7FFFFFFF
    unfolding old_counter
    old_counter_most o h = by_option (ecs vs o) (λ e. rw e mean_most) (λ x e. rw e (counter_most o h x e))

  image_small : image_seq_of n vs < 256 ^ 4
  unfolding image_seq_of
  image_small =
      nonzero_all (λ i. image_seq_or0 (ecs vs i)) (λ x. x < 256 ^ 4) n (lit< tt)
      (λ i h. by_option (ecs vs i) (λ q. rw q (lit< tt)) (λ x q. rw q (ec_widths i h x q).image_seq))

  -- ---- the rounded data size fits the LEB: by the table's rule on pads and refusal 12

  module _ (ok : refusal m ≡ none) (v l o : ℕ) (c : Copy) (is : chosen n (copies vs) v l ≡ some (o, c)) where
    at_o : (o < n) × (copies vs o ≡ some c) × (c.header.volume ≡ v) × (c.header.lnum ≡ l)
    at_o = chosen_at n (copies vs) v l o c is

    rule : (k : ℕ) → get_or (vid_rules g.leb_size c.header) k true ≡ true
    rule = each_holds (vid_rules g.leb_size c.header) (copy_rules o at_o.0 c at_o.1)

    layout_pad : c.header.volume ≡ layout_volume → c.header.data_pad ≡ 0
    unfolding vid_rules layout_rule
    layout_pad e =
        let h = c.header in
        let pad-and-lnum : Bool = eqb h.data_pad 0 && leb h.lnum 1 in
        let r = rw (eq-eqb h.volume layout_volume e) at (rule 9) in
        let q = and_right (eqb h.compat 5) pad-and-lnum
        (and_right (eqb h.vol_type 1) (eqb h.compat 5 && pad-and-lnum) r) in
        eqb-true h.data_pad 0 (and_left (eqb h.data_pad 0) (leb h.lnum 1) q)

    is_face : faces m v l ≡ some (face_of g c)
    unfolding faces_of
    is_face = rw is

    abbrev t : List ℕ
    t = records m

    pad_units : InMap t v l → (g.leb_size - c.header.data_pad) % g.unit ≡ 0
    unfolding face_of
    pad_units (inr h) = rw (layout_pad (at_o.2 ∙ h.0), sub-zero) P.unit_divides
    pad_units (inl h) = go (record_for t v) refl h.1
      where
        go : (y : Option VolumeRecord) → record_for t v ≡ y → l < reserved_of y
            → (g.leb_size - c.header.data_pad) % g.unit ≡ 0
        go none e k = absurd (omega arith)
        go (some r) e k =
            let none12 = no_misfit (table_leb m (faces m)) t (faces m) (places m) (parts m ok).none1112 in
            let p : c.header.data_pad ≡ r.data_pad = (entry_fits t (faces m) none12 v l r
            (face_of g c) h.0 e k is_face).same_pad in
            let q = record_good_lem _ _ _ _ _ t (table_good_holds m ok) v r e in
            rw (p, q.2) (good_pads g.leb_size g.unit (record_at t v) q.1 P.unit_divides)

    size_fits : InMap t v l → new_size g c ≤ g.leb_size - c.header.data_pad
    unfolding new_size vid_rules
    size_fits k = go (is_static c)
      where
        top : ℕ
        top = g.leb_size - c.header.data_pad

        go : (b : Bool) → cond b c.header.data_size
            (round_up g.unit (data_end (take (cond b c.header.data_size top) c.body))) ≤ top
        go true = leb-true c.header.data_size top (rule 6)
        go false =
            let q = end_within (take top c.body) in
            let r = length-take top c.body in
            round_within g.unit (data_end (take top c.body)) top P.unit_above (pad_units k) (omega arith)

  -- ---- the headers of an accepted move are good

  module _ (ok : refusal m ≡ none) (v l t o : ℕ) (c : Copy) (a : Accepted m v l t o c) where
    moves : Moves g c
    moves =
        let h = chosen_at n (copies vs) v l o c a.chosen_here in
        record {
          is_sound = a.is_sound;
          is_right = a.is_right;
          long = body_long o h.0 c h.1;
          bytes = body_bytes o h.0 c h.1;
          matches_is = matches_is o h.0 c h.1;
          rules = copy_rules o h.0 c h.1;
          widths = copy_widths o h.0 c h.1;
          size_fits = size_fits ok v l o c a.chosen_here a.in_map;
        }

    pub goods : Good g (image_seq_of n vs) c (new_vid g (highest_of n (copies vs)) c) (new_ec m o)
    goods =
        let h = chosen_at n (copies vs) v l o c a.chosen_here in
        let f = a.target_free.1 in
        let count = old_counter_most t a.target_there f.0 (rw f.1) o h.0 in
        let high = highest_most in
        let left = a.sequence_left in
        let more = a.counter_left in
        good_headers g P c moves (highest_of n (copies vs)) (omega arith) n vs o (omega arith) image_small
