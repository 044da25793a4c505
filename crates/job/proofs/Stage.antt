-- A LEB that gets a new PEB, seen on the views at any stop: the image still attaches, and what it says. Assumes nothing.
use mathlib.Core.Path.{◌≡◌, refl, sym, ◌∙◌, fun_ext}
use mathlib.Core.Logic.{◌≢◌, ◌⊎◌, inl, inr, ⊎_elim}
use mathlib.Core.Bool.{Bool, true, false, ◌&&◌, cond, and-false}
use mathlib.Core.Option.{Option, none, some}
use Prim.Native.Nat.{ℕ, ◌<◌}
use native.Mathlib.Omega.{arith}
use lib.Dec.{eqb}
use borrow.Author.Tests.{eqb-true, eq-eqb, ne_eqb}
use Rattle.base.proofs.Answers.{by_test}
use Rattle.base.proofs.Below.{eq_or_ne}
use Rattle.header.specs.declared.EcHeader.{EcHeader}
use Rattle.header.specs.declared.VidHeader.{VidHeader}
use Rattle.report.specs.View.{Copy, ec_good, vid_good, vid_blank, vid_bad, Views, Medium, copies, is_mappable}
use Rattle.report.specs.Scan.{ec_refusal, vid_refusal, refusal5678}
use Rattle.report.specs.Choice.{sound, repeats, refusal9, chosen}
use Rattle.report.specs.Volumes.{face_of, faces_of, places_of, table_leb, table_records}
use Rattle.report.specs.Report.{faces, places, records, refusal}
use Rattle.report.proofs.Choice.{Moving, chosen_at, chosen_cong, chosen_unsound, chosen_moved, chosen_other, key_or}
use Rattle.report.proofs.Map.{places_with}
use Rattle.report.proofs.Facts.{seq_in, Parts, parts, of_parts, none5678_at, no_5678, none9_at, no_9, no_10}
use Rattle.report.proofs.Tables.{no_1112}

-- ---- refusal 9

-- what repeats no sequence still repeats none, if every copy had its header before
repeats_before : (x y x₀ y₀ : Option Copy)
    → ((c : Copy) → x ≡ some c → (c₀ : Copy) × (x₀ ≡ some c₀) × (c.header ≡ c₀.header))
    → ((c : Copy) → y ≡ some c → (c₀ : Copy) × (y₀ ≡ some c₀) × (c.header ≡ c₀.header))
    → repeats x₀ y₀ ≡ false → repeats x y ≡ false
repeats_before none y x₀ y₀ p q e = refl
repeats_before (some c) none x₀ y₀ p q e = refl
repeats_before (some c) (some d) x₀ y₀ p q e =
    let a = p c refl in
    let b = q d refl in
    rw (a.2, b.2) (rw (a.1, b.1) at e)

repeats_not : (c d : Copy) → c.header.sequence ≢ d.header.sequence → repeats (some c) (some d) ≡ false
repeats_not c d ne =
    rw (
      ne_eqb c.header.sequence d.header.sequence ne,
      and-false (eqb c.header.lnum d.header.lnum),
      and-false (eqb c.header.volume d.header.volume),
      and-false (is_mappable c.header.volume),
    )

module _ (new : Copy) where
  Lower : Option Copy → Type 0
  Lower y = (c : Copy) → y ≡ some c → c.header.sequence < new.header.sequence

  new_repeats_none : (y : Option Copy) → Lower y → repeats (some new) y ≡ false
  unfolding Lower
  new_repeats_none none h = refl
  new_repeats_none (some d) h = repeats_not new d (let l = h d refl in λ e. omega arith)

  none_repeats_new : (y : Option Copy) → Lower y → repeats y (some new) ≡ false
  unfolding Lower
  none_repeats_new none h = refl
  none_repeats_new (some d) h = repeats_not d new (let l = h d refl in λ e. omega arith)

module _ (n : ℕ) (cs cs' : ℕ → Option Copy) (v l o t : ℕ) (old new : Copy) (m : Moving n cs cs' v l o t old new)
    (left : (c : Copy) → cs' o ≡ some c → c.header ≡ old.header) where
  -- each copy but the new one was there, with its header
  from : (i : ℕ) → i < n → i ≢ t → (c : Copy) → cs' i ≡ some c → (c₀ : Copy) × (cs i ≡ some c₀) × (c.header ≡ c₀.header)
  from i k ne c q =
      ⊎_elim
      (λ (e : i ≡ o). (old, rw e (chosen_at n cs v l o old m.chosen_here).1, left c (rw e at q)))
      (λ (nq : i ≢ o). (c, sym (m.rest i k ne nq) ∙ q, refl))
      (eq_or_ne i o)

  lower : (i : ℕ) → i < n → i ≢ t → Lower new (cs' i)
  unfolding Lower
  lower i k ne c q = let r = from i k ne c q in rw r.2 (m.above i k r.0 r.1)

  pub none9_moved : refusal9 n cs ≡ none → refusal9 n cs' ≡ none
  none9_moved e = no_9 n cs' λ i j h k. go i j h k (eq_or_ne i t) (eq_or_ne j t)
    where
      go : (i j : ℕ) → i < n → j < i → (i ≡ t) ⊎ (i ≢ t) → (j ≡ t) ⊎ (j ≢ t) → repeats (cs' i) (cs' j) ≡ false
      go i j h k (inl p) (inl q) = absurd (omega arith)
      go i j h k (inl p) (inr q) = rw (p, m.is) (new_repeats_none new (cs' j) (lower j (omega arith) q))
      go i j h k (inr p) (inl q) = rw (q, m.is) (none_repeats_new new (cs' i) (lower i h p))
      go i j h k (inr p) (inr q) = repeats_before (cs' i) (cs' j) (cs i) (cs j) (from i h p) (from j (omega arith) q)
          (none9_at n cs e i j h k)

-- ---- how it can have stopped

-- what it starts from: LEB l of volume v in PEB o, with the copy old; t is the new PEB, h its VID header
pub record Ready (m : Medium) (v l o t : ℕ) (old : Copy) (h : VidHeader) : Type 0 where
  pub chosen_here : chosen m.count (copies m.views) v l ≡ some (o, old)
  pub mappable_here : is_mappable v ≡ true
  pub is_sound : sound old ≡ true
  pub t<n : t < m.count
  pub free_vid : (m.views t).vid ≡ vid_blank
  pub spare : EcHeader
  pub free_ec : (m.views t).ec ≡ ec_good spare
  pub volume : h.volume ≡ v
  pub lnum : h.lnum ≡ l
  pub above : (i : ℕ) → i < m.count → (c : Copy) → copies m.views i ≡ some c → c.header.sequence < h.sequence

-- an image in which the PEBs have other views
abbrev pub with_views : Medium → Views → Medium
with_views m vs' = record { geometry = m.geometry; count = m.count; views = vs' }

-- what a stopped image keeps; w: is the new copy whole?
pub record Keeps (m : Medium) (vs' : Views) (v l t : ℕ) (w : Bool) : Type 0 where
  pub attaches : refusal (with_views m vs') ≡ none
  pub same_faces : faces (with_views m vs') ≡ faces m
  pub new_places : places (with_views m vs') ≡ cond w (places_with v l t (places m)) (places m)

key_miss : {A : Type 0} (v l v' l' : ℕ) → ((v ≡ v') → (l ≡ l') → ⊥) → (x y : A) → cond (eqb v v' && eqb l l') x y ≡ y
key_miss {A} v l v' l' ne x y =
    by_test (eqb v v') (λ p. by_test (eqb l l') (λ q. absurd (ne (eqb-true v v' p) (eqb-true l l' q))) (λ q. rw (p, q)))
    (λ p. rw p)

module _ (m : Medium) (vs' : Views) (v l o t : ℕ) (old : Copy) (h : VidHeader)
    (ok : refusal m ≡ none) (b : Ready m v l o t old h)
    (rest : (i : ℕ) → i < m.count → i ≢ t → i ≢ o → vs' i ≡ m.views i) (t-ec : (vs' t).ec ≡ (m.views t).ec) where
  abbrev n : ℕ
  n = m.count

  abbrev vs : Views
  vs = m.views

  abbrev m' : Medium
  m' = with_views m vs'

  P : Parts m
  P = parts m ok

  at_o : (o < n) × (copies vs o ≡ some old) × (old.header.volume ≡ v) × (old.header.lnum ≡ l)
  at_o = chosen_at n (copies vs) v l o old b.chosen_here

  -- refusals 5 to 8, from the two PEBs that changed
  after58 : ec_refusal m.geometry (seq_in m) (vs' o).ec ≡ none → vid_refusal (vs' o).vid ≡ none
      → vid_refusal (vs' t).vid ≡ none
      → refusal5678 m' ≡ none
  after58 eo vo vt = no_5678 m' (seq_in m) (λ i k. go i k (eq_or_ne i t) (eq_or_ne i o))
    where
      before : (i : ℕ) → i < n → (ec_refusal m.geometry (seq_in m) (vs i).ec ≡ none) × (vid_refusal (vs i).vid ≡ none)
      before = none5678_at m P.none5678

      go : (i : ℕ) → i < n → (i ≡ t) ⊎ (i ≢ t) → (i ≡ o) ⊎ (i ≢ o)
          → (ec_refusal m.geometry (seq_in m) (vs' i).ec ≡ none) × (vid_refusal (vs' i).vid ≡ none)
      go i k (inl e) d = (rw (e, t-ec) (before t (b.t<n)).0, rw e vt)
      go i k (inr ni) (inl e) = (rw e eo, rw e vo)
      go i k (inr ni) (inr nq) = rw (rest i k ni nq) (before i k)

  -- what is left: no refusal 9, the same faces, the places
  finish : (w : Bool) (i : ℕ) (c : Copy) → i < n → copies vs' i ≡ some c → refusal5678 m' ≡ none
      → refusal9 n (copies vs') ≡ none
      → faces m' ≡ faces m → places m' ≡ cond w (places_with v l t (places m)) (places m) → Keeps m vs' v l t w
  unfolding table_leb table_records
  finish w i c k q r58 r9 fe pe = record {
    attaches = of_parts m' (record {
      none5678 = r58;
      none9 = r9;
      none10 = no_10 m' i c k q;
      none1112 = rw fe (no_1112 (table_leb m (faces m)) (records m) (faces m) (places m) P.none1112 (places m'));
    });
    same_faces = fe;
    new_places = pe;
  }

  by_chosen : ((v' l' : ℕ) → chosen n (copies vs') v' l' ≡ chosen n (copies vs) v' l')
      → (faces m' ≡ faces m) × (places m' ≡ places m)
  unfolding faces_of places_of
  by_chosen e = (fun_ext (λ v'. fun_ext (λ l'. rw (e v' l'))), fun_ext (λ v'. fun_ext (λ l'. rw (e v' l'))))

  pub o_before : (ec_refusal m.geometry (seq_in m) (vs o).ec ≡ none) × (vid_refusal (vs o).vid ≡ none)
  o_before = none5678_at m P.none5678 o at_o.0

  new_unrefused : (new : Copy) → (vs' t).vid ≡ vid_good new → new.header ≡ h → vid_refusal (vs' t).vid ≡ none
  new_unrefused new et en = rw (et, en, b.volume, b.mappable_here)

  moving : (new : Copy) → (vs' t).vid ≡ vid_good new → new.header ≡ h → Moving n (copies vs) (copies vs') v l o t old new
  moving new et en = record {
    t<n = b.t<n;
    chosen_here = b.chosen_here;
    was = rw b.free_vid;
    is = rw et;
    rest = λ i k ni nq. rw (rest i k ni nq);
    volume = rw en b.volume;
    lnum = rw en b.lnum;
    above = λ i k c q. rw en (b.above i k c q);
  }

  -- the new VID header is not there yet
  pub keeps_torn : vs' o ≡ vs o → ((vs' t).vid ≡ vid_blank) ⊎ ((vs' t).vid ≡ vid_bad) → Keeps m vs' v l t false
  keeps_torn eo et =
      let e = by_chosen (chosen_cong n (copies vs) (copies vs') same) in
      finish false o old at_o.0 (rw eo at_o.1) (after58 (rw eo o_before.0) (rw eo o_before.1) none_there.1)
      (no_9 n (copies vs') (λ i j k q. rw (same i k, same j (omega arith)) (none9_at n (copies vs) P.none9 i j k q)))
      e.0 e.1
    where
      none_there : (copies vs' t ≡ none) × (vid_refusal (vs' t).vid ≡ none)
      none_there = ⊎_elim (λ q. (rw q, rw q)) (λ q. (rw q, rw q)) et

      same : (i : ℕ) → i < n → copies vs' i ≡ copies vs i
      same i k =
          ⊎_elim (λ (e : i ≡ t). rw (e, none_there.0, b.free_vid))
          (λ (ni : i ≢ t). ⊎_elim (λ (e : i ≡ o). rw (e, eo)) (λ (nq : i ≢ o). rw (rest i k ni nq)) (eq_or_ne i o))
          (eq_or_ne i t)

  -- it is, with data that do not match
  pub keeps_half : (new : Copy) → vs' o ≡ vs o → (vs' t).vid ≡ vid_good new → new.header ≡ h → sound new ≡ false
      → Keeps m vs' v l t false
  keeps_half new eo et en u =
      let mv = moving new et en in
      let e = by_chosen (chosen_unsound n (copies vs) (copies vs') v l o t old new mv u b.is_sound (rw eo)) in
      finish false o old at_o.0 (rw eo at_o.1) (after58 (rw eo o_before.0) (rw eo o_before.1) (new_unrefused new et en))
      (none9_moved n (copies vs) (copies vs') v l o t old new mv (λ c q. left c (rw eo at q)) P.none9)
      e.0 e.1
    where
      left : (c : Copy) → copies vs o ≡ some c → c.header ≡ old.header
      left c q = let p : some c ≡ some old = sym q ∙ at_o.1 in let r : c ≡ old = cc in rw r

  -- the new copy is whole, and of the old one nothing is left but its header, if that
  pub keeps_whole : (new : Copy) → (vs' t).vid ≡ vid_good new → new.header ≡ h → sound new ≡ true
      → face_of m.geometry new ≡ face_of m.geometry old
      → ec_refusal m.geometry (seq_in m) (vs' o).ec ≡ none → vid_refusal (vs' o).vid ≡ none
      → ((c : Copy) → copies vs' o ≡ some c → c.header ≡ old.header) → Keeps m vs' v l t true
  unfolding faces_of places_of
  keeps_whole new et en s fe ro rv left =
      finish true t new (b.t<n) (rw et) (after58 ro rv (new_unrefused new et en))
      (none9_moved n (copies vs) (copies vs') v l o t old new mv left P.none9)
      (fun_ext (λ v'. fun_ext (λ l'. face_at_lem v' l' (key_or v' l' v l))))
      (fun_ext (λ v'. fun_ext (λ l'. place_at_lem v' l' (key_or v' l' v l))))
    where
      mv : Moving n (copies vs) (copies vs') v l o t old new
      mv = moving new et en

      face_at_lem : (v' l' : ℕ) → ((v ≡ v') × (l ≡ l')) ⊎ ((v ≡ v') → (l ≡ l') → ⊥) → faces m' v' l' ≡ faces m v' l'
      face_at_lem v' l' (inl e) = rw (
        ← e.0,
        ← e.1,
        chosen_moved n (copies vs)
            (copies vs') v l o t old new mv s left,
        b.chosen_here,
        fe,
      )
      face_at_lem v' l' (inr ne) = rw (chosen_other n (copies vs) (copies vs') v l o t old new mv s left v' l' ne)

      place_at_lem : (v' l' : ℕ) → ((v ≡ v') × (l ≡ l')) ⊎ ((v ≡ v') → (l ≡ l') → ⊥)
          → places m' v' l' ≡ places_with v l t (places m) v' l'
      place_at_lem v' l' (inl e) =
          rw (
            ← e.0,
            ← e.1,
            chosen_moved n (copies vs) (copies vs') v l o t old new mv s left,
            eq-eqb v v refl,
            eq-eqb l
                l refl,
          )
      place_at_lem v' l' (inr ne) =
          rw (chosen_other n (copies vs) (copies vs') v l o t old new mv s left v' l' ne)
          (sym (key_miss v l v' l' ne (some t) (places m v' l')))
