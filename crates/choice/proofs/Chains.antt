-- Laws of the chains: who is in a bucket, a walk along a chain, links stored. Assumes nothing.
use mathlib.Core.Path.{◌≡◌, refl, sym, ap₂, ◌∙◌}
use mathlib.Core.Logic.{◌≢◌, ◌⊎◌, inl, inr, ⊎_elim}
use mathlib.Core.Bool.{true, false}
use mathlib.Core.List.{List, ◌++◌}
use Prim.Native.Nat.{ℕ, ◌+◌, ◌*◌, ◌≤◌, ◌<◌}
use native.Mathlib.Omega.{arith}
use borrow.Author.Tests.{eq-eqb, ne_eqb}
use lib.ListN.{length, get_or, set, replicate, length-set, length-append, length-replicate, get_or-replicate, get_or-append}
use lib.Seq.{get_or-set_same, get_or-set_other}
use Rattle.base.proofs.Below.{lt_or_le, eq_or_ne, one_more}
use Rattle.base.proofs.Answers.{not_so}
use Rattle.words.specs.Words.{no_word, most_pebs, map_words_needed, volume_word, lnum_word, peb_word}
use Rattle.words.proofs.Laws.{peb_set_same, peb_set_other, peb_set_volume, peb_set_lnum, peb_set_tail}
use Rattle.geometry.specs.declared.Geometry.{Geometry}
use Rattle.report.specs.View.{views_of, copies}
use Rattle.report.specs.Choice.{repeats}
use Rattle.choice.specs.Keyed.{Holds, Keyed, same_leb}
use Rattle.choice.specs.Chain.{buckets, bucket_of, bucket_at, Nearest, Link, Linked, Chained, Relinked, Chains}
use Rattle.choice.proofs.Words.{same_true, repeat_words}

-- ---- who is in a bucket

module _ (map : List ℕ) (i : ℕ) where
  no_bucket : volume_word map i ≡ no_word → bucket_at map i ≡ buckets
  unfolding bucket_at
  no_bucket e = rw (eq-eqb (volume_word map i) no_word e)

  pub in_bucket : Holds map i → bucket_at map i ≡ bucket_of (volume_word map i) (lnum_word map i)
  unfolding bucket_at
  in_bucket h = rw (ne_eqb (volume_word map i) no_word h)

  bucket_small : Holds map i → bucket_at map i < buckets
  bucket_small h = rw (in_bucket h) (omega arith)

module _ (map : List ℕ) (i k : ℕ) (h : Holds map i) where
  pub same_bucket : same_leb map i k ≡ true → bucket_at map k ≡ bucket_at map i
  same_bucket s =
      let e = same_true map i k s in
      in_bucket map k (λ (z : volume_word map k ≡ no_word). h (e.0 ∙ z)) ∙ ap₂ bucket_of (sym e.0) (sym e.1)
      ∙ sym (in_bucket map i h)

  bucket_holds : bucket_at map k ≡ bucket_at map i → Holds map k
  bucket_holds e z = let y = bucket_small map i h in let x = no_bucket map k z in omega arith

-- ---- a walk along the chain of PEB i, over the PEBs below m

-- those from `at` on are behind; w is next
pub record Along (map : List ℕ) (i m at w : ℕ) : Type 0 where
  pub range : at ≤ m
  pub near : Holds map i → Nearest map (bucket_at map i) at w

pub along_from : {n : ℕ} {map : List ℕ} → Linked n map → (i : ℕ) → i < n → Along map i i i (peb_word map i)
along_from o i h = record { range = omega arith; near = o i h }

pub head_near : {n w : ℕ} {map heads : List ℕ} → Chained n n map heads → (i : ℕ) → (Holds map i)
    → w ≡ get_or heads (bucket_at map i) 0 → Nearest map (bucket_at map i) n w
head_near {n} {w} {map} o i h e = rw e (o.tops (bucket_at map i) (bucket_small map i h))

module _ {map : List ℕ} {i m at w : ℕ} (o : Along map i m at w) where
  pub along_next : {n : ℕ} → Linked n map → m ≤ n → w < at → Along map i m w (peb_word map w)
  along_next l k h =
      let r = o.range in
      record {
        range = omega arith;
        near = λ c. let e = (o.near c).is h in rw e at (l w (omega arith) (bucket_holds map i w c e));
      }

  -- what holds of the PEBs behind, and of all outside the bucket
  module _ (P : ℕ → Type 0) (behind : (x : ℕ) → at ≤ x → x < m → P x)
      (outside : (x : ℕ) → x < m → (Holds map i → bucket_at map x ≡ bucket_at map i → ⊥) → P x) where
    -- holds from the next one on, if it holds of that
    pub walk_on : P w → (x : ℕ) → w ≤ x → x < m → P x
    walk_on p x h k =
        ⊎_elim (λ (q : x ≡ w). rw q p)
        (λ (q : x ≢ w). ⊎_elim
        (λ (l : x < at). outside x k (λ c y. q (let z = (o.near c).skips x l y in omega arith)))
        (λ (l : at ≤ x). behind x l k) (lt_or_le x at))
        (eq_or_ne x w)

    -- holds of all, if the chain ends
    pub walk_end : at ≤ w → (x : ℕ) → x < m → P x
    walk_end h x k =
        ⊎_elim (λ (l : x < at). outside x k (λ c y. let z = (o.near c).skips x l y in absurd (omega arith)))
        (λ (l : at ≤ x). behind x l k) (lt_or_le x at)

-- PEBs of other buckets have other LEBs, and no repeats
module _ (map : List ℕ) (i x : ℕ) (f : Holds map i → bucket_at map x ≡ bucket_at map i → ⊥) where
  pub other_leb : Holds map i → same_leb map i x ≡ false
  other_leb c = not_so (same_leb map i x) (λ s. f c (same_bucket map i x c s))

  pub other_copy : {g : Geometry} {image : List ℕ} {n : ℕ} → Keyed g image n map → i < n → x < n
      → repeats (copies (views_of g image) i) (copies (views_of g image) x) ≡ false
  other_copy {g} {image} d h k =
      not_so (repeats (copies (views_of g image) i) (copies (views_of g image) x))
      (λ e. let w = repeat_words d i x h k e in f w.0 (same_bucket map i x w.0 w.1))

-- ---- links are stored

module _ {n : ℕ} {map map' : List ℕ} (o : Relinked n map map') where
  same_buckets : (i : ℕ) → bucket_at map' i ≡ bucket_at map i
  unfolding bucket_at
  same_buckets i = rw (o.volumes i, o.lnums i)

  nearest_same : {b m w : ℕ} → Nearest map b m w → Nearest map' b m w
  nearest_same {b} {m} {w} t = record {
    is = λ h. same_buckets w ∙ t.is h;
    none = t.none;
    skips = λ k h e. t.skips k h (sym (same_buckets k) ∙ e);
  }

  relinked_on : {map'' : List ℕ} → Relinked n map' map'' → Relinked n map map''
  relinked_on p = record {
    size = p.size ∙ o.size;
    volumes = λ i. p.volumes i ∙ o.volumes i;
    lnums = λ i. p.lnums i ∙ o.lnums i;
    tail = p.tail ∙ o.tail;
  }

pub relinked_none : (n : ℕ) (map : List ℕ) → Relinked n map map
relinked_none n map = record { size = refl; volumes = λ i. refl; lnums = λ i. refl; tail = refl }

relinked_one : (n i v : ℕ) (map : List ℕ) → i < n → Relinked n map (set map (i * 3 + 2) v)
relinked_one n i v map h = record {
  size = length-set map (i * 3 + 2) v;
  volumes = peb_set_volume map i v;
  lnums = peb_set_lnum map i v;
  tail = peb_set_tail map i v n h;
}

-- the head of another bucket stays
nearest_past : {map : List ℕ} {b m w : ℕ} → m < no_word → (bucket_at map m ≡ b → ⊥) → Nearest map b m w
    → Nearest map b (m + 1) w
nearest_past {map} {b} {m} {w} l h t = record {
  is = λ k. t.is (below k);
  none = λ k. t.none (omega arith);
  skips = λ k q e. let z = t.skips k (within k q e) e in (omega arith, z.1);
}
  where
    below : w < m + 1 → w < m
    below k = ⊎_elim (λ (h : w < m). h) (λ (h : m ≤ w). absurd (let z = t.none h in omega arith)) (lt_or_le w m)

    within : (k : ℕ) → k < m + 1 → bucket_at map k ≡ b → k < m
    within k q e = let z : k ≢ m = λ (y : k ≡ m). h (rw y at e) in omega (arith, z)

-- a PEB is the nearest below the next
nearest_self : (map : List ℕ) (m : ℕ) → Nearest map (bucket_at map m) (m + 1) m
nearest_self map m = record {
  is = λ h. refl;
  none = λ h. absurd (omega arith);
  skips = λ k h e. (omega arith, omega arith);
}

module _ {n i : ℕ} {map heads : List ℕ} (h : i < n) (o : Chained n i map heads) where
  -- a PEB without a LEB is not linked
  pub chain_other : volume_word map i ≡ no_word → Chains n (i + 1) map map heads heads
  chain_other e = record {
    chained = record {
      few = o.few;
      long_map = o.long_map;
      long_heads = o.long_heads;
      links = one_more (Link map) i o.links (λ z. absurd (z e));
      tops =
          λ b l. nearest_past (let f = o.few in omega arith)
          (λ (z : bucket_at map i ≡ b). let y = no_bucket map i e in omega arith) (o.tops b l);
    };
    relinked = relinked_none n map;
    heads_size = refl;
  }

  module _ (c : Holds map i) where
    abbrev b₀ : ℕ
    b₀ = bucket_of (volume_word map i) (lnum_word map i)

    abbrev map₁ : List ℕ
    map₁ = set map (i * 3 + 2) (get_or heads b₀ 0)

    abbrev heads₁ : List ℕ
    heads₁ = set heads b₀ i

    r₁ : Relinked n map map₁
    r₁ = relinked_one n i (get_or heads b₀ 0) map h

    b_small : b₀ < buckets
    b_small = omega arith

    linked : Linked i map₁
    linked k l z =
        rw (same_buckets r₁ k, peb_set_other map i (get_or heads b₀ 0) k (λ e. omega arith))
        (nearest_same r₁ (o.links k l (λ (y : volume_word map k ≡ no_word). z (r₁.volumes k ∙ y))))

    linked_one : Nearest map₁ (bucket_at map₁ i) i (peb_word map₁ i)
    linked_one =
        rw (
          same_buckets r₁ i,
          in_bucket map i c,
          peb_set_same map i (get_or heads b₀ 0) (let l = o.long_map in omega arith),
        )
        (nearest_same r₁ (o.tops b₀ b_small))

    topped : (b : ℕ) → b < buckets → (b ≡ b₀) ⊎ (b ≢ b₀) → Nearest map b (i + 1) (get_or heads₁ b 0)
    topped b l (inl e) =
        rw (
          e,
          get_or-set_same heads b₀ i 0 (let y = o.long_heads in let x = b_small in omega arith),
          ← (in_bucket map i c),
        ) (nearest_self map i)
    topped b l (inr e) =
        rw (get_or-set_other heads b₀ b i 0 e)
        (nearest_past (let f = o.few in omega arith) (λ (z : bucket_at map i ≡ b). e (sym z ∙ in_bucket map i c))
        (o.tops b l))

    -- a PEB with a LEB becomes its bucket's head
    pub chain_copy : Chains n (i + 1) map map₁ heads heads₁
    chain_copy = record {
      chained = record {
        few = o.few;
        long_map = let l = o.long_map in let e = r₁.size in omega arith;
        long_heads = let l = o.long_heads in let e = length-set heads b₀ i in omega arith;
        links = one_more (Link map₁) i linked (λ z. linked_one);
        tops = λ b l. nearest_same r₁ (topped b l (eq_or_ne b b₀));
      };
      relinked = r₁;
      heads_size = length-set heads b₀ i;
    }

pub chains_on : {n m k : ℕ} {map map' map'' heads heads' heads'' : List ℕ} → Chains n m map map' heads heads'
    → Chains n k map' map'' heads' heads'' → Chains n k map map'' heads heads''
chains_on o p = record {
  chained = p.chained;
  relinked = relinked_on o.relinked p.relinked;
  heads_size = p.heads_size ∙ o.heads_size;
}

-- ---- no heads before copies are linked

pub no_heads : {n : ℕ} {map w : List ℕ} (rest : List ℕ) → w ≡ replicate buckets no_word → n ≤ most_pebs
    → map_words_needed n ≤ length map → Chained n 0 map (w ++ rest)
no_heads rest e f l = rw e (record {
  few = f;
  long_map = l;
  long_heads = simp (length-append, length-replicate) (omega arith);
  links = λ i z. absurd (omega arith);
  tops = λ b z. record {
    is = λ y. absurd (omega arith);
    none = λ _. get_or-append (replicate buckets no_word) rest 0 b (simp length-replicate z)
        ∙ get_or-replicate buckets b no_word 0 z;
    skips = λ i y. absurd (omega arith);
  };
})
