-- Laws of answers and rules. Assumes nothing.
use mathlib.Core.Path.{◌≡◌, refl, sym, ◌∙◌}
use mathlib.Core.Logic.{◌⊎◌, inl, inr}
use mathlib.Core.Bool.{Bool, true, false, not, ◌&&◌, ◌||◌, cond, true≢false, false≢true}
use mathlib.Core.Option.{Option, none, some}
use mathlib.Core.List.{List, [], ◌∷◌}
use Prim.Native.Nat.{ℕ, zero, suc}
use native.Mathlib.Omega.{arith}
use borrow.Author.Tests.{not-true, not-false}
use lib.ListN.{get_or}
use Rattle.base.specs.Answers.{Answer, given, refused, or_else, map_o, all_of}

-- ---- tests

-- two values of one test
pub clash : {b : Bool} {A : Type 0} → b ≡ false → b ≡ true → A
clash p q = absurd (false≢true (sym p ∙ q))

-- by cases of a test, whose value is then known
pub by_test : {A : Type 0} (b : Bool) → (b ≡ true → A) → (b ≡ false → A) → A
by_test true f g = f refl
by_test false f g = g refl

-- what holds of both values holds of a test
pub either_way : (P : Bool → Type 0) (b : Bool) → P true → P false → P b
either_way P true p q = p
either_way P false p q = q

pub not_so : (b : Bool) → (b ≡ true → ⊥) → b ≡ false
not_so b h = by_test b (λ e. absurd (h e)) (λ e. e)

-- two tests, each of which follows from the other
pub same_test : (a b : Bool) → (a ≡ true → b ≡ true) → (b ≡ true → a ≡ true) → a ≡ b
same_test true b f g = sym (f refl)
same_test false b f g = sym (not_so b (λ e. false≢true (g e)))

-- what a callee answered, past a branch on `!answer`
pub value_is : {r s b : Bool} → r ≡ s → r ≡ b → s ≡ b
value_is p q = sym p ∙ q

pub was_false : {r s : Bool} → r ≡ s → not r ≡ true → s ≡ false
was_false {r} p q = sym p ∙ not-true r q

pub was_true : {r s : Bool} → r ≡ s → not r ≡ false → s ≡ true
was_true {r} p q = sym p ∙ not-false r q

pub and_left : (a b : Bool) → a && b ≡ true → a ≡ true
and_left true b e = refl
and_left false b e = e

pub and_right : (a b : Bool) → a && b ≡ true → b ≡ true
and_right true b e = e
and_right false b e = absurd (false≢true e)

pub and_intro : (a b : Bool) → a ≡ true → b ≡ true → a && b ≡ true
and_intro true b e f = f
and_intro false b e f = absurd (false≢true e)

pub or_left : (a b : Bool) → a || b ≡ false → a ≡ false
or_left true b e = e
or_left false b e = refl

pub or_right : (a b : Bool) → a || b ≡ false → b ≡ false
or_right true b e = absurd (true≢false e)
or_right false b e = e

pub or_intro : (a b : Bool) → a ≡ false → b ≡ false → a || b ≡ false
or_intro true b e f = absurd (true≢false e)
or_intro false b e f = f

pub or_true_right : (a b : Bool) → b ≡ true → a || b ≡ true
or_true_right true b e = refl
or_true_right false b e = e

pub or_true_cases : (a b : Bool) → a || b ≡ true → (a ≡ true) ⊎ (b ≡ true)
or_true_cases true b e = inl refl
or_true_cases false b e = inr e

-- ---- options

pub none_some : {A B : Type 0} {a : A} → none ≡ some a → B
none_some e = absurd (let z : ◌≡◌ {A = ℕ} 0 1 = cc in omega arith)

-- a refusal is no answer
pub refused_not : {A : Type 0} {k p : ℕ} {a : A} → ◌≡◌ {A = Answer A} (refused k p) (given a) → ⊥
refused_not e = let z : ◌≡◌ {A = ℕ} 0 1 = cc in omega arith

-- by cases of an option, which is then known
pub by_option : {A B : Type 0} (o : Option A) → (o ≡ none → B) → ((a : A) → o ≡ some a → B) → B
by_option none f g = f refl
by_option (some a) f g = g a refl

module _ {A B : Type 0} (f : A → B) where
  pub map_o_none : (o : Option A) → map_o f o ≡ none → o ≡ none
  map_o_none none e = refl
  map_o_none (some a) e = none_some (sym e)

  pub map_o_some : (o : Option A) (b : B) → map_o f o ≡ some b → (a : A) × (o ≡ some a) × (f a ≡ b)
  map_o_some none b e = none_some e
  map_o_some (some a) b e = (a, refl, cc)

module _ {A : Type 0} where
  pub or_else_none : (a b : Option A) → or_else a b ≡ none → (a ≡ none) × (b ≡ none)
  or_else_none none b e = (refl, e)
  or_else_none (some x) b e = (e, let z : some x ≡ none = e in cc)

  pub or_else_some : (a b : Option A) (x : A) → or_else a b ≡ some x → (a ≡ some x) ⊎ (b ≡ some x)
  or_else_some none b x e = inr e
  or_else_some (some y) b x e = inl e

-- ---- rules

-- one rule that does not hold is enough
pub one_broken : (l : List Bool) (k : ℕ) → get_or l k true ≡ false → all_of l ≡ false
one_broken [] k e = absurd (true≢false e)
one_broken (b ∷ l) zero e = rw e
one_broken (true ∷ l) (suc k) e = one_broken l k e
one_broken (false ∷ l) (suc k) e = refl

-- each rule of those that all hold
pub each_holds : (l : List Bool) → all_of l ≡ true → (k : ℕ) → get_or l k true ≡ true
each_holds [] e k = refl
each_holds (b ∷ l) e zero = and_left b (all_of l) e
each_holds (b ∷ l) e (suc k) = each_holds l (and_right b (all_of l) e) k

module _ {A : Type 0} where
  -- a choice between two answers that came out as the first, or as the second
  pub cond_yes : (b : Bool) {x y z : A} → (y ≡ z → ⊥) → cond b x y ≡ z → (b ≡ true) × (x ≡ z)
  cond_yes true n e = (refl, e)
  cond_yes false n e = absurd (n e)

  pub cond_no : (b : Bool) {x y z : A} → (x ≡ z → ⊥) → cond b x y ≡ z → (b ≡ false) × (y ≡ z)
  cond_no true n e = absurd (n e)
  cond_no false n e = (refl, e)
