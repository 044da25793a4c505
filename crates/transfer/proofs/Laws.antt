-- What the answer of one call tells, and a row of calls. Assumes nothing.
use mathlib.Core.Path.{◌≡◌, refl, sym, ap, ◌∙◌, subst}
use mathlib.Core.Bool.{Bool, true, false, cond}
use mathlib.Core.List.{List, [], ◌∷◌, ◌++◌}
use Prim.Native.Nat.{ℕ, ◌+◌, ◌-◌, ◌<◌}
use native.Mathlib.Omega.{arith}
use borrow.Author.Tests.{ltb-true, eqb-true, eqb-false, le-ltb, ne_eqb}
use lib.Dec.{ltb, eqb}
use lib.IntN.{ℤ, pos, negsuc, nat_abs}
use mir.Syntax.{w64}
use mir.Val.{SFits}
use Rattle.std.specs.Int.{FitsUnsignedBits}
use Rattle.transfer.specs.declared.Progress.{Progress}
use Rattle.transfer.specs.declared.Transfer.{Transfer}
use Rattle.transfer.specs.declared.Transfer.TheVariants.{On, Full, Ended, Failed}
use Rattle.transfer.specs.Transfer.{begun, after_bytes, after_interruption, after_error, after_call, calls_left, Call, next_call, after_calls, bytes_of, total}

-- ---- an answer's sign

-- an answer that is a count, and one that is none
pub counted : (room : ℕ) (p : Progress) (z : ℤ) (i : Bool) (n : ℕ) → FitsUnsignedBits 64 z → n ≡ nat_abs z
    → after_bytes room p n ≡ after_call room p z i
unfolding after_call
counted room p (pos m) i n f e = rw e
counted room p (negsuc m) i n f e = absurd f

pub not_counted : (room : ℕ) (p : Progress) (z : ℤ) (i : Bool) → SFits w64 z → (FitsUnsignedBits 64 z → ⊥)
    → after_error p i ≡ after_call room p z i
unfolding after_call
not_counted room p (pos m) i s f = absurd (f (omega (arith, s.sfits)))
not_counted room p (negsuc m) i s f = refl

-- ---- one call

-- more bytes than there is room for
pub beyond : (room : ℕ) (p : Progress) (n : ℕ) → (n ≡ 0 → ⊥) → room < p.moved + n → Failed ≡ after_bytes room p n
unfolding after_bytes
beyond room p n h k =
    let m = p.moved + n in rw (ne_eqb n 0 h, le-ltb m room (omega arith), ne_eqb m room (λ e. omega arith))

-- Going on, the bytes add up and leave room, and the calls that there can be are fewer; full, they are all that there is
-- room for; only an answer of 0 is the end
abbrev pub Told : ℕ → Progress → ℤ → Transfer → Type 0
Told room p z (On q) = (q.moved ≡ p.moved + bytes_of z) × ((q.moved < room) × (calls_left room q < calls_left room p))
Told room p z Full = p.moved + bytes_of z ≡ room
Told room p z (Ended n) = (z ≡ pos 0) × (n ≡ p.moved)
Told room p z Failed = Unit {0}

told_bytes : (room : ℕ) (p : Progress) (n : ℕ) (a b d : Bool) → eqb n 0 ≡ a → ltb (p.moved + n) room ≡ b
    → eqb (p.moved + n) room ≡ d
    → Told room p (pos n)
    (cond a (Ended p.moved) (cond b (On (record { moved = p.moved + n; tries = p.tries })) (cond d Full Failed)))
told_bytes room p n true b d ea eb ed = (ap pos (eqb-true n 0 ea), refl)
told_bytes room p n false true d ea eb ed =
    let h : p.moved + n < room = ltb-true _ _ eb in (refl, (h, omega (arith, eqb-false n 0 ea)))
told_bytes room p n false false true ea eb ed = eqb-true _ _ ed
told_bytes room p n false false false ea eb ed = tt

told_interruption : (room : ℕ) (p : Progress) (k : ℕ) (a : Bool) → p.moved < room → eqb p.tries 0 ≡ a
    → Told room p (negsuc k) (cond a Failed (On (record { moved = p.moved; tries = p.tries - 1 })))
told_interruption room p k true h e = tt
told_interruption room p k false h e = (omega arith, (h, omega (arith, eqb-false p.tries 0 e)))

pub told : (room : ℕ) (p : Progress) (z : ℤ) (i : Bool) → p.moved < room → Told room p z (after_call room p z i)
unfolding after_call after_bytes after_interruption
told room p (pos n) i h = told_bytes room p n (eqb n 0) (ltb (p.moved + n) room) (eqb (p.moved + n) room) refl refl refl
told room p (negsuc k) true h = told_interruption room p k (eqb p.tries 0) h refl
told room p (negsuc k) false h = tt

module _ (room : ℕ) (p : Progress) (z : ℤ) (i : Bool) {t : Transfer} (h : p.moved < room) (e : t ≡ after_call room p z i) where
  pub on_next : {q : Progress} → t ≡ On q → (q.moved < room) × (calls_left room q < calls_left room p)
  on_next k = (subst (Told room p z) (sym e ∙ k) (told room p z i h)).1

  pub ended_below : {n : ℕ} → t ≡ Ended n → n < room
  ended_below k = let l = subst (Told room p z) (sym e ∙ k) (told room p z i h) in omega (arith, l.1)

-- an error that is no interruption, whatever was moved before
pub error_fails : (room : ℕ) (p : Progress) (k : ℕ) → after_call room p (negsuc k) false ≡ Failed
unfolding after_call
error_fails room p k = refl

-- ---- a row of calls

-- what has ended stays so
stays : (room : ℕ) (t : Transfer) → ((c : Call) → next_call room t c ≡ t) → (cs : List Call) → after_calls room t cs ≡ t
unfolding after_calls
stays room t h [] = refl
stays room t h (c ∷ cs) = rw (h c) (stays room t h cs)

-- a row that goes on to q: the bytes add up and leave room, and a call after it is one made at q
abbrev Goes : ℕ → Transfer → ℕ → List Call → Progress → Type 0
Goes room t m cs q =
    (q.moved ≡ m + total cs)
    × ((q.moved < room)
    × ((c : Call) → after_calls room t (cs ++ (c ∷ [])) ≡ after_call room q c.got c.interrupted))

goes_first : (room : ℕ) (z : ℤ) (cs : List Call) (p q : Progress)
    → ((r : Progress) → r.moved < room → after_calls room (On r) cs ≡ On q → Goes room (On r) r.moved cs q)
    → (t : Transfer) → Told room p z t → after_calls room t cs ≡ On q → Goes room t (p.moved + bytes_of z) cs q
goes_first room z cs p q goes (On r) k e =
    let g = goes r k.1.0 e in (omega (arith, g.0, k.0), g.1)
goes_first room z cs p q goes Full k e =
    let s = sym (stays room Full (λ c. refl) cs) ∙ e in absurd (let o : ◌≡◌ {A = ℕ} 0 1 = cc in omega arith)
goes_first room z cs p q goes (Ended n) k e =
    let s = sym (stays room (Ended n) (λ c. refl) cs) ∙ e in absurd (let o : ◌≡◌ {A = ℕ} 0 1 = cc in omega arith)
goes_first room z cs p q goes Failed k e =
    let s = sym (stays room Failed (λ c. refl) cs) ∙ e in absurd (let o : ◌≡◌ {A = ℕ} 0 1 = cc in omega arith)

goes : (room : ℕ) (cs : List Call) (p q : Progress) → p.moved < room → after_calls room (On p) cs ≡ On q
    → Goes room (On p) p.moved cs q
unfolding after_calls total
goes room [] p q h e =
    let k : p ≡ q = cc in
    let m : p.moved ≡ q.moved = ap (λ (x : Progress). x.moved) k in
    (omega (arith, m), (omega (arith, m), λ c. ap (λ (x : Progress). after_call room x c.got c.interrupted) k))
goes room (c ∷ cs) p q h e =
    let g = goes_first room c.got cs p q (λ r hr er. goes room cs r q hr er)
    (after_call room p c.got c.interrupted) (told room p c.got c.interrupted h) e in
    (omega (arith, g.0), g.1)

-- The bytes moved are the sum of the answers, and less than there is room for. Of the row with one call more: full, all
-- answers add up to the room; ended, its last answer was 0 and the others add up to what was moved
pub row : (room : ℕ) (cs : List Call) (c : Call) (q : Progress) → 0 < room → after_calls room (On begun) cs ≡ On q
    → (q.moved ≡ total cs) × ((q.moved < room) × Told room q c.got (after_calls room (On begun) (cs ++ (c ∷ []))))
row room cs c q h e =
    let g = goes room cs begun q h e in
    (omega (arith, g.0), (g.1.0, subst (Told room q c.got) (sym (g.1.1 c)) (told room q c.got c.interrupted g.1.0)))
