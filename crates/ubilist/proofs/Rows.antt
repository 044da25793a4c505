-- What a call that std answers comes to, in a row of calls. Assumes nothing.
use Rattle.std.proofs.Common.{◌≡◌, ◌↔◌, ℕ, ◌+◌, ◌<◌, ◌≤◌, Bool, false, pos, negsuc, min, Result, IfOk, IfErr, IfSome, IsSome, IsTrue, Option, Ok, Err, arith}
use Rattle.std.proofs.lemmas.Grind.{common_steps}
use Rattle.std.proofs.lemmas.Bool.Decides.{nat_tests}
use Rattle.std.specs.IoError.{error_kind}
use Rattle.std.specs.declared.io.Error.{Error}
use Rattle.std.specs.declared.io.ErrorKind.{ErrorKind}
use Rattle.transfer.specs.Transfer.{after_bytes, after_call, calls_left}
use Rattle.transfer.specs.declared.Progress.{Progress}
use Rattle.transfer.specs.declared.Transfer.{Transfer}
use Rattle.transfer.specs.declared.Transfer.TheVariants.{On}
use Rattle.transfer.proofs.Laws.{on_next}
use Rattle.ubilist.specs.Input.{input_of, within}
use Rattle.ubilist.specs.declared.input.Input.{Input}

-- going on leaves room, and the calls that there can be are fewer, whatever std answered
pub on_after : (room most : ℕ) (p q : Progress) (r : Result ℕ Error) (t : Transfer) → p.moved < room
    → IfOk r (λ n. t ≡ after_call room p (pos (min n most)) false)
    → IfErr r (λ e. (i : Bool) × (IsTrue i ↔ (error_kind e ≡ ErrorKind.Interrupted))
    × (t ≡ after_call room p (negsuc 0) i))
    → t ≡ On q → (q.moved < room) × (calls_left room q < calls_left room p)
on_after room most p q (Ok n) t below moved failed e = on_next _ _ _ _ below moved e
on_after room most p q (Err x) t below moved failed e = on_next _ _ _ _ below failed.2 e

-- where a call moved no more than there is room for and none is due after it, that is an input
input_of_bytes : (p : Progress) (n most : ℕ) (t : Transfer) → p.moved < 61441 → p.moved + n ≤ 61441
    → 61441 ≤ most → t ≡ after_call 61441 p (pos (min n most)) false → ((q : Progress) → t ≡ On q → ⊥)
    → IsSome (input_of t) × IfSome (input_of t) (λ i. within i 61440)
unfolding after_call after_bytes
input_of_bytes p n most t below fits much e ended = grind (arith, nat_tests, common_steps)

-- the same, of what std answered
pub input_after : (most : ℕ) (p : Progress) {r : Result ℕ Error} {t : Transfer} {n : ℕ} {x : Option Input}
    → 61441 ≤ most → p.moved < 61441 → IfOk r (λ m. p.moved < 61441 → p.moved + m ≤ 61441)
    → IfOk r (λ m. t ≡ after_call 61441 p (pos (min m most)) false)
    → r ≡ Ok n → ((q : Progress) → t ≡ On q → ⊥) → x ≡ input_of t
    → IsSome x × IfSome x (λ i. within i 61440)
input_after most p {r} {t} {n} {x} much below fits moved e ended q =
    let f = rw e at fits in
    let m = rw e at moved in
    rw q (input_of_bytes p n most t below (f below) much m ended)
