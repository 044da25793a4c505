-- What the answers of C's `read` or `write` come to, where there is room for `room` bytes in all. Assumes nothing.
use Rattle.std.specs.Prelude.{ℕ, ◌+◌, ◌-◌, Bool, cond, List, [], ◌∷◌, ltb, eqb, ℤ, pos, negsuc}
use Rattle.transfer.specs.declared.Progress.{Progress}
use Rattle.transfer.specs.declared.Transfer.{Transfer}
use Rattle.transfer.specs.declared.Transfer.TheVariants.{On, Full, Ended, Failed}

-- before the first call
abbrev pub begun : Progress
begun = record { moved = 0; tries = 1000000 }

-- n bytes more. None: that is the end. As many as there is room for: full; more than that: no call answers so
unfoldable pub after_bytes : ℕ → Progress → ℕ → Transfer
after_bytes room p n =
    cond (eqb n 0) (Ended p.moved)
    (cond (ltb (p.moved + n) room) (On (record { moved = p.moved + n; tries = p.tries }))
    (cond (eqb (p.moved + n) room) Full Failed))

-- nothing was moved and nothing is wrong: the call is made again, but not for ever
unfoldable pub after_interruption : Progress → Transfer
after_interruption p = cond (eqb p.tries 0) Failed (On (record { moved = p.moved; tries = p.tries - 1 }))

abbrev pub after_error : Progress → Bool → Transfer
after_error p interrupted = cond interrupted (after_interruption p) Failed

-- a call answers how many bytes it moved, or -1; `interrupted`: was `errno` EINTR then?
unfoldable pub after_call : ℕ → Progress → ℤ → Bool → Transfer
after_call room p (pos n) interrupted = after_bytes room p n
after_call room p (negsuc n) interrupted = after_error p interrupted

-- how many more calls there can be
abbrev pub calls_left : ℕ → Progress → ℕ
calls_left room p = (room - p.moved) + p.tries

-- a call: what it answered, and whether it was interrupted
pub record Call : Type 0 where
  pub got : ℤ
  pub interrupted : Bool

-- no call is made once one has ended the row
abbrev pub next_call : ℕ → Transfer → Call → Transfer
next_call room (On p) c = after_call room p c.got c.interrupted
next_call room Full c = Full
next_call room (Ended n) c = Ended n
next_call room Failed c = Failed

-- a row of calls
unfoldable pub after_calls : ℕ → Transfer → List Call → Transfer
after_calls room t [] = t
after_calls room t (c ∷ cs) = after_calls room (next_call room t c) cs

abbrev pub bytes_of : ℤ → ℕ
bytes_of (pos n) = n
bytes_of (negsuc n) = 0

-- the bytes that a row of calls moved
unfoldable pub total : List Call → ℕ
total [] = 0
total (c ∷ cs) = bytes_of c.got + total cs
