-- 01 'Which copy counts', and refusal 9. Assumes nothing.
use Rattle.std.specs.Prelude.{ℕ, Bool, false, ◌&&◌, ◌||◌, cond, eqb, ltb}
use Rattle.std.proofs.Math.Option.{Option, none, some}
use Rattle.base.specs.Answers.{map_o}
use Rattle.base.specs.Below.{any_below, first_below}
use Rattle.report.specs.View.{Copy, is_mappable}
use Rattle.report.specs.Scan.{Refusal, when, at_peb}

-- "A copy is sound if its flag is 0, or its data CRC matches the CRC of its first data-size bytes."
abbrev pub sound : Copy → Bool
sound c = eqb c.header.copy_flag 0 || c.matches

-- the copy, if it is one of this volume and LEB
abbrev pub of_key : ℕ → ℕ → Option Copy → Option Copy
of_key v l none = none
of_key v l (some c) = cond (eqb c.header.volume v && eqb c.header.lnum l) (some c) none

-- two good VID headers "of one user or layout LEB share a sequence"
abbrev pub repeats : Option Copy → Option Copy → Bool
repeats none d = false
repeats (some c) none = false
repeats (some c) (some d) =
    is_mappable c.header.volume && (eqb c.header.volume d.header.volume
    && (eqb c.header.lnum d.header.lnum && eqb c.header.sequence d.header.sequence))

-- refusal 9: "for 9 the lowest PEB that repeats a lower one"
unfoldable pub refusal9 : ℕ → (ℕ → Option Copy) → Option Refusal
refusal9 n cs = map_o at_peb (first_below n (λ i. when (any_below i (λ j. repeats (cs i) (cs j))) 9))

-- does the first copy count before the second? "choose the highest sequence that is sound; if none is sound, the lowest
-- sequence" (proofs/Choice.antt: a copy is chosen wherever there is one, `pick-Some`, and it is the one of this
-- sentence, `pick_literal`; two with one sequence are refusal 9)
abbrev pub beats : Option Copy → Copy → Bool
beats none c = false
beats (some d) c =
    cond (sound c) (sound d && ltb c.header.sequence d.header.sequence)
    (sound d || ltb d.header.sequence c.header.sequence)

-- a copy, if none of the copies f below n beats it
abbrev pub unbeaten : ℕ → (ℕ → Option Copy) → Option Copy → Option Copy
unbeaten n f none = none
unbeaten n f (some c) = cond (any_below n (λ j. beats (f j) c)) none (some c)

-- the chosen one of the copies f below n, with its PEB
unfoldable pub pick : ℕ → (ℕ → Option Copy) → Option (ℕ × Copy)
pick n f = first_below n (λ i. unbeaten n f (f i))

-- "Of the good VID headers for one user or layout LEB, choose .."
unfoldable pub chosen : ℕ → (ℕ → Option Copy) → ℕ → ℕ → Option (ℕ × Copy)
chosen n cs v l = pick n (λ i. of_key v l (cs i))
