-- `choice::chosen::chosen_peb` meets its contract: no copy above the one at hand is sound, and each turn lowers its
-- sequence. Assumes nothing.
use mathlib.Core.Path.{sym, ◌∙◌}
use mathlib.Core.Logic.{inl, inr}
use mathlib.Core.List.{List}
use Prim.Native.Nat.{ℕ, ◌-◌, ◌≤◌, ◌<◌, ◌^◌}
use native.Mathlib.Omega.{arith}
use Rattle.base.specs.Lists.{Bytes}
use Rattle.geometry.specs.declared.Geometry.{Geometry}
use Rattle.choice.specs.Keyed.{sequence_at, Choosing}
use Rattle.copies.proofs.Copies.{sequence_fits}
use Rattle.choice.proofs.Words.{within}
use Rattle.choice.proofs.Chains.{head_near}
use Rattle.choice.proofs.ChosenCopy.{has_copy, chosen_here, one_met, highest_met, next_met, lowest}
use Rattle.choice.proofs.chosen.chosen_peb.Goals as goal

pub highest_up_to-requires : goal.highest_up_to-requires
highest_up_to-requires c =
    let p = c.requires in
    (p.0, (p.1.links, head_near p.1 _ p.0.holds c.head-top.ensures))

-- a sequence fits 8 bytes
fits : {g : Geometry} {image : List ℕ} {n : ℕ} {map : List ℕ} {i : ℕ} → Choosing g image n map i → Bytes image → (j : ℕ)
    → j < n → sequence_at g image j ≤ 2 ^ 64 - 1
fits {g} {image} v b j h = let w = within v.keyed j h in omega (arith, sequence_fits g image j w.placed w.bytes b)

pub unreachable-requires : goal.unreachable-requires
unreachable-requires c =
    one_met c.requires.0 (fits c.requires.0 (λ m. omega (arith, c.type_inv.image m))) c.in_default.ensures

pub loop-g-init : goal.loop-g-init
loop-g-init c =
    highest_met c.requires.0 (fits c.requires.0 (λ m. omega (arith, c.type_inv.image m))) c.in-Some.ensures

pub returns-then-s-eq0 : goal.returns-then-s-eq0
returns-then-s-eq0 c =
    let e = c.header_field-s.ensures in
    (chosen_here c.requires.0 c.loop-g.invariant (inr (λ k h s. omega arith)), c.loop-g.invariant.below)

pub highest_up_to-requires-in-loop-g : goal.highest_up_to-requires-in-loop-g
highest_up_to-requires-in-loop-g c =
    let p = c.requires in
    (p.0, (p.1.links, head_near p.1 _ p.0.holds c.head-top.ensures))

pub returns-in_default-highest_up_to : goal.returns-in_default-highest_up_to
returns-in_default-highest_up_to c =
    let p = c.requires.0 in
    let low = lowest p c.loop-g.at c.header_field-s.ensures c.if-s-eq0.false
    c.in_default-highest_up_to.ensures in
    (chosen_here p c.loop-g.invariant (inr low), c.loop-g.invariant.below)

pub is_sound-requires : goal.is_sound-requires
is_sound-requires c =
    let p = c.requires.0 in
    let w = within p.keyed c.loop-g.at c.loop-g.invariant.below in
    record {
      placed = w.placed;
      bytes = w.bytes;
      is = has_copy p c.loop-g.at c.loop-g.invariant.below c.loop-g.invariant.same;
    }

pub returns-then-is_sound : goal.returns-then-is_sound
returns-then-is_sound c = (
  chosen_here c.requires.0 c.loop-g.invariant (inl (sym c.is_sound.ensures ∙ c.if-is_sound.true)),
  c.loop-g.invariant.below,
)

pub loop-g-preserved : goal.loop-g-preserved
loop-g-preserved c =
    next_met c.requires.0 c.loop-g.invariant c.header_field-s.ensures c.if-s-eq0.false
    (sym c.is_sound.ensures ∙ c.if-is_sound.false) c.in-Some-highest_up_to.ensures
