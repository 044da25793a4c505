-- No refusal has number 0: a call that answers 0 made the plan. Assumes nothing.
use mathlib.Core.Bool.{Bool, not, ◌&&◌, ◌||◌}
use mathlib.Core.Option.{Option, none, some}
use mathlib.Core.List.{List}
use Prim.Native.Nat.{ℕ, ◌-◌, ◌^◌}
use lib.Dec.{eqb, ltb, lit<}
use Rattle.base.specs.Answers.{Answer, given}
use Rattle.base.specs.Below.{any_below}
use Rattle.report.specs.View.{Medium, Copy, copies}
use Rattle.report.specs.Choice.{sound}
use Rattle.report.specs.Report.{read_only_of, is_internal, highest_of, class_at}
use Rattle.report.specs.Attach.{AttachRequest, Outcome, early, late, whole, attaching}
use Rattle.report.proofs.Numbers.{Numbered, Each, Above, each_when, Reached, reached}
use Rattle.mover_rules.specs.Headers.{is_static, old_counter}
use Rattle.mover_rules.specs.Begin.{unless_refused, refusal13, refusal15, refusal16, refusal17, mapped, make_plan}
use Rattle.mover_rules.specs.Begin.{plan_for, plan_of, begin_on, beginning}
use Rattle.mover_rules.specs.declared.Plan.{Plan}

unless_numbered : (o : Option ℕ) (a : Answer Plan) → Each Above o → Numbered a → Numbered (unless_refused o a)
unless_numbered none a p q = q
unless_numbered (some k) a p q = p

module _ (m : Medium) where
  above_13 : Each Above (refusal13 m)
  unfolding refusal13
  above_13 =
      each_when
      (read_only_of (m.count) (copies (m.views)) || any_below (m.count) (λ (i : ℕ). is_internal 1 (copies (m.views) i)))
      13 (lit< tt)

  above_15 : (c : Copy) → Each Above (refusal15 c)
  unfolding refusal15
  above_15 c = each_when (not (sound c) || (is_static c && not (c.matches))) 15 (lit< tt)

  above_16 : (t : ℕ) → Each Above (refusal16 m t)
  unfolding refusal16
  above_16 t =
      each_when (not (ltb t (m.count)) || (not (eqb (class_at m t) 0) || not (m.views t).clean)) 16 (lit< tt)

  above_17 : (old : ℕ) → Each Above (refusal17 m old)
  unfolding refusal17
  above_17 old =
      each_when
      (eqb (highest_of (m.count) (copies (m.views))) (2 ^ 64 - 1) || eqb (old_counter m old) 0x7FFFFFFF) 17 (lit< tt)

  plan_numbered : (t : ℕ) (x : Option (ℕ × Copy)) → Numbered (plan_for m t x)
  plan_numbered t none = lit< tt
  plan_numbered t (some x) =
      let plan = given (make_plan m t x.0 x.1) in let last = unless_refused (refusal17 m x.0) plan in
      unless_numbered (refusal15 x.1) (unless_refused (refusal16 m t) last) (above_15 x.1)
      (unless_numbered (refusal16 m t) last (above_16 t)
      (unless_numbered (refusal17 m x.0) plan (above_17 x.0) tt))

begin_numbered : (o : Outcome) (v l t : ℕ) → Reached o → Numbered (begin_on o v l t)
unfolding plan_of
begin_numbered (early k) v l t h = h
begin_numbered (late n r) v l t h = h
begin_numbered (whole m) v l t h =
    unless_numbered (refusal13 m) (plan_for m t (mapped m v l)) (above_13 m) (plan_numbered m t (mapped m v l))

pub begun_numbered : (req : AttachRequest) (image : List ℕ) (room : ℕ → Bool) (v l t : ℕ)
    → Numbered (beginning req image room v l t)
unfolding beginning
begun_numbered req image room v l t = begin_numbered (attaching req image room) v l t (reached req image room)
