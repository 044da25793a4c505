-- Words written are read back as the same struct; words read are written again as they were. Assumes nothing.
use mathlib.Core.Path.{◌≡◌, refl, sym, ap, subst}
use mathlib.Core.Bool.{Bool, true, false, not, cond}
use mathlib.Core.List.{List, ◌∷◌, ◌++◌}
use Prim.Native.Nat.{ℕ, zero, suc, ◌+◌, ◌≤◌}
use native.Mathlib.Nat.{add-zero, add-suc, suc-add}
use native.Mathlib.Omega.{arith}
use borrow.Author.Tests.{ne_eqb}
use lib.Dec.{eqb}
use lib.ListN.{length, drop, get_or, set}
use lib.Seq.{drop-cons}
use Rattle.base.specs.Answers.{given, refused}
use Rattle.base.specs.Lists.{table}
use Rattle.header.specs.Ec.{EcFits}
use Rattle.header.specs.Vid.{VidFits}
use Rattle.header.specs.declared.EcHeader.{EcHeader}
use Rattle.header.specs.declared.VidHeader.{VidHeader}
use Rattle.report.specs.Attach.{over}
use Rattle.report.specs.declared.Report.{Report}
use Rattle.job.proofs.Runs.{nexts}
use Rattle.mover_rules.specs.Step.{one_on, mover_job}
use Rattle.mover_rules.specs.declared.Plan.{Plan}
use Rattle.capi_words.specs.Lent.{fits}
use Rattle.capi_words.specs.Structs.{ec_words, vid_words, report_words, plan_words, answer_words}
use Rattle.capi_words.specs.Structs.{ec_most, vid_most, report_most, plan_most, refusal_most, most32}
use Rattle.capi_words.specs.Structs.{ec_in, vid_in, report_in, plan_in, attached_fits, attached_in}
use Rattle.capi_words.specs.Structs.{ReportFits, PlanFits}
use Rattle.capi_words.proofs.Laws.{within, within_fits}

-- ---- a struct's words, whatever follows them: they fit, and are read back

pub ec_back : (h : EcHeader) (t : List ℕ) → EcFits h
    → (fits (ec_words h ++ t) ec_most ≡ true) × (ec_in (ec_words h ++ t) ≡ h)
ec_back h t f = (within_fits (ec_words h ++ t) ec_most (omega arith), refl)

pub vid_back : (h : VidHeader) (t : List ℕ) → VidFits h
    → (fits (vid_words h ++ t) vid_most ≡ true) × (vid_in (vid_words h ++ t) ≡ h)
vid_back h t f = (within_fits (vid_words h ++ t) vid_most (omega arith), refl)

pub plan_back : (p : Plan) (t : List ℕ) → PlanFits p
    → let ws = answer_words plan_words (given p) ++ t in (fits ws plan_most ≡ true) × (plan_in ws ≡ p)
unfolding plan_words plan_in
plan_back p t f = (within_fits (answer_words plan_words (given p) ++ t) plan_most (omega arith), refl)

bit_back : (b : Bool) → not (eqb (cond b 1 0) 0) ≡ b
bit_back true = refl
bit_back false = refl

bit_most : (b : Bool) → cond b 1 0 ≤ 1
bit_most true = omega arith
bit_most false = omega arith

pub report_back : (r : Report) (t : List ℕ) → ReportFits r
    → let ws = answer_words report_words (given r) ++ t in (attached_fits ws ≡ true) × (attached_in ws ≡ given r)
unfolding report_words report_in attached_fits attached_in
report_back r t f = (
  within_fits (answer_words report_words (given r) ++ t) report_most (omega (arith, bit_most r.read_only)),
  rw bit_back,
)

-- a refusal has a number
pub refusal_back : (k p : ℕ) (t : List ℕ) → (k ≡ 0 → ⊥) → k ≤ most32 → p ≤ most32
    → let ws = answer_words report_words (refused k p) ++ t in (attached_fits ws ≡ true) × (attached_in ws ≡ refused k p)
unfolding attached_fits attached_in
refusal_back k p t n h l = (rw (ne_eqb k 0 n) (within_fits (k ∷ p ∷ t) refusal_most (omega arith)), rw (ne_eqb k 0 n))

-- ---- a plan's words with steps more run: the last is as many higher, and no other changes

front : (n k : ℕ) (ws : List ℕ) → k + n ≤ length ws → drop k ws ≡ table (λ (i : ℕ). get_or ws i 0) k n ++ drop (k + n) ws
front zero k ws h = rw add-zero
front (suc n) k ws h =
    rw (drop-cons ws k 0 (omega arith))
    (ap (λ (l : List ℕ). get_or ws k 0 ∷ l) (rw (add-suc, ← suc-add) (front n (suc k) ws (omega arith))))

-- so many steps run
abbrev with_steps : Plan → ℕ → Plan
with_steps p n = record {
  peb_size = p.peb_size;
  unit = p.unit;
  sub_unit = p.sub_unit;
  old = p.old;
  target = p.target;
  vid = p.vid;
  ec = p.ec;
  steps = n;
}

nexts_is : (p : Plan) (k : ℕ) → nexts mover_job p k ≡ with_steps p (p.steps + k)
unfolding one_on
nexts_is p zero = rw add-zero
nexts_is p (suc k) = rw (nexts_is p k) (ap (with_steps p) (omega arith))

steps_words : (ws : List ℕ) (n : ℕ) → fits ws plan_most ≡ true
    → over (answer_words plan_words (given (with_steps (plan_in ws) n))) ws ≡ set ws 23 n
unfolding plan_words plan_in
steps_words ws n e =
    let w = within ws plan_most e in
    let a : get_or ws 0 0 ≡ 0 = omega arith in
    let b : get_or ws 1 0 ≡ 0 = omega arith in
    subst
    (λ (l : List ℕ). over (answer_words plan_words (given (with_steps (plan_in l) n))) l ≡ set l 23 n)
    (sym (front 24 0 ws (omega arith)))
    (rw (a, b))

pub nexts_words : (ws : List ℕ) (k : ℕ) → fits ws plan_most ≡ true
    → over (answer_words plan_words (given (nexts mover_job (plan_in ws) k))) ws ≡ set ws 23 (get_or ws 23 0 + k)
unfolding plan_in plan_words
nexts_words ws k e = rw (nexts_is (plan_in ws) k) (steps_words ws (get_or ws 23 0 + k) e)
