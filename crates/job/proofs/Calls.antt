-- What holds of each call holds along a list of calls. Assumes nothing.
use mathlib.Core.List.{List, [], ◌∷◌}
use Rattle.job.specs.Course.{after_all, EachCall}

-- I holds of what a call finds, G goes from there to what it leaves
module _ {X C : Type 0} (after : X → C → X) (I : X → Type 0) (G : X → X → Type 0) (Asked Told : X → C → X → Type 0)
    (here : (x : X) → G x x) (on : (x y z : X) → G x y → G y z → G x z)
    (one : (x : X) (c : C) → I x → Asked x c (after x c) → I (after x c) × G x (after x c) × Told x c (after x c)) where
  pub all_calls : (calls : List C) (x : X) → I x → EachCall after Asked x calls
      → I (after_all after x calls) × G x (after_all after x calls) × EachCall after Told x calls
  all_calls [] x i a = (i, here x, tt)
  all_calls (c ∷ calls) x i a =
      let r = one x c i a.0 in
      let s = all_calls calls (after x c) r.0 a.1 in
      (s.0, on x (after x c) (after_all after (after x c) calls) r.1 s.1, (r.2, s.2))
