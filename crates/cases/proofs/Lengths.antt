-- How long an outcome is: a step keeps the lengths of the vector file and of the scalars, so it is told by what the case lends.
use Prim.Native.Nat.{ℕ, ◌+◌, ◌*◌, ◌^◌, ◌<◌}
use mathlib.Core.Path.{◌≡◌, ◌∙◌, ap}
use mathlib.Core.List.{List, [], ◌∷◌}
use mathlib.Core.Logic.{⊎_elim}
use native.Mathlib.Nat.{mul_comm}
use native.Mathlib.Omega.{arith}
use borrow.Author.Tests.{eqb-true, eqb-false}
use lib.Dec.{eqb}
use lib.ListN.{length, length-append}
use Rattle.ground.proofs.Laws.{true_or_false, length_listed}
use Rattle.steps.specs.Answers.{Report}
use Rattle.steps.specs.Benches.{Lent, Bench}
use Rattle.steps.specs.Outcomes.{Outcome}
use Rattle.steps.specs.Step.{step_of}
use Rattle.steps.proofs.Keeps.{kept}
use Rattle.steps.proofs.Demand2.{leaves}
use Rattle.steps.proofs.Gives.{ran_only}
use Rattle.cases.specs.Outcomes.{eighth, eights, report_bytes, outcome_bytes, window_bytes}

-- a step that ran leaves as many bytes and numbers as there were, and any other leaves them as they were
pub step_long : (l : Lent) (w : ℕ) (b : Bench) → w < 2 ^ 32
    → (length (step_of l w b).bench.vectors ≡ length b.vectors) × (length (step_of l w b).bench.scalars ≡ length b.scalars)
step_long l w b small =
    ⊎_elim
    (λ t. let d = ran_only l w b small (eqb-true _ 0 t) in let k = leaves l w b d.0 d.1 d.2 in (k.vectors, k.scalars))
    (λ t. let k = (kept l w b (eqb-false _ 0 t)).1 in (ap (λ (c : Bench). length c.vectors) k, ap (λ (c : Bench). length c.scalars) k))
    (true_or_false (eqb (step_of l w b).report.number 0))

eights_long : (x : List ℕ) → length (eights x) ≡ 8 * length x
unfolding eights
eights_long x = length_listed (eighth x) 0 (length x * 8) ∙ mul_comm (length x) 8

report_long : (r : Report) → length (report_bytes r) ≡ 25
unfolding report_bytes
report_long r = omega (arith, eights_long (r.count ∷ r.element ∷ r.address ∷ []))

pub outcome_long : (o : Outcome) → length (outcome_bytes o) ≡ 25 + length o.bench.vectors + 8 * length o.bench.scalars
unfolding outcome_bytes
outcome_long o = simp (length-append, report_long, eights_long) (omega arith)

pub window_long : (r : Report) → length (window_bytes r) ≡ 33
unfolding window_bytes
window_long r = simp (length-append, report_long, eights_long) (omega arith)
