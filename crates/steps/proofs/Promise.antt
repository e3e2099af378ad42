-- The promise of a step leaves nothing open, and can be met.
use mathlib.Core.Path.{◌≡◌, ap}
use Prim.Native.Nat.{ℕ}
use Rattle.ground.proofs.Laws.{only_one}
use Rattle.steps.specs.Benches.{Lent, Bench, InTypes}
use Rattle.steps.specs.Outcomes.{Outcome}
use Rattle.steps.specs.Step.{step_of, StepPromise}
use Rattle.steps.specs.declared.StepResult.{StepResult}
use Rattle.steps.proofs.Gives.{met}
use Rattle.steps.proofs.Unique.{result_of, result_unique}

-- Two outcomes that meet it are the same result, and the same bench to the last byte and number.
pub promise_unique : (l : Lent) (w : ℕ) (b : Bench) (r r' : StepResult) (l₁ l₂ : Lent) (b₁ b₂ : Bench)
    → StepPromise l w b r l₁ b₁ → StepPromise l w b r' l₂ b₂ → (r ≡ r') × (l₁ ≡ l₂) × (b₁ ≡ b₂)
promise_unique l w b r r' l₁ l₂ b₁ b₂ p q =
    let e = only_one p.ends q.ends in
    (result_unique r r' (ap (λ (o : Outcome). o.report) e), ap (λ (o : Outcome). o.lent) e, ap (λ (o : Outcome). o.bench) e)

-- And there is one, whatever comes in.
pub promise_met : (l : Lent) (w : ℕ) (b : Bench) → InTypes l w b → (r : StepResult) × StepPromise l w b r (step_of l w b).lent (step_of l w b).bench
promise_met l w b t =
    let told = met l w b t.word in
    (result_of (step_of l w b).report, record { came = t; ends = λ i. record { report = told i; lent = (step_of l w b).lent; bench = (step_of l w b).bench } })
