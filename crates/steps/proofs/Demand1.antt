-- Demand 1 over the definition of a step, and of any outcome that meets its promise, in the words of specs/Said and specs/Demand1: "Any input", each
-- answer exactly when document 01 says, and any answer but 0 changes nothing.
use mathlib.Core.Path.{◌≡◌, sym, subst}
use mathlib.Core.Logic.{◌↔◌}
use Prim.Native.Nat.{ℕ, ◌^◌, ◌≤◌, ◌<◌}
use Rattle.steps.specs.Insns.{Insn}
use Rattle.steps.specs.Benches.{Lent, Bench}
use Rattle.steps.specs.Answers.{number_of, Report, report_of}
use Rattle.steps.specs.Outcomes.{Outcome}
use Rattle.steps.specs.Step.{step_of, StepPromise}
use Rattle.steps.specs.Said.{Active}
use Rattle.steps.specs.Demand1.{Counted, Ready, Given}
use Rattle.steps.specs.declared.StepResult.{StepResult}
use Rattle.steps.proofs.Gives.{given_exactly, step_given, counts_few}
use Rattle.steps.proofs.Surveys.{count_exists}
use Rattle.steps.proofs.Counts.{counted_once}
use Rattle.steps.proofs.Keeps.{kept}

-- A step's number, count, element and address are those of a row of document 01's table exactly when the row says so.
pub demand_1 : (l : Lent) (w : ℕ) (b : Bench) → w < 2 ^ 32 → (r : Report) → Given l w b r ↔ ((step_of l w b).report ≡ r)
demand_1 l w b small r = given_exactly l w b small r

-- Exactly one row is given.
pub demand_1_one : (l : Lent) (w : ℕ) (b : Bench) → w < 2 ^ 32 → (r : Report) × Given l w b r × ((q : Report) → Given l w b q → q ≡ r)
demand_1_one l w b small = ((step_of l w b).report, step_given l w b small, λ q g. sym ((given_exactly l w b small q).0 g))

-- Any answer but 0 leaves the whole bench as it was.
pub demand_1_kept : (l : Lent) (w : ℕ) (b : Bench) → ((step_of l w b).report.number ≡ 0 → ⊥) → ((step_of l w b).lent ≡ l) × ((step_of l w b).bench ≡ b)
demand_1_kept l w b = kept l w b

-- The same of any outcome that meets the promise, whatever came in: its numbers are those of the row that is given, and of no other.
pub demand_1_promise : (l : Lent) (w : ℕ) (b : Bench) (r : StepResult) (l₁ : Lent) (b₁ : Bench) → StepPromise l w b r l₁ b₁
    → ((q : Report) → Given l w b q ↔ (report_of r ≡ q)) × ((number_of r.answer ≡ 0 → ⊥) → (l₁ ≡ l) × (b₁ ≡ b))
demand_1_promise l w b r l₁ b₁ p =
    subst (λ (o : Outcome). ((q : Report) → Given l w b q ↔ (o.report ≡ q)) × ((o.report.number ≡ 0 → ⊥) → (o.lent ≡ l) × (o.bench ≡ b)))
    (sym p.ends) (given_exactly l w b p.came.word, kept l w b)

-- The count that rows 0, 6 and 7 name is there, and is one number.
pub demand_1_counted : (l : Lent) (w : ℕ) (b : Bench) (i : Insn) → Ready l w b i → (e : ℕ)
    → (n : ℕ) × Counted (Active l i) e n × ((k : ℕ) → Counted (Active l i) e k → k ≡ n)
demand_1_counted l w b i r e =
    let c = count_exists l b i r.defined.accepted r.defined.long e in
    (c.0, c.1, λ k d. counted_once (Active l i) d c.1)

-- A count is at most 256.
pub demand_1_count : (l : Lent) (w : ℕ) (b : Bench) (r : StepResult) (l₁ : Lent) (b₁ : Bench) → StepPromise l w b r l₁ b₁ → r.count ≤ 256
demand_1_count l w b r l₁ b₁ p = subst (λ (o : Outcome). o.report.count ≤ 256) (sym p.ends) (counts_few l w b p.came.word)
