-- Demand 1: any input, each answer exactly when document 01 says, and any answer but 0 changes nothing; the stack rule by itself.
use Prim.Native.Nat.{◌%◌, ◌*◌, ◌<◌, ◌^◌, ◌≤◌, ℕ}
use Rattle.std.specs.Prelude.{None, Some}
use Rattle.steps.specs.Answers.{Report, number_of, report_of, report_with}
use Rattle.steps.specs.Benches.{Bench, Lent}
use Rattle.steps.specs.Demand1.{Counted, Defined, Given, Ready}
use Rattle.steps.specs.Said.{Active, LaneActive, lane_bytes}
use Rattle.steps.specs.Step.{StepPromise, step_of}
use Rattle.steps.specs.Terms.{scalar}
use Rattle.steps.specs.declared.StepResult.{StepResult}
use Rattle.words.specs.declared.Insn.{Insn}
use mathlib.Core.Logic.{◌↔◌}
use mathlib.Core.Path.{◌≡◌}

-- Of any outcome that meets the promise, whatever came in: its number, count, element and address are those of the row of document 01's table that is
-- given, and of no other; and any answer but 0 leaves the whole bench as it was.
pub demand_1_promise : (l : Lent) (w : ℕ) (b : Bench) (r : StepResult) (l₁ : Lent) (b₁ : Bench) → StepPromise l w b r l₁ b₁
    → ((q : Report) → Given l w b q ↔ (report_of r ≡ q)) × ((number_of r.answer ≡ 0 → ⊥) → (l₁ ≡ l) × (b₁ ≡ b))
demand_1_promise = Rattle.steps.proofs.Demand1.demand_1_promise

-- A step's number, count, element and address are those of a row of document 01's table exactly when the row says so.
pub demand_1 : (l : Lent) (w : ℕ) (b : Bench) → w < 2 ^ 32 → (r : Report) → Given l w b r ↔ ((step_of l w b).report ≡ r)
demand_1 = Rattle.steps.proofs.Demand1.demand_1

-- Exactly one row is given.
pub demand_1_one : (l : Lent) (w : ℕ) (b : Bench) → w < 2 ^ 32 → (r : Report) × Given l w b r × ((q : Report) → Given l w b q → q ≡ r)
demand_1_one = Rattle.steps.proofs.Demand1.demand_1_one

-- Any answer but 0 leaves the whole bench as it was.
pub demand_1_kept : (l : Lent) (w : ℕ) (b : Bench) → ((step_of l w b).report.number ≡ 0 → ⊥) → ((step_of l w b).lent ≡ l) × ((step_of l w b).bench ≡ b)
demand_1_kept = Rattle.steps.proofs.Demand1.demand_1_kept

-- The count that rows 0, 6 and 7 name is there, and is one number.
pub demand_1_counted : (l : Lent) (w : ℕ) (b : Bench) (i : Insn) → Ready l w b i → (e : ℕ) → (n : ℕ) × Counted (Active l i) e n
    × ((k : ℕ) → Counted (Active l i) e k → k ≡ n)
demand_1_counted = Rattle.steps.proofs.Demand1.demand_1_counted

-- A count is at most 256.
pub demand_1_count : (l : Lent) (w : ℕ) (b : Bench) (r : StepResult) (l₁ : Lent) (b₁ : Bench) → StepPromise l w b r l₁ b₁ → r.count ≤ 256
demand_1_count = Rattle.steps.proofs.Demand1.demand_1_count

-- 5 is given for a load that is defined and on, SP its base and no multiple of 16, and where a predicate governs with a lane active anywhere in VL;
-- and for nothing else.
pub stack_only : (l : Lent) (w : ℕ) (b : Bench) (r : StepResult) (l₁ : Lent) (b₁ : Bench) → StepPromise l w b r l₁ b₁ → number_of r.answer ≡ 5
    → (i : Insn) × Defined l w b i × (i.base ≡ 31) × (scalar b.scalars 31 % 16 ≡ 0 → ⊥)
    × ((g : ℕ) → i.governing ≡ Some g → (e : ℕ) × (e * (8 * lane_bytes i) < l.settings.vl) × LaneActive l i e)
stack_only = Rattle.steps.proofs.Stacks.stack_only

-- Such a load, SP its base and no multiple of 16, governed by a predicate: 5 if a lane is active anywhere in VL, one of the block or not; and if
-- none is, it runs, and reads nothing.
pub stack_anywhere : (l : Lent) (w : ℕ) (b : Bench) (r : StepResult) (l₁ : Lent) (b₁ : Bench) (p : StepPromise l w b r l₁ b₁) (i : Insn)
    (d : Defined l w b i) (sp : i.base ≡ 31) (askew : scalar b.scalars 31 % 16 ≡ 0 → ⊥) → (g : ℕ) → i.governing ≡ Some g
    → ((e : ℕ) → e * (8 * lane_bytes i) < l.settings.vl → LaneActive l i e → report_of r ≡ report_with 5 0 0 0)
    × (((e : ℕ) → e * (8 * lane_bytes i) < l.settings.vl → LaneActive l i e → ⊥) → report_of r ≡ report_with 0 0 0 0)
stack_anywhere = Rattle.steps.proofs.Stacks.stack_anywhere

-- .. and governed by none, as LD1R to LD4R are: 5.
pub stack_always : (l : Lent) (w : ℕ) (b : Bench) (r : StepResult) (l₁ : Lent) (b₁ : Bench) (p : StepPromise l w b r l₁ b₁) (i : Insn)
    (d : Defined l w b i) (sp : i.base ≡ 31) (askew : scalar b.scalars 31 % 16 ≡ 0 → ⊥) → i.governing ≡ None → report_of r ≡ report_with 5 0 0 0
stack_always = Rattle.steps.proofs.Stacks.stack_always

-- A load that is past the stack rule reads through an SP that is a multiple of 16, if SP is its base and it reads at all.
pub stack_read : (l : Lent) (w : ℕ) (b : Bench) (i : Insn) → Ready l w b i → i.base ≡ 31 → (e : ℕ) → Active l i e → scalar b.scalars 31 % 16 ≡ 0
stack_read = Rattle.steps.proofs.Stacks.stack_read
