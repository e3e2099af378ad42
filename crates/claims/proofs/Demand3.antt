-- Demand 3: nothing but the active elements matters; and its premise asks for no more than that.
use Prim.Native.Nat.{◌<◌, ◌^◌, ℕ}
use Rattle.memory.specs.Elements.{Reading}
use Rattle.memory.specs.Troubles.{trouble_of}
use Rattle.steps.specs.Answers.{number_of}
use Rattle.steps.specs.Asks.{Agree, AsksFor, bench_with, lent_with, number_at, right_at}
use Rattle.steps.specs.Benches.{Bench, Lent}
use Rattle.steps.specs.Demand2.{Done}
use Rattle.steps.specs.Demand3.{Same, SameBytes, SameRights, Touched}
use Rattle.steps.specs.Lanes.{governing_bytes, wanted}
use Rattle.steps.specs.Outcomes.{outcome_of, survey_of}
use Rattle.steps.specs.Said.{Accepted}
use Rattle.steps.specs.Step.{StepPromise}
use Rattle.steps.specs.declared.Plan.{Plan}
use Rattle.steps.specs.declared.StepResult.{StepResult}
use lib.ListN.{length}
use mathlib.Core.Bool.{true}
use mathlib.Core.List.{List}
use mathlib.Core.Logic.{◌↔◌}
use mathlib.Core.Path.{◌≡◌}

-- Two accepted set-ups that agree as demand 3 says, whatever else differs: both give the same answer, count, element and address.
pub demand_3_answer : (l : Lent) (b : Bench) (l' : Lent) (b' : Bench) (w : ℕ) (accepted : Accepted l b) (accepted' : Accepted l' b')
    (same : Same l b l' b') (rights : SameRights l w b l' b') (r r' : StepResult) (l₁ l₂ : Lent) (b₁ b₂ : Bench) (first : StepPromise l w b r l₁ b₁)
    (second : StepPromise l' w b' r' l₂ b₂) → r ≡ r'
demand_3_answer = Rattle.steps.proofs.Demand3.demand_3_answer

-- If the bytes of the active elements are equal as well, vector file and scalars end equal; and where it ran, they are what demand 2 says.
pub demand_3_end : (l : Lent) (b : Bench) (l' : Lent) (b' : Bench) (w : ℕ) (accepted : Accepted l b) (accepted' : Accepted l' b')
    (same : Same l b l' b') (rights : SameRights l w b l' b') (r r' : StepResult) (l₁ l₂ : Lent) (b₁ b₂ : Bench) (first : StepPromise l w b r l₁ b₁)
    (second : StepPromise l' w b' r' l₂ b₂) → SameBytes l w b l' b' → Same l₁ b₁ l₂ b₂ × (number_of r.answer ≡ 0 → Done l w b l₁ b₁ × Done l' w b' l₂ b₂)
demand_3_end = Rattle.steps.proofs.Demand3.demand_3_end

-- Document 01's bytes of the active elements are the bytes that the definition asks for.
pub touched_exactly : (l : Lent) (w : ℕ) (b : Bench) → w < 2 ^ 32 → (a : ℕ) → Touched l w b a ↔ AsksFor l w b a
touched_exactly = Rattle.steps.proofs.Touches.touched_exactly

-- A bench and the same with other contents and other rights are the same set-up for demand 3 as soon as the areas are as long;
pub same_exactly : (l : Lent) (w : ℕ) (b : Bench) (flash flash_rights ram ram_rights : List ℕ)
    → let l' = lent_with l flash flash_rights ram_rights in let b' = bench_with b ram in Same l b l' b'
    ↔ ((length l.flash ≡ length flash) × (length b.ram ≡ length ram))
same_exactly = Rattle.steps.proofs.Touches.same_exactly

-- the rights are the same as soon as the read right is at each byte that the step asks for;
pub rights_exactly : (l : Lent) (w : ℕ) (b : Bench) (flash flash_rights ram ram_rights : List ℕ)
    → let l' = lent_with l flash flash_rights ram_rights in let b' = bench_with b ram in w < 2 ^ 32 → SameRights l w b l' b' ↔ Agree right_at l w b l' b'
rights_exactly = Rattle.steps.proofs.Touches.rights_exactly

-- and the bytes as soon as those bytes are.
pub bytes_exactly : (l : Lent) (w : ℕ) (b : Bench) (flash flash_rights ram ram_rights : List ℕ)
    → let l' = lent_with l flash flash_rights ram_rights in let b' = bench_with b ram in w < 2 ^ 32 → SameBytes l w b l' b' ↔ Agree number_at l w b l' b'
bytes_exactly = Rattle.steps.proofs.Touches.bytes_exactly

-- Of a bench whose step runs, and the same with other contents and other rights: demand 3's premise holds exactly when the other's step runs too and leaves
-- the same vectors.
pub premise_exactly : (l : Lent) (w : ℕ) (b : Bench) (flash flash_rights ram ram_rights : List ℕ)
    → let l' = lent_with l flash flash_rights ram_rights in let b' = bench_with b ram in (r r' : StepResult) (l₁ l₂ : Lent) (b₁ b₂ : Bench)
    → StepPromise l w b r l₁ b₁ → StepPromise l' w b' r' l₂ b₂ → Same l b l' b' → Accepted l' b' → number_of r.answer ≡ 0
    → (SameRights l w b l' b' × SameBytes l w b l' b') ↔ ((number_of r'.answer ≡ 0) × (b₁.vectors ≡ b₂.vectors))
premise_exactly = Rattle.steps.proofs.Needs.premise_exactly

-- What a load tells depends only on which of the elements asked for fault, where and how, and never on a value;
pub demand_3_faults : (a b : ℕ → Reading) (p : Plan) (pred : List ℕ) → ((e : ℕ) → e < p.elements → wanted p pred e ≡ true → trouble_of (a e)
    ≡ trouble_of (b e)) → survey_of a p pred ≡ survey_of b p pred
demand_3_faults = Rattle.steps.proofs.Demand3.demand_3_faults

-- And all that it leaves depends only on the answers to those elements.
pub demand_3_apart : (a b : ℕ → Reading) (l : Lent) (before : Bench) (p : Plan) → 0 < p.elements
    → ((e : ℕ) → e < p.elements → wanted p (governing_bytes l p) e ≡ true → a e ≡ b e) → outcome_of a l before p ≡ outcome_of b l before p
demand_3_apart = Rattle.steps.proofs.Demand3.demand_3_apart
