-- Demand 3 of any two outcomes that meet the promise of a step, in the words of specs/Said and specs/Demand3: nothing but the active elements matters.
--
-- No value shows a read by itself. So the order of reads is stated by which byte 6 or 7 names and by the count (demand 1), and "its
-- memory is not looked at" by demand 3: rights and bytes may differ wherever no active element lies, and nothing that a step tells or
-- leaves does. A constant step would meet demand 3's first half alone; it is stated here of any two outcomes that meet the promise of a
-- step, and those are what demands 1 and 2 say, so a constant does not meet it.
--
-- Nor can its premise grow: `touched_exactly`, `same_exactly`, `rights_exactly` and `bytes_exactly` of Touches say that it asks for agreement at the bytes
-- that the definition asks for, and for nothing else; and `premise_exactly` of Needs,
-- that where a step runs it holds exactly if the other runs too and leaves the same vectors.
use mathlib.Core.Path.{◌≡◌, sym, ap, subst₂, ◌∙◌}
use mathlib.Core.Bool.{true}
use mathlib.Core.List.{List}
use Prim.Native.Nat.{ℕ, ◌<◌}
use Rattle.steps.specs.Benches.{Lent, Bench}
use Rattle.steps.specs.Answers.{number_of}
use Rattle.steps.specs.Lanes.{governing_bytes, wanted}
use Rattle.steps.specs.Outcomes.{Outcome, survey_of, outcome_of}
use Rattle.steps.specs.declared.Plan.{Plan}
use Rattle.memory.specs.Troubles.{trouble_of}
use Rattle.memory.specs.Elements.{Reading}
use Rattle.steps.specs.Step.{StepPromise}
use Rattle.steps.specs.Said.{Accepted}
use Rattle.steps.specs.Demand2.{Done}
use Rattle.steps.specs.Demand3.{Same, SameRights, SameBytes}
use Rattle.steps.specs.declared.StepResult.{StepResult}
use Rattle.steps.proofs.Depends.{same_survey, same_outcome}
use Rattle.steps.proofs.Agrees.{same_report, same_after}
use Rattle.steps.proofs.Unique.{result_unique}
use Rattle.steps.proofs.Demand2.{demand_2_promise}

-- What a load tells depends only on which of the elements asked for fault, where and how, and never on a value;
pub demand_3_faults : (a b : ℕ → Reading) (p : Plan) (pred : List ℕ)
    → ((e : ℕ) → e < p.elements → wanted p pred e ≡ true → trouble_of (a e) ≡ trouble_of (b e)) → survey_of a p pred ≡ survey_of b p pred
demand_3_faults a b p pred = same_survey a b p pred

-- and all that it leaves, in every destination and elsewhere, only on the answers to those elements.
pub demand_3_apart : (a b : ℕ → Reading) (l : Lent) (before : Bench) (p : Plan) → 0 < p.elements
    → ((e : ℕ) → e < p.elements → wanted p (governing_bytes l p) e ≡ true → a e ≡ b e) → outcome_of a l before p ≡ outcome_of b l before p
demand_3_apart a b l before p some = same_outcome a b l before p some

-- Two accepted set-ups with the same settings, registers, predicates and area places, and the same read right on each page that holds
-- a byte of an active element; let all other rights and all contents differ at will.
module _ (l : Lent) (b : Bench) (l' : Lent) (b' : Bench) (w : ℕ)
    (accepted : Accepted l b) (accepted' : Accepted l' b') (same : Same l b l' b') (rights : SameRights l w b l' b')
    (r r' : StepResult) (l₁ l₂ : Lent) (b₁ b₂ : Bench) (first : StepPromise l w b r l₁ b₁) (second : StepPromise l' w b' r' l₂ b₂) where
  -- Both give the same answer, count, element and address.
  pub demand_3_answer : r ≡ r'
  demand_3_answer =
      result_unique r r' (ap (λ (o : Outcome). o.report) first.ends ∙ same_report l b l' b' accepted accepted' same w first.came.word rights
      ∙ sym (ap (λ (o : Outcome). o.report) second.ends))

  -- If the bytes of the active elements are equal as well, vector file and scalars end equal; and where it ran, they are what demand 2 says.
  pub demand_3_end : SameBytes l w b l' b' → Same l₁ b₁ l₂ b₂ × (number_of r.answer ≡ 0 → Done l w b l₁ b₁ × Done l' w b' l₂ b₂)
  demand_3_end bytes = (
    subst₂ (λ (o o' : Outcome). Same o.lent o.bench o'.lent o'.bench) (sym first.ends) (sym second.ends)
        (same_after l b l' b' accepted accepted' same w first.came.word rights bytes),
    λ z. (
      demand_2_promise l w b r l₁ b₁ first z,
      demand_2_promise l' w b' r' l₂ b₂ second
          (ap (λ (q : StepResult). number_of q.answer) (sym demand_3_answer) ∙ z),
    ),
  )
