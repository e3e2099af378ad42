-- How a load ends, over any answers of memory, whichever road it took. This file serves proofs alone, and nothing in it has to be
-- believed: the promise of `step` is StepPromise of steps.
use Rattle.std.specs.Prelude.{if◌then◌else◌, ◌≡◌, ℕ, List, nat_eq}
use Rattle.memory.specs.Elements.{Reading}
use Rattle.steps.specs.Answers.{Report, number_of, report_of}
use Rattle.steps.specs.Lanes.{destinations_in}
use Rattle.steps.specs.Outcomes.{survey_of, vectors_after}
use Rattle.steps.specs.declared.Plan.{Plan}
use Rattle.steps.specs.declared.StepResult.{StepResult}

module _ (answer : ℕ → Reading) (p : Plan) (pred : List ℕ) where
  -- the report is the survey's; a vector file of registers of n bytes is the definition's where the load ran, and as it was where not
  pub record Targeted (n : ℕ) (z : List ℕ) (r : StepResult) (z' : List ℕ) : Type 0 where
    pub report : report_of r ≡ survey_of answer p pred
    pub vectors : z' ≡ (if nat_eq (number_of r.answer) 0 then vectors_after answer p pred n z (destinations_in p) else z)

-- a report of a load that ran, with its count
pub record RanWith (r : Report) (count : ℕ) : Type 0 where
  pub number : r.number ≡ 0
  pub counted : r.count ≡ count
