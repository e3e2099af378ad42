-- What a load beside its memory is, to the definitions of a step. This file serves proofs alone, and nothing in it has to be believed: the
-- promise of `step` is StepPromise of steps.
use Rattle.std.specs.Prelude.{ℕ, List}
use Rattle.memory.specs.Areas.{areas_of}
use Rattle.memory.specs.Elements.{Reading}
use Rattle.steps.specs.Answers.{Report}
use Rattle.steps.specs.Outcomes.{answers_in, survey_of, lane_value, register_of, vectors_after}
use Rattle.steps.specs.declared.StepResult.{StepResult}
use Rattle.bench.specs.Inside.Roads.{Targeted}
use Rattle.bench.specs.declared.reads.Load.{Load}

-- what memory says of each of its elements
abbrev pub answers_to : Load → ℕ → Reading
answers_to l = answers_in (areas_of l.areas) l.lanes.plan

-- .. and of those that it asks for
abbrev pub survey_by : Load → Report
survey_by l = survey_of (answers_to l) l.lanes.plan l.lanes.pred.now

-- lane l of destination j; destination j, of n bytes; and a vector file in which the first so many destinations are filled
abbrev pub lane_by : Load → ℕ → ℕ → ℕ
lane_by l = lane_value (answers_to l) l.lanes.plan l.lanes.pred.now

abbrev pub register_by : Load → ℕ → ℕ → List ℕ
register_by l = register_of (answers_to l) l.lanes.plan l.lanes.pred.now

abbrev pub vectors_by : Load → List ℕ → ℕ → List ℕ
vectors_by l = vectors_after (answers_to l) l.lanes.plan l.lanes.pred.now l.lanes.register_bytes

-- how it ends
abbrev pub TargetedBy : Load → List ℕ → StepResult → List ℕ → Type 0
TargetedBy l = Targeted (answers_to l) l.lanes.plan l.lanes.pred.now l.lanes.register_bytes
