-- One step, whole.
use Rattle.std.specs.Prelude.{if◌then◌else◌, ℕ, ◌%◌, ◌≡◌, Bool, false, not, ◌&&◌, List, [], ◌∷◌, ltb, eqb}
use Rattle.ground.specs.Choices.{Row, ◌⇒◌, first_of}
use Rattle.words.specs.Families.{read_of}
use Rattle.steps.specs.Insns.{Insn, Shape, Replicate, ByElement, Contiguous, Block, Decoded, Result, Ok, Err}
use Rattle.steps.specs.Benches.{Lent, Bench, InTypes, is_accepted}
use Rattle.steps.specs.Answers.{Report, report_of, refusal_report, earned_by}
use Rattle.steps.specs.Terms.{scalar}
use Rattle.steps.specs.Plans.{plan_of}
use Rattle.steps.specs.Lanes.{governing_bytes, checks_stack}
use Rattle.steps.specs.Outcomes.{Outcome, answers_of, ended, outcome_of}
use Rattle.steps.specs.declared.Settings.{Settings}
use Rattle.steps.specs.declared.StepResult.{StepResult}
use Rattle.steps.specs.declared.Plan.{Plan}
use Rattle.steps.specs.declared.Answer.{Answer}
use Rattle.steps.specs.declared.Answer.TheVariants as A

-- LD1RO
abbrev pub is_wide : Shape → Bool
is_wide (Replicate q back) = false
is_wide (ByElement imm6) = false
is_wide (Contiguous offset) = false
is_wide (Block wide offset) = wide

-- the switch that the load needs is on: "LD1R with SIMD off; any other with SVE off" earns 4; LD2R to LD4R stand with LD1R
abbrev pub switched_on : Settings → Shape → Bool
switched_on s (Replicate q back) = s.simd
switched_on s (ByElement imm6) = s.sve
switched_on s (Contiguous offset) = s.sve
switched_on s (Block wide offset) = s.sve

-- the SP check is made and fails: "SP as base must be a multiple of 16"
unfoldable pub stack_fails : List ℕ → Plan → List ℕ → Bool
stack_fails x p pred = eqb p.base 31 && checks_stack p pred && not (eqb (scalar x 31 % 16) 0)

-- what a word is about to do: the plan to carry out, or the answer that stops it
abbrev pub Planned : Type 0
Planned = Result Plan Answer

-- "3 from the word and F64MM, 4, 3 for short VL": each with its answer
unfoldable pub refusals : Settings → Insn → List (Row Planned)
refusals s i =
    (is_wide i.shape && not s.f64mm ⇒ Err A.Undefined)
    ∷ (not (switched_on s i.shape) ⇒ Err A.SwitchedOff)
    ∷ (is_wide i.shape && ltb s.vl 256 ⇒ Err A.Undefined)
    ∷ []

unfoldable pub planned_load : Settings → List ℕ → Insn → Planned
planned_load s x i = first_of (refusals s i) (Ok (plan_of s.vl x i))

abbrev pub planned_by : Settings → List ℕ → Decoded → Planned
planned_by s x (Ok i) = planned_load s x i
planned_by s x (Err why) = Err (earned_by why)

-- what a word is about to do: no predicate and no memory is in sight
unfoldable pub planned_of : Settings → List ℕ → ℕ → Planned
planned_of s x w = planned_by s x (read_of w)

-- what is left to do past the stack rule: a refusal to report, or the plan to carry out
pub data Prepared : Type 0 where
  Stop : Report → Prepared
  Go : Plan → Prepared

-- what was planned, at the stack rule: 5 comes after all that the word, the settings and the scalars decide, since the lanes decide it
abbrev pub at_stack : Lent → List ℕ → Planned → Prepared
at_stack l x (Err a) = Stop (report_of (record { count = 0; answer = a }))
at_stack l x (Ok p) = if stack_fails x p (governing_bytes l p) then Stop (refusal_report 5) else Go p

unfoldable pub prepared_of : Lent → List ℕ → ℕ → Prepared
prepared_of l x w = at_stack l x (planned_of l.settings x w)

abbrev pub refused_outcome : Report → Lent → Bench → Outcome
refused_outcome r l b = ended r l b b

abbrev pub carried_out : Lent → Bench → Prepared → Outcome
carried_out l b (Stop r) = refused_outcome r l b
carried_out l b (Go p) = outcome_of (answers_of l b p) l b p

unfoldable pub step_of : Lent → ℕ → Bench → Outcome
step_of l w b = if is_accepted l b then carried_out l b (prepared_of l b.scalars w) else refused_outcome (refusal_report 1) l b

-- What one step promises: its result in the paper's numbers, with the whole bench as it is left, is what the definition says of
-- the bench as it was; and that what came in is what its types hold.
pub record StepPromise (l : Lent) (w : ℕ) (b : Bench) (r : StepResult) (l' : Lent) (b' : Bench) : Type 0 where
  pub came : InTypes l w b
  pub ends : ◌≡◌ {A = Outcome} (record { report = report_of r; lent = l'; bench = b' }) (step_of l w b)
