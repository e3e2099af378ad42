-- What the functions below `answer` are given and give. This file serves proofs alone, and nothing in it has to be believed: the promise
-- of `answer` is AnswerPromise.
use Rattle.std.specs.Prelude.{ℕ, ◌+◌, ◌*◌, ◌/◌, ◌≤◌, if◌then◌else◌, List, [], ◌∷◌, ◌++◌, Option, None, Some, eqb, length, drop, Result, Ok, Err}
use Rattle.ground.specs.Choices.{◌⇒◌, first_of}
use Rattle.ground.specs.Lists.{listed, bytes_at}
use Rattle.memory.specs.Areas.{Areas, areas_from}
use Rattle.lanes.specs.declared.Kind as Lane
use Rattle.lanes.specs.declared.Kind.TheVariants.{Whole, Single, Double}
use Rattle.steps.specs.Answers.{Report, report_with}
use Rattle.steps.specs.Benches.{Bench, lent_of}
use Rattle.steps.specs.Step.{step_of}
use Rattle.cases.specs.Parts.{carried}
use Rattle.cases.specs.Heads.{flags_in, kind_of, strange_kind, question_of}
use Rattle.cases.specs.Outcomes.{outcome_bytes}
use Rattle.cases.specs.declared.heads.Case.{Case}
use Rattle.cases.specs.declared.heads.Refusal.{Refusal}
use Rattle.cases.specs.declared.heads.Refusal.TheVariants.{Kind}
use Rattle.cases.specs.declared.heads.Question.{Question}
use Rattle.cases.specs.declared.parts.Parts.{Parts}
use Rattle.cases.specs.declared.outcomes.Told.{Told}

-- what is asked, if its kind is here
abbrev pub question_here : List ℕ → Result Question Refusal
question_here s = if strange_kind (kind_of (flags_in s)) then Err Kind else Ok (question_of s)

-- no part is over its limit
pub record Bounds (c : Case) : Type 0 where
  pub vectors : c.vectors ≤ 65536
  pub predicates : c.predicates ≤ 4096
  pub scalars : c.scalars ≤ 128
  pub flash : c.flash ≤ 131072
  pub flash_rights : c.flash_rights ≤ 64
  pub ram : c.ram ≤ 131072
  pub ram_rights : c.ram_rights ≤ 64
  pub blob : (carried c.question).blob ≤ 65536

-- how a lane is asked for, by its number
abbrev pub lane_kind : ℕ → Option Lane.Kind
lane_kind n = first_of ((eqb n 0 ⇒ Some Whole) ∷ (eqb n 1 ⇒ Some Single) ∷ (eqb n 2 ⇒ Some Double) ∷ []) None

-- what is told, as a report
abbrev pub report_in : Told → Report
report_in t = report_with t.number t.count t.element t.address

-- what the parts of a case are: a bench, two areas
module _ (p : Parts) where
  abbrev pub bench_by : Bench
  bench_by = record { vectors = p.vectors.now; scalars = listed (λ i. bytes_at p.scalars.now (8 * i) 8) 0 (length p.scalars.now / 8); ram = p.ram.now }

  abbrev pub areas_by : Areas
  areas_by = areas_from p.lent.map p.lent.flash.now p.lent.flash_rights.now p.ram.now p.lent.ram_rights.now

-- the outcome of a step of them, over the first bytes of what is lent for it
abbrev pub step_length : Parts → ℕ
step_length p = 25 + length p.vectors.now + length p.scalars.now

abbrev pub step_by : ℕ → Parts → List ℕ → List ℕ
step_by word p out = outcome_bytes (step_of (lent_of p.lent) word (bench_by p)) ++ drop (step_length p) out
