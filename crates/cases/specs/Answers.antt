-- What is answered to the bytes of a case, and what the lent bytes of the outcome then hold.
use Rattle.std.specs.Prelude.{if◌then◌else◌, ℕ, ◌≡◌, List, ◌++◌, ltb, length, drop, Result, Ok, Err}
use Rattle.steps.specs.Step.{step_of}
use Rattle.cases.specs.Heads.{opened_of}
use Rattle.cases.specs.Parts.{vectors_in, lent_in, bench_in, areas_in, case_bytes}
use Rattle.cases.specs.Outcomes.{outcome_bytes, window_bytes, outcome_length}
use Rattle.cases.specs.Windows.{address_told, lane_told}
use Rattle.cases.specs.declared.heads.Question.{Question}
use Rattle.cases.specs.declared.heads.Question.TheVariants.{Step, Address, Lane}
use Rattle.cases.specs.declared.heads.Case.{Case}
use Rattle.cases.specs.declared.heads.Refusal.{Refusal}
use Rattle.cases.specs.declared.heads.Refusal.TheVariants.{Ends, Room}
use Rattle.cases.specs.declared.heads.Opened.{Opened}
use Rattle.cases.specs.declared.Answered.{Answered}

pub record After : Type 0 where
  pub answer : Result Answered Refusal
  pub out : List ℕ

-- what a case asks: one step of what it lends, where an address lies, or what a lane holds
abbrev pub answer_to : List ℕ → Case → Question → List ℕ
answer_to s c Step = outcome_bytes (step_of (lent_in s c) c.word (bench_in s c))
answer_to s c (Address n) = window_bytes (address_told (areas_in s c) n)
answer_to s c (Lane n) = window_bytes (lane_told c.settings.vl (vectors_in s c) n)

abbrev pub answer_in : List ℕ → Case → List ℕ
answer_in s c = answer_to s c c.question

-- .. over the first bytes of what is lent for it
unfoldable pub outcome_in : List ℕ → Case → List ℕ → List ℕ
outcome_in s c out = answer_in s c ++ drop (outcome_length c) out

-- "A stream that ends inside a case": nothing is written for it. Nor is it where the outcome has no room.
unfoldable pub on_case : List ℕ → List ℕ → Case → After
on_case s out c =
    if ltb (length s) (case_bytes c) then record { answer = Err Ends; out = out }
    else if ltb (length out) (outcome_length c) then record { answer = Err Room; out = out }
    else record { answer = Ok (record { taken = case_bytes c; given = outcome_length c }); out = outcome_in s c out }

abbrev pub on_opened : List ℕ → List ℕ → Result Opened Refusal → After
on_opened s out (Err why) = record { answer = Err why; out = out }
on_opened s out (Ok o) = on_case s out o.case

unfoldable pub after_case : List ℕ → List ℕ → After
after_case s out = on_opened s out (opened_of s)

-- what `answer` promises of its result and of what it leaves
abbrev pub AnswerPromise : List ℕ → List ℕ → Result Answered Refusal → List ℕ → Type 0
AnswerPromise s out r out' = ◌≡◌ {A = After} (record { answer = r; out = out' }) (after_case s out)
