-- "When the bench says no": the numbers of the scope of work, for each case of the answer.
use Rattle.std.specs.Prelude.{ℕ, ◌≡◌}
use Rattle.steps.specs.declared.Answer.{Answer}
use Rattle.words.specs.declared.NotALoad.{NotALoad}
use Rattle.words.specs.declared.NotALoad.TheVariants as N
use Rattle.memory.specs.declared.Address.{Address}
use Rattle.memory.specs.declared.Fault.{Fault}
use Rattle.memory.specs.declared.Fault.TheVariants.{Nowhere, Denied}
use Rattle.steps.specs.declared.Answer.TheVariants.{Ran, SetUp, Outside, Undefined, SwitchedOff, Stack, Faulted}
use Rattle.steps.specs.declared.StepResult.{StepResult}

-- a byte in neither area, and a byte in a page without the read right
abbrev pub fault_number : Fault → ℕ
fault_number Nowhere = 6
fault_number Denied = 7

-- the answer that a word earns which is no load: 2 where no row has it, 3 where its row leaves it undefined
abbrev pub earned_by : NotALoad → Answer
earned_by N.Outside = Outside
earned_by N.Undefined = Undefined

abbrev pub number_of : Answer → ℕ
number_of Ran = 0
number_of SetUp = 1
number_of Outside = 2
number_of Undefined = 3
number_of SwitchedOff = 4
number_of Stack = 5
number_of (Faulted f a e) = fault_number f

-- "Both carry its address and its lane. Other answers carry 0 for both."
abbrev pub element_of : Answer → ℕ
element_of (Faulted f a e) = e
element_of other = 0

abbrev pub address_of : Answer → ℕ
address_of (Faulted f a e) = a.0
address_of other = 0

-- what `Answer::number` promises: the answer's number
abbrev pub AnswerNumberPromise : Answer → ℕ → Type 0
AnswerNumberPromise a r = r ≡ number_of a

-- what `Answer::element` promises: the element that the answer carries
abbrev pub AnswerElementPromise : Answer → ℕ → Type 0
AnswerElementPromise a r = r ≡ element_of a

-- what `Answer::address` promises: the address that the answer carries
abbrev pub AnswerAddressPromise : Answer → Address → Type 0
AnswerAddressPromise a r = r.0 ≡ address_of a

-- what a step tells, in those numbers
pub record Report : Type 0 where
  pub number : ℕ
  pub count : ℕ
  pub element : ℕ
  pub address : ℕ

abbrev pub report_with : ℕ → ℕ → ℕ → ℕ → Report
report_with n c e a = record { number = n; count = c; element = e; address = a }

-- a refusal that reads nothing
abbrev pub refusal_report : ℕ → Report
refusal_report n = report_with n 0 0 0

abbrev pub report_of : StepResult → Report
report_of r = report_with (number_of r.answer) r.count (element_of r.answer) (address_of r.answer)
