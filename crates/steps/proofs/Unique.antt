-- A step's result is told by the paper's numbers: no two different results have the same ones; and the functions that tell them have
-- one answer each.
use Prim.Native.Nat.{ℕ}
use mathlib.Core.Path.{◌≡◌, refl, sym, ◌∙◌, ap}
use mathlib.Core.Bool.{Bool}
use mathlib.Core.List.{[], ◌∷◌, map}
use lib.ListN.{get_or}
use Rattle.ground.proofs.Laws.{only_one}
use Rattle.memory.specs.declared.Address.{Address}
use Rattle.memory.specs.declared.Fault.TheVariants.{Nowhere, Denied}
use Rattle.memory.proofs.Unique.{address_unique as same_address}
use Rattle.steps.specs.Benches.{AllowedPromise}
use Rattle.steps.specs.Answers.{number_of, element_of, address_of, Report, report_with, report_of}
use Rattle.steps.specs.Answers.{AnswerNumberPromise, AnswerElementPromise, AnswerAddressPromise}
use Rattle.steps.specs.declared.StepResult.{StepResult}
use Rattle.steps.specs.declared.Answer.{Answer}
use Rattle.steps.specs.declared.Answer.TheVariants.{Ran, SetUp, Outside, Undefined, SwitchedOff, Stack, Faulted}

-- the answer of a number, an element and an address
unfoldable pub answer_of : ℕ → ℕ → ℕ → Answer
answer_of n e a =
    get_or (Ran ∷ SetUp ∷ Outside ∷ Undefined ∷ SwitchedOff ∷ Stack ∷ Faulted Nowhere (record { 0 = a }) e ∷ Faulted Denied (record { 0 = a }) e ∷ []) n Ran

back : (a : Answer) → answer_of (number_of a) (element_of a) (address_of a) ≡ a
unfolding answer_of
back Ran = refl
back SetUp = refl
back Outside = refl
back Undefined = refl
back SwitchedOff = refl
back Stack = refl
back (Faulted Nowhere a e) = refl
back (Faulted Denied a e) = refl

-- the result of a report
unfoldable pub result_of : Report → StepResult
result_of r = record { count = r.count; answer = answer_of r.number r.element r.address }

again : (r : StepResult) → result_of (report_of r) ≡ r
unfolding result_of
again r = λ i. record { count = r.count; answer = back r.answer i }

pub result_unique : (r s : StepResult) → report_of r ≡ report_of s → r ≡ s
result_unique r s e = sym (again r) ∙ ap result_of e ∙ again s

-- document 01's table, in its order: 0 ran, 1 set-up, 2 outside, 3 undefined, 4 switched off, 5 stack, 6 no memory, 7 denied; "Both carry
-- its address and its lane. Other answers carry 0 for both."
pub answers_told : (n : ℕ) (a : Address) (e : ℕ)
    → map (λ x. report_of (record { count = n; answer = x }))
    (Ran ∷ SetUp ∷ Outside ∷ Undefined ∷ SwitchedOff ∷ Stack ∷ Faulted Nowhere a e ∷ Faulted Denied a e ∷ [])
    ≡ report_with 0 n 0 0 ∷ report_with 1 n 0 0 ∷ report_with 2 n 0 0 ∷ report_with 3 n 0 0 ∷ report_with 4 n 0 0 ∷ report_with 5 n 0 0 ∷ report_with 6 n e
    a.0 ∷ report_with 7 n e a.0 ∷ []
answers_told n a e = refl

pub allowed_unique : (vl : ℕ) (r s : Bool) → AllowedPromise vl r → AllowedPromise vl s → r ≡ s
allowed_unique vl r s p q = only_one p q

module _ (a : Answer) where
  pub number_unique : (m n : ℕ) → AnswerNumberPromise a m → AnswerNumberPromise a n → m ≡ n
  number_unique m n p q = only_one p q

  pub element_unique : (m n : ℕ) → AnswerElementPromise a m → AnswerElementPromise a n → m ≡ n
  element_unique m n p q = only_one p q

  pub address_unique : (x y : Address) → AnswerAddressPromise a x → AnswerAddressPromise a y → x ≡ y
  address_unique x y p q = same_address x y p q
