-- What is claimed of a step beside the demands: its promise leaves nothing open and can be met; its answers; and what definition and statement share.
use Prim.Native.Nat.{◌*◌, ℕ}
use Rattle.memory.specs.declared.Address.{Address}
use Rattle.memory.specs.declared.Fault.TheVariants.{Denied, Nowhere}
use Rattle.steps.specs.Answers.{AnswerAddressPromise, AnswerElementPromise, AnswerNumberPromise, report_of, report_with}
use Rattle.steps.specs.Benches.{AllowedPromise, Bench, InTypes, Lent, areas_in, is_accepted, lent_of}
use Rattle.steps.specs.Demand1.{OnAs, WideAs}
use Rattle.steps.specs.Said.{Accepted}
use Rattle.steps.specs.Step.{StepPromise, is_wide, step_of, switched_on}
use Rattle.steps.specs.Terms.{block_bytes, scalar}
use Rattle.steps.specs.declared.Answer.{Answer}
use Rattle.steps.specs.declared.Answer.TheVariants.{Faulted, Outside, Ran, SetUp, Stack, SwitchedOff, Undefined}
use Rattle.steps.specs.declared.Lent as L
use Rattle.steps.specs.declared.StepResult.{StepResult}
use Rattle.words.specs.declared.Shape.{Shape}
use lib.ListN.{get_or}
use mathlib.Core.Bool.{Bool, false, true}
use mathlib.Core.List.{List, [], ◌∷◌, map}
use mathlib.Core.Logic.{◌↔◌}
use mathlib.Core.Path.{◌≡◌}

-- Two outcomes that meet it are the same result, and the same bench to the last byte and number.
pub promise_unique : (l : Lent) (w : ℕ) (b : Bench) (r r' : StepResult) (l₁ l₂ : Lent) (b₁ b₂ : Bench) → StepPromise l w b r l₁ b₁
    → StepPromise l w b r' l₂ b₂ → (r ≡ r') × (l₁ ≡ l₂) × (b₁ ≡ b₂)
promise_unique = Rattle.steps.proofs.Promise.promise_unique

-- And there is one, whatever comes in.
pub promise_met : (l : Lent) (w : ℕ) (b : Bench) → InTypes l w b → (r : StepResult) × StepPromise l w b r (step_of l w b).lent (step_of l w b).bench
promise_met = Rattle.steps.proofs.Promise.promise_met

pub accepted_exactly : (l : Lent) (b : Bench) → (is_accepted l b ≡ true) ↔ Accepted l b
accepted_exactly = Rattle.steps.proofs.Accepts.accepted_exactly

-- What a caller lends is lent under its own name.
pub lent_parts : (lent : L.Lent) → let l = lent_of lent in (l.settings ≡ lent.settings) × (l.predicates ≡ lent.predicates.now) × (l.map ≡ lent.map)
    × (l.flash ≡ lent.flash.now) × (l.flash_rights ≡ lent.flash_rights.now) × (l.ram_rights ≡ lent.ram_rights.now)
lent_parts = Rattle.steps.proofs.Terms.lent_parts

-- The areas that the statements speak of are those lent.
pub lent_areas : (l : Lent) (b : Bench)
    → areas_in l b
    ≡ record {
      flash = record { start = l.map.flash.0; bytes = l.flash; rights = l.flash_rights };
      ram = record { start = l.map.ram.0; bytes = b.ram; rights = l.ram_rights };
    }
lent_areas = Rattle.steps.proofs.Terms.lent_areas

-- "33 numbers of 64 bits: X0 to X30, SP, PC": number n is the n-th, from 0
pub scalar_said : (x : List ℕ) (n : ℕ) → scalar x n ≡ get_or x n 0
scalar_said = Rattle.steps.proofs.Terms.scalar_said

-- "a block of 128 or 256 bits"
pub block_said : (8 * block_bytes false ≡ 128) × (8 * block_bytes true ≡ 256)
block_said = Rattle.steps.proofs.Terms.block_said

-- an answer's number, count, element and address
pub report_parts : (n c e a : ℕ) → let r = report_with n c e a in (r.number ≡ n) × (r.count ≡ c) × (r.element ≡ e) × (r.address ≡ a)
report_parts = Rattle.steps.proofs.Terms.report_parts

pub wide_exactly : (s : Shape) → (is_wide s ≡ true) ↔ WideAs s
wide_exactly = Rattle.steps.proofs.Tests.wide_exactly

pub on_exactly : (l : Lent) (s : Shape) → (switched_on l.settings s ≡ true) ↔ OnAs s l
on_exactly = Rattle.steps.proofs.Tests.on_exactly

-- document 01's table, in its order: 0 ran, 1 set-up, 2 outside, 3 undefined, 4 switched off, 5 stack, 6 no memory, 7 denied; "Both carry
-- its address and its lane. Other answers carry 0 for both."
pub answers_told : (n : ℕ) (a : Address) (e : ℕ)
    → map (λ x. report_of (record { count = n; answer = x }))
    (Ran ∷ SetUp ∷ Outside ∷ Undefined ∷ SwitchedOff ∷ Stack ∷ Faulted Nowhere a e ∷ Faulted Denied a e ∷ [])
    ≡ report_with 0 n 0 0 ∷ report_with 1 n 0 0 ∷ report_with 2 n 0 0 ∷ report_with 3 n 0 0 ∷ report_with 4 n 0 0 ∷ report_with 5 n 0 0
    ∷ report_with 6 n e a.0 ∷ report_with 7 n e a.0 ∷ []
answers_told = Rattle.steps.proofs.Unique.answers_told

pub allowed_unique : (vl : ℕ) (r s : Bool) → AllowedPromise vl r → AllowedPromise vl s → r ≡ s
allowed_unique = Rattle.steps.proofs.Unique.allowed_unique

-- The functions that tell an answer, and whether a length is allowed, have one answer each.
pub number_unique : (a : Answer) → (m n : ℕ) → AnswerNumberPromise a m → AnswerNumberPromise a n → m ≡ n
number_unique = Rattle.steps.proofs.Unique.number_unique

pub element_unique : (a : Answer) → (m n : ℕ) → AnswerElementPromise a m → AnswerElementPromise a n → m ≡ n
element_unique = Rattle.steps.proofs.Unique.element_unique

pub address_unique : (a : Answer) → (x y : Address) → AnswerAddressPromise a x → AnswerAddressPromise a y → x ≡ y
address_unique = Rattle.steps.proofs.Unique.address_unique
