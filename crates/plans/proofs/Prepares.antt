-- What `prepare` tells: with an allowed length what is planned, and that plan is sound; and no two results meet its promise.
use mathlib.Core.Path.{◌≡◌, refl, subst}
use mathlib.Core.Bool.{true, false, not, ◌&&◌}
use mathlib.Core.List.{List}
use Prim.Native.Nat.{ℕ}
use lib.Dec.{ltb}
use Rattle.ground.proofs.Laws.{only_one, if_cases}
use Rattle.words.specs.Families.{read_of}
use Rattle.words.specs.declared.Insn.{Insn}
use Rattle.words.specs.Ranges.{InsnInRange, InRange}
use Rattle.words.proofs.Ranges.{in_range}
use Rattle.steps.specs.Benches.{is_length_allowed}
use Rattle.steps.specs.Answers.{number_of}
use Rattle.steps.specs.Plans.{plan_of}
use Rattle.steps.specs.Said.{LengthAllowed}
use Rattle.steps.specs.Inside.{PlanInRange}
use Rattle.steps.specs.Insns.{Decoded, Ok, Err}
use Rattle.steps.specs.Step.{Planned, is_wide, switched_on, refusals, planned_load, planned_by, planned_of}
use Rattle.steps.specs.declared.Answer.{Answer}
use Rattle.steps.specs.declared.Answer.TheVariants.{SetUp}
use Rattle.steps.specs.declared.Settings.{Settings}
use Rattle.steps.specs.declared.Plan.{Plan}
use Rattle.steps.proofs.Plans.{plan_in_range}
use Rattle.plans.specs.Prepares.{planned_for, PreparePromise}

pub prepare_unique : (s : Settings) (x : List ℕ) (w : ℕ) (q r : Planned) → PreparePromise s x w q → PreparePromise s x w r → q ≡ r
prepare_unique s x w q r e h = only_one e h

pub allowed_planned : (s : Settings) (x : List ℕ) (w : ℕ) → is_length_allowed s.vl ≡ true → planned_for s x w ≡ planned_of s x w
unfolding planned_for
allowed_planned s x w h = rw h

-- "VL not allowed" earns 1
pub not_allowed : (s : Settings) (x : List ℕ) (w : ℕ) → is_length_allowed s.vl ≡ false
    → (a : Answer) × (planned_for s x w ≡ Err a) × (number_of a ≡ 1)
unfolding planned_for
not_allowed s x w h = (SetUp, rw h, refl)

-- a fact of the plan of every load that is not refused holds of the plan of every word that has one
abbrev Holding : (Plan → Type 0) → Planned → Type 0
Holding P (Err a) = Unit {0}
Holding P (Ok p) = P p

module _ (s : Settings) (x : List ℕ) (P : Plan → Type 0)
    (each : (i : Insn) → InsnInRange i → (is_wide i.shape && ltb s.vl 256) ≡ false → P (plan_of s.vl x i)) where
  of_load : (i : Insn) → InsnInRange i → Holding P (planned_load s x i)
  unfolding planned_load refusals
  of_load i h =
      if_cases (Holding P) (is_wide i.shape && not s.f64mm) _ _ (λ _. tt)
      (λ _.
      if_cases (Holding P) (not (switched_on s i.shape)) _ _ (λ _. tt)
      (λ _. if_cases (Holding P) (is_wide i.shape && ltb s.vl 256) _ _ (λ _. tt) (λ long. each i h long)))

  of_word : (d : Decoded) → InRange d → Holding P (planned_by s x d)
  of_word (Err why) h = tt
  of_word (Ok i) h = of_load i h

  pub planned_each : (w : ℕ) (p : Plan) → planned_of s x w ≡ Ok p → P p
  unfolding planned_of
  planned_each w p e = subst (Holding P) e (of_word (read_of w) (in_range w))

-- a plan, where there is one, is sound
pub planned_in_range : (s : Settings) (x : List ℕ) → LengthAllowed s.vl → (w : ℕ) (p : Plan) → planned_of s x w ≡ Ok p → PlanInRange p
planned_in_range s x allowed = planned_each s x PlanInRange (λ i h _. plan_in_range s.vl x allowed i h i.shape h.shape)
