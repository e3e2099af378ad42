-- The promises of the functions below `step`; those of the quick road stand in the files below this one. They serve proofs alone, and nothing
-- in them has to be believed: the promise of `step` is StepPromise of steps.
pub mod Stretches
pub mod Quick
pub mod Roads
pub mod Plans
pub mod Loads
use Rattle.std.specs.Prelude.{◌≡◌, ℕ, ◌<◌, ◌≤◌, List, Ok, length, slice_index}
use Rattle.ground.specs.Lists.{EachBelow}
use Rattle.memory.specs.Areas.{Areas}
use Rattle.steps.specs.Benches.{Lent, Bench}
use Rattle.steps.specs.Answers.{report_of}
use Rattle.steps.specs.Outcomes.{Outcome}
use Rattle.steps.specs.Step.{Prepared, at_stack, carried_out}
use Rattle.steps.specs.declared.Plan.{Plan}
use Rattle.steps.specs.declared.StepResult.{StepResult}

-- what a plan comes to at the stack rule
unfoldable pub stacked : Plan → Lent → Bench → Prepared
stacked p l b = at_stack l b.scalars (Ok p)

-- an accepted set-up ends as what was prepared ends, carried out
unfoldable pub EndsAs : (Lent → Bench → Prepared) → Lent → Bench → StepResult → Bench → Type 0
EndsAs q l b r after = ◌≡◌ {A = Outcome} (record { report = report_of r; lent = l; bench = after }) (carried_out l b (q l b))

-- zeros from a place on
pub record Zeroed (dst dst' : List ℕ) (from : ℕ) : Type 0 where
  pub long : length dst' ≡ length dst
  pub kept : (i : ℕ) → i < from → slice_index dst' i ≡ slice_index dst i
  pub zero : (i : ℕ) → from ≤ i → i < length dst → slice_index dst' i ≡ 0

-- bytes, as the types of what is lent hold them
pub record AreBytes (m : Areas) : Type 0 where
  pub flash : EachBelow 256 m.flash.bytes
  pub flash_rights : EachBelow 256 m.flash.rights
  pub ram : EachBelow 256 m.ram.bytes
  pub ram_rights : EachBelow 256 m.ram.rights
