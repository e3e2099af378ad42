-- What is claimed of what a word is about to do.
use Prim.Native.Nat.{ℕ}
use Rattle.plans.specs.Prepares.{PreparePromise}
use Rattle.steps.specs.Step.{Planned}
use Rattle.steps.specs.declared.Settings.{Settings}
use mathlib.Core.List.{List}
use mathlib.Core.Path.{◌≡◌}

-- The contract of `prepare` leaves one answer.
pub prepare_unique : (s : Settings) (x : List ℕ) (w : ℕ) (q r : Planned) → PreparePromise s x w q → PreparePromise s x w r → q ≡ r
prepare_unique = Rattle.plans.proofs.Prepares.prepare_unique
