-- What a host lends as numbers, and what it is promised: the promise of a step, told in numbers.
use Rattle.std.specs.Prelude.{ℕ, ◌≡◌, Bool}
use Rattle.memory.specs.declared.Map.{Map}
use Rattle.steps.specs.declared.Settings.{Settings}
use Rattle.steps.specs.Benches.{Lent, Bench}
use Rattle.steps.specs.Answers.{Report, report_with, report_of}
use Rattle.steps.specs.Step.{StepPromise}
use Rattle.steps.specs.declared.StepResult.{StepResult}
use Rattle.hosts.specs.declared.StepNumbers.{StepNumbers}

abbrev pub settings_of : ℕ → Bool → Bool → Bool → Settings
settings_of vl simd sve f64mm = record { vl = vl; simd = simd; sve = sve; f64mm = f64mm }

abbrev pub map_of : ℕ → ℕ → Map
map_of flash ram = record { flash = record { 0 = flash }; ram = record { 0 = ram } }

abbrev pub report_in : StepNumbers → Report
report_in t = report_with t.number t.count t.element t.address

-- what a host is promised of one step: the numbers it is told are those of a result that meets, with the bench as it is left, the promise of a step
pub record HostPromise (l : Lent) (w : ℕ) (b : Bench) (t : StepNumbers) (l' : Lent) (b' : Bench) : Type 0 where
  pub result : StepResult
  pub told : report_in t ≡ report_of result
  pub step : StepPromise l w b result l' b'
