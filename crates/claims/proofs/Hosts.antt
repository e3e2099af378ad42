-- What is claimed of a step for a host.
use Prim.Native.Nat.{ℕ}
use Rattle.hosts.specs.Hosts.{HostPromise, map_of, settings_of}
use Rattle.hosts.specs.declared.StepNumbers.{StepNumbers}
use Rattle.steps.specs.Answers.{Report, report_with}
use Rattle.steps.specs.Benches.{Bench, Lent}
use Rattle.steps.specs.Demand1.{Given}
use mathlib.Core.Bool.{Bool}
use mathlib.Core.Logic.{◌↔◌}
use mathlib.Core.Path.{◌≡◌}

-- "Vector length VL", "Switches: SIMD on, SVE on, F64MM present"
pub settings_lent : (vl : ℕ) (simd sve f64mm : Bool) → let s = settings_of vl simd sve f64mm in (s.vl ≡ vl) × (s.simd ≡ simd) × (s.sve ≡ sve)
    × (s.f64mm ≡ f64mm)
settings_lent = Rattle.hosts.proofs.Told.settings_lent

-- the starts of the two areas
pub starts_lent : (flash ram : ℕ) → ((map_of flash ram).flash.0 ≡ flash) × ((map_of flash ram).ram.0 ≡ ram)
starts_lent = Rattle.hosts.proofs.Told.starts_lent

-- number, count, element and address are those of the row that is given, and of no other
pub host_told : (l : Lent) (w : ℕ) (b : Bench) (t : StepNumbers) (l₁ : Lent) (b₁ : Bench) → HostPromise l w b t l₁ b₁ → (q : Report) → Given l w b q
    ↔ (report_with t.number t.count t.element t.address ≡ q)
host_told = Rattle.hosts.proofs.Told.host_told

pub host_unique : (l : Lent) (w : ℕ) (b : Bench) (t t' : StepNumbers) (l₁ l₂ : Lent) (b₁ b₂ : Bench) → HostPromise l w b t l₁ b₁
    → HostPromise l w b t' l₂ b₂ → (t ≡ t') × (l₁ ≡ l₂) × (b₁ ≡ b₂)
host_unique = Rattle.hosts.proofs.Unique.host_unique
