-- What a host lends is lent under its own name, and what it is told are the numbers of document 01's table, each in its place.
use mathlib.Core.Path.{◌≡◌, refl, subst, sym}
use mathlib.Core.Bool.{Bool}
use mathlib.Core.Logic.{◌↔◌}
use Prim.Native.Nat.{ℕ}
use Rattle.steps.specs.Answers.{Report, report_with}
use Rattle.steps.specs.Benches.{Lent, Bench}
use Rattle.steps.specs.Demand1.{Given}
use Rattle.steps.proofs.Demand1.{demand_1_promise}
use Rattle.hosts.specs.Hosts.{settings_of, map_of, HostPromise}
use Rattle.hosts.specs.declared.StepNumbers.{StepNumbers}

-- "Vector length VL", "Switches: SIMD on, SVE on, F64MM present"
pub settings_lent : (vl : ℕ) (simd sve f64mm : Bool) → let s = settings_of vl simd sve f64mm in
    (s.vl ≡ vl) × (s.simd ≡ simd) × (s.sve ≡ sve) × (s.f64mm ≡ f64mm)
settings_lent vl simd sve f64mm = (refl, refl, refl, refl)

-- the starts of the two areas
pub starts_lent : (flash ram : ℕ) → ((map_of flash ram).flash.0 ≡ flash) × ((map_of flash ram).ram.0 ≡ ram)
starts_lent flash ram = (refl, refl)

-- number, count, element and address are those of the row that is given, and of no other
pub host_told : (l : Lent) (w : ℕ) (b : Bench) (t : StepNumbers) (l₁ : Lent) (b₁ : Bench) → HostPromise l w b t l₁ b₁
    → (q : Report) → Given l w b q ↔ (report_with t.number t.count t.element t.address ≡ q)
host_told l w b t l₁ b₁ p q =
    subst (λ (o : Report). Given l w b q ↔ (o ≡ q)) (sym p.told) ((demand_1_promise l w b p.result l₁ b₁ p.step).0 q)
