-- What is claimed of what a caller of `step` lends.
use Prim.Native.Nat.{ℕ}
use Rattle.bench.specs.Lends.{bench_of, lent_from}
use Rattle.memory.specs.declared.Map.{Map}
use Rattle.steps.specs.Benches.{lent_of}
use Rattle.steps.specs.declared.Lent as L
use Rattle.steps.specs.declared.Settings.{Settings}
use mathlib.Core.List.{List}
use mathlib.Core.Path.{◌≡◌}

-- What a caller lends is lent under its own name,
pub lent_parts : (s : Settings) (p : List ℕ) (m : Map) (flash flash_rights ram_rights : List ℕ)
    → let l = lent_from s p m flash flash_rights ram_rights in (l.settings ≡ s) × (l.predicates ≡ p) × (l.map ≡ m) × (l.flash ≡ flash)
    × (l.flash_rights ≡ flash_rights) × (l.ram_rights ≡ ram_rights)
lent_parts = Rattle.bench.proofs.Lends.lent_parts

-- of the struct that a step takes too,
pub lent_read : (lent : L.Lent)
    → lent_of lent ≡ lent_from lent.settings lent.predicates.now lent.map lent.flash.now lent.flash_rights.now lent.ram_rights.now
lent_read = Rattle.bench.proofs.Lends.lent_read

-- and so is what it may change.
pub bench_parts : (z x r : List ℕ) → let b = bench_of z x r in (b.vectors ≡ z) × (b.scalars ≡ x) × (b.ram ≡ r)
bench_parts = Rattle.bench.proofs.Lends.bench_parts
