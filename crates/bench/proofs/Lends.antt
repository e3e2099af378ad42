-- What a caller lends is lent under its own name, and the record of what no step changes is that of the struct.
use Rattle.std.proofs.Common.{◌≡◌, ℕ, List, refl}
use Rattle.memory.specs.declared.Map.{Map}
use Rattle.steps.specs.Benches.{lent_of}
use Rattle.steps.specs.declared.Lent as L
use Rattle.steps.specs.declared.Settings.{Settings}
use Rattle.bench.specs.Lends.{lent_from, bench_of}

pub lent_parts : (s : Settings) (p : List ℕ) (m : Map) (flash flash_rights ram_rights : List ℕ) → let l = lent_from s p m flash flash_rights ram_rights in
    (l.settings ≡ s) × (l.predicates ≡ p) × (l.map ≡ m) × (l.flash ≡ flash) × (l.flash_rights ≡ flash_rights) × (l.ram_rights ≡ ram_rights)
lent_parts s p m flash flash_rights ram_rights = (refl, refl, refl, refl, refl, refl)

pub lent_read : (lent : L.Lent)
    → lent_of lent ≡ lent_from lent.settings lent.predicates.now lent.map lent.flash.now lent.flash_rights.now lent.ram_rights.now
lent_read lent = refl

pub bench_parts : (z x r : List ℕ) → let b = bench_of z x r in (b.vectors ≡ z) × (b.scalars ≡ x) × (b.ram ≡ r)
bench_parts z x r = (refl, refl, refl)
