-- What a caller of `step` lends, as the two records that the promise of a step speaks of. `lent_of` of steps reads the first off the struct.
use Rattle.std.specs.Prelude.{ℕ, List}
use Rattle.memory.specs.declared.Map.{Map}
use Rattle.steps.specs.Benches.{Lent, Bench}
use Rattle.steps.specs.declared.Settings.{Settings}

abbrev pub lent_from : Settings → List ℕ → Map → List ℕ → List ℕ → List ℕ → Lent
lent_from settings predicates map flash flash_rights ram_rights =
    record { settings = settings; predicates = predicates; map = map; flash = flash; flash_rights = flash_rights; ram_rights = ram_rights }

abbrev pub bench_of : List ℕ → List ℕ → List ℕ → Bench
bench_of vectors scalars ram = record { vectors = vectors; scalars = scalars; ram = ram }
