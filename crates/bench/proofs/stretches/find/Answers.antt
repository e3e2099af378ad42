-- What lies together in flash, or in RAM, a load finds there.
use Rattle.std.proofs.lemmas.Option.{IfSome_then}
use Rattle.memory.specs.Said.{in_flash, in_ram}
use Rattle.bench.proofs.Together.{all_together}
use Rattle.bench.proofs.stretches.find.Goals as goal

pub returns-in-Some : goal.returns-in-Some
returns-in-Some c = all_together _ c.requires.areas_accepted in_flash c.in-Some.ensures

pub returns-in-None : goal.returns-in-None
returns-in-None c =
    IfSome_then _ c.in_area-in-None.ensures (λ x w. all_together _ c.requires.areas_accepted in_ram w)
