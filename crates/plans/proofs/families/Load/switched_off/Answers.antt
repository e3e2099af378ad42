-- LD1R to LD4R ask the SIMD switch. It is written out, so that a switch that is not asked dies here.
use Rattle.std.proofs.Common.{refl}
use Rattle.plans.proofs.families.Load.switched_off.Goals as goal

pub returns-in-Replicate : goal.returns-in-Replicate
returns-in-Replicate c = rw c.in-Replicate.is refl
