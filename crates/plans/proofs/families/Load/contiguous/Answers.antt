-- An immediate counts vectors as they lie in memory. It is written out, so that a wrong count dies here.
use Rattle.std.proofs.Common.{refl}
use Rattle.steps.specs.Plans.{spread_of}
use Rattle.plans.proofs.families.Load.contiguous.Goals as goal

pub returns : goal.returns
unfolding spread_of
returns c = rw (c.start.ensures, c.bytes.ensures, c.lanes-n.ensures) refl
