-- What it tells are the numbers of the step's result. It is written out, so that what is lent in another's place dies here.
use Rattle.hosts.proofs.kjolvast_step.Goals as goal

pub returns : goal.returns
returns c = record { result = _; told = c.into.ensures; step = c.step.ensures }
