-- What it is answered is what it answers. It is written out, so that a wrong argument dies here.
use Rattle.hosts_c.proofs.kjolvast_step.Goals as goal

pub returns : goal.returns
returns c = c.kjolvast_step.ensures
