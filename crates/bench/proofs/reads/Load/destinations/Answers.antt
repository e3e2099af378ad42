-- The part that was lent on is the destination, and comes back filled.
use Rattle.std.proofs.Common.{refl, ◌∙◌, arith}
use Rattle.steps.specs.Outcomes.{vectors_after}
use Rattle.bench.proofs.Files.{destinations_few, in_file, one_more}
use Rattle.bench.proofs.reads.Load.destinations.Goals as goal

pub loop-j-init : goal.loop-j-init
unfolding vectors_after
loop-j-init c = refl

pub destination-requires : goal.destination-requires
destination-requires c =
    let few = destinations_few c.args.self.lanes.plan c.args.self.lanes.fits.sound in
    omega arith

pub loop-j-preserved : goal.loop-j-preserved
loop-j-preserved c =
    let at = c.destination.ensures.is in
    one_more _ _ _ _ _ _ _ _ (in_file c.args.self.lanes.plan c.loop-j.j c.args.self.lanes.register_bytes at (c.loop-j.auto.z ∙ c.requires.z_len)) c.written.ensures at c.loop-j.invariant
