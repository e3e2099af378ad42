-- The part that was lent on is the destination, and comes back as the fill left it.
use Rattle.bench.proofs.Files.{in_file, destination_filled}
use Rattle.bench.proofs.quick.Replicas.replicate_at.Goals as goal

pub returns : goal.returns
returns c pred =
    let at = c.destination.ensures.is in
    destination_filled _ _ pred c.args.z.now _ _ _ _ (in_file c.args.self.lanes.plan c.args.j c.args.self.lanes.register_bytes at c.requires.1) (c.replicate.ensures pred) at
