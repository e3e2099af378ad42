use Rattle.std.proofs.Common.{refl}
use Rattle.steps.specs.Outcomes.{vectors_after}
use Rattle.bench.proofs.Files.{next_after}
use Rattle.bench.proofs.quick.Replicas.replicates.Goals as goal

pub loop-j-init : goal.loop-j-init
unfolding vectors_after
loop-j-init c pred = next_after _ _ pred _ _ _ c.args.self.lanes.register_bytes 0 refl (c.replicate_at.ensures pred)

pub loop-j-preserved : goal.loop-j-preserved
loop-j-preserved c pred =
    next_after _ _ pred _ _ _ c.args.self.lanes.register_bytes c.loop-j.j (c.loop-j.invariant pred) (c.replicate_at-in-loop-j.ensures pred)
