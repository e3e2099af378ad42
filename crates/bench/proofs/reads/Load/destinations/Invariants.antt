-- The invariant: the destinations so far are filled, and the file is else as it was.
use Rattle.std.proofs.Common.{◌≡◌}
use Rattle.steps.specs.Outcomes.{vectors_after}
use Rattle.bench.specs.Inside.Loads.{answers_to}
use Rattle.bench.proofs.reads.Load.destinations.Given as goal

abbrev pub invariant-loop-j : goal.invariant-loop-j
invariant-loop-j l = l.z ≡ vectors_after (answers_to l.self) l.self.lanes.plan l.self.lanes.pred.now l.self.lanes.register_bytes l.fn.z l.j
