-- The invariant: the lanes so far hold what the definition has there.
use Rattle.std.proofs.Common.{length}
use Rattle.ground.proofs.Fills.{Filled}
use Rattle.steps.specs.Outcomes.{register_byte}
use Rattle.bench.specs.Inside.Loads.{answers_to}
use Rattle.bench.proofs.reads.Load.fill.Given as goal

abbrev pub invariant-loop-l : goal.invariant-loop-l
invariant-loop-l l = Filled (register_byte (answers_to l.self) l.self.lanes.plan l.self.lanes.pred.now l.j) l.width (length l.fn.dst) l.dst l.l
