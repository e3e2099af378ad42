-- The invariant: the walk over what is left goes on from the count so far (`SoFar`).
use Rattle.steps.specs.Lanes.{wanted}
use Rattle.bench.specs.Inside.Loads.{answers_to}
use Rattle.bench.proofs.Turns.{SoFar}
use Rattle.bench.proofs.reads.Load.survey.Given as goal

abbrev pub invariant-loop-e : goal.invariant-loop-e
invariant-loop-e l =
    SoFar (wanted l.self.lanes.plan l.self.lanes.pred.now) (answers_to l.self) l.self.lanes.plan.elements l.count l.e
