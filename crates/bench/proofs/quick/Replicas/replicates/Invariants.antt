-- The invariant: the destinations so far are filled, and the file is else as it was.
use Rattle.std.proofs.Common.{◌≡◌, ℕ, List}
use Rattle.steps.specs.Outcomes.{vectors_after}
use Rattle.bench.specs.Inside.Quick.{answers_from}
use Rattle.bench.proofs.quick.Replicas.replicates.Given as goal

abbrev pub invariant-loop-j : goal.invariant-loop-j
invariant-loop-j l =
    (pred : List ℕ) → l.z ≡ vectors_after (answers_from l.self.stretch.now l.self.lanes.plan) l.self.lanes.plan pred l.self.lanes.register_bytes l.fn.z l.j
