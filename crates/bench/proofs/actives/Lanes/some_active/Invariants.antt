-- The invariant: no lane so far is active.
use Rattle.std.proofs.Common.{◌≡◌, false}
use Rattle.ground.specs.Lists.{any_below}
use Rattle.steps.specs.Lanes.{is_active}
use Rattle.bench.proofs.actives.Lanes.some_active.Given as goal

abbrev pub invariant-loop-l : goal.invariant-loop-l
invariant-loop-l l = any_below (is_active l.self.plan l.self.pred.now) l.l ≡ false
