-- a lane that is active is one of the first n
use Rattle.std.proofs.Common.{sym}
use Rattle.ground.proofs.Laws.{any_of}
use Rattle.bench.proofs.actives.Lanes.some_active.Goals as goal

pub returns-then-lane_active : goal.returns-then-lane_active
returns-then-lane_active c = sym (any_of _ _ _ c.loop-l-test.true (sym c.if-lane_active.ensures))
