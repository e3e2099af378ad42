-- A lane is put in after those before it, and none is left of a register of whole lanes.
use Rattle.std.proofs.Common.{◌≡◌, ◌%◌, length, arith}
use Rattle.ground.proofs.Fills.{all_filled}
use Rattle.ground.proofs.Sizes.{lane_room}
use Rattle.steps.specs.Outcomes.{register_of}
use Rattle.bench.proofs.Small.{whole}
use Rattle.bench.proofs.Digits.{lane_filled}
use Rattle.bench.proofs.reads.Load.fill.Goals as goal

pub loop-l-preserved : goal.loop-l-preserved
loop-l-preserved c =
    lane_filled _ _ _ _ c.bytes-width.ensures c.loop-l.invariant (lane_room (length c.args.dst.now) c.bytes-width.result c.loop-l.l (omega arith))
    _ c.lane_value.ensures _ c.put.ensures

pub returns : goal.returns
unfolding register_of
returns c =
    let w : length c.args.dst.now % 8 ≡ 0 = rw c.requires.1 c.args.self.lanes.fits.whole in
    all_filled c.loop-l.invariant (whole _ _ c.args.self.lanes.plan.lane c.bytes-width.ensures w c.loop-l-test.false)
