-- Where the other tests hold, the last one decides. It is written out, so that another last test dies here.
use Rattle.std.proofs.Common.{rules, ◌≡◌, ◌/◌, ltb, length}
use Rattle.lanes.specs.Lanes.{lane_there}
use Rattle.lanes.proofs.Asked.is_there.Goals as goal

pub returns-then-self-le31 : goal.returns-then-self-le31
unfolding lane_there
returns-then-self-le31 c =
    let s = c.args.self in
    let last : ltb s.lane (s.vl / s.width) ≡ lane_there s.vl (length c.args.z.now) s.register s.kind s.width s.lane = search rules in
    rw c.from.ensures last
