-- `stepped` meets its contract: the vector file and the scalars are those that are lent.
use Rattle.std.proofs.Common.{◌≡◌, ◌/◌, length, arith}
use Rattle.cases.proofs.parts.stepped.Goals as goal

pub returns : goal.returns
returns c =
    let n : length c.args.x.now ≡ length c.args.parts.scalars.now / 8 = omega (arith, c.requires) in
    let v = c.copy_from_slice.ensures.after in
    let x = rw n at c.numbers.ensures in rw (v, x) at c.step.ensures
