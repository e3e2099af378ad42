-- Where nothing was read, the definition's register is zeros.
use Rattle.std.proofs.Common.{◌≡◌, arith}
use Rattle.bench.proofs.Files.{destinations_few}
use Rattle.bench.proofs.Nothing.{nothing_read}
use Rattle.bench.proofs.reads.Load.written.Goals as goal

pub fill-requires : goal.fill-requires
fill-requires c =
    let few = destinations_few c.args.self.lanes.plan c.args.self.lanes.fits.sound in
    let j = c.requires.j_bound in
    (omega arith, j.1)

pub returns-then-count-eq0 : goal.returns-then-count-eq0
returns-then-count-eq0 c =
    let none : c.args.count ≡ 0 = omega arith in
    nothing_read _ _ _ c.args.self.lanes.fits.sound.some (rw none at c.requires.ran_with) _ c.requires.j_bound.0 c.zeros.ensures
