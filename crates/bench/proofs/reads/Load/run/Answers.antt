-- Where the elements lie together, what is done with that stretch is what is done with memory.
use Rattle.std.proofs.Common.{refl, ap, ◌*◌}
use Rattle.bench.proofs.Together.{stretch_answers}
use Rattle.bench.proofs.Alike.{alike}
use Rattle.bench.proofs.reads.Load.run.Goals as goal

pub returns-in-Some : goal.returns-in-Some
returns-in-Some c =
    let p = c.args.self.lanes.plan in
    alike _ p _ _ c.args.z.now _ c.args.self.lanes.fits.sound.some
    (stretch_answers _ _ _ _ c.in-Some.ensures p refl (ap (λ k. p.elements * k) c.bytes.ensures)) c.from_stretch.ensures
