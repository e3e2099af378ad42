-- LD1R to LD4R fill a destination for each element, every other load its one destination.
use Rattle.std.proofs.Common.{◌+◌, ◌*◌, ◌≤◌, length, sym, refl}
use Rattle.ground.proofs.Fills.{part_length}
use Rattle.bench.proofs.Small.{slot}
use Rattle.bench.proofs.Own.{fill_in}
use Rattle.bench.proofs.Repeats.{replicates_in}
use Rattle.bench.proofs.Alike.{one_filled, each_filled}
use Rattle.bench.proofs.roads.from_stretch.Goals as goal

-- the bytes of an element and of the lanes that take it are the plan's; it is written out, so that a wrong size dies here
pub invariant_of-all : goal.invariant_of-all
invariant_of-all c = record { found = record { always = sym c.if-always.ensures; long = c.requires.0; size = c.bytes-element_bytes.ensures; filled = refl } }

pub returns-then-always : goal.returns-then-always
returns-then-always c = each_filled _ _ _ c.args.z.now _ (replicates_in c.args.lanes (sym c.if-always.ensures) c.requires.0) c.replicates.ensures refl

pub returns : goal.returns
returns c =
    let p = c.args.lanes.plan in
    let fits : p.target * c.args.lanes.register_bytes + c.args.lanes.register_bytes ≤ length c.args.z.now = rw c.requires.1 (slot p.target 32 c.args.lanes.register_bytes c.args.lanes.fits.sound.target) in
    let one = fill_in c.args.lanes (sym c.if-always.ensures) (c.requires.0, refl) in
    one_filled _ _ _ c.args.z.now c.args.lanes.register_bytes one (rw (part_length c.args.z.now (p.target * c.args.lanes.register_bytes) c.args.lanes.register_bytes fits) at c.fill-count.ensures) refl
