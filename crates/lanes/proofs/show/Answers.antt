-- Where a place is told the lane lies within the file, and the bytes there make a number of its width.
use Rattle.std.proofs.Common.{arith}
use Rattle.lanes.specs.Lanes.{shown_of}
use Rattle.lanes.proofs.Tests.{there_exactly}
use Rattle.lanes.proofs.Places.{gathered, lane_fitting}
use Rattle.lanes.proofs.show.Goals as goal

pub returns-in_err-at : goal.returns-in_err-at
unfolding shown_of
returns-in_err-at c =
    record { came = λ k. omega (arith, c.type_inv.z k); shown = rw (c.in_err-at.ensures, c.from_residual.ensures) }

pub shown-requires : goal.shown-requires
shown-requires c =
    let told = c.in_ok-at.ensures in
    let there = (there_exactly _ c.args.z.now _ _ _ _).0 told.0 in
    rw (gathered there told.1 c.number-bits.ensures.0) (lane_fitting there (λ k. omega (arith, c.type_inv.z k)))

pub returns : goal.returns
unfolding shown_of
returns c =
    let told = c.in_ok-at.ensures in
    let there = (there_exactly _ c.args.z.now _ _ _ _).0 told.0 in
    record {
      came = λ k. omega (arith, c.type_inv.z k);
      shown = rw (told.0, c.shown.ensures, gathered there told.1 c.number-bits.ensures.0);
    }
