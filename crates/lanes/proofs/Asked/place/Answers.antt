-- The sum is the definition's. It is written out, so that a wrong place dies here.
use Rattle.std.proofs.Common.{refl, sym}
use Rattle.lanes.proofs.Asked.place.Goals as goal

pub returns : goal.returns
returns c = (sym c.if-not-is_there.ensures, rw (c.from.ensures, c.from-2.ensures) refl)
