-- The product is the element over and over, at each size.
use Rattle.std.proofs.Common.{refl, lit<}
use Rattle.bench.proofs.Repeats.{spreads_all}
use Rattle.bench.proofs.chunks.spread.Goals as goal

pub returns-in-B8 : goal.returns-in-B8
returns-in-B8 c = let e = c.element.ensures in rw (c.in-B8.is, ← e.value) (spreads_all _ 1 8 (lit< tt) refl e.few)

pub returns-in-B16 : goal.returns-in-B16
returns-in-B16 c = let e = c.element-in-B16.ensures in rw (c.in-B16.is, ← e.value) (spreads_all _ 2 4 (lit< tt) refl e.few)

pub returns-in-B32 : goal.returns-in-B32
returns-in-B32 c = let e = c.element-in-B32.ensures in rw (c.in-B32.is, ← e.value) (spreads_all _ 4 2 (lit< tt) refl e.few)
