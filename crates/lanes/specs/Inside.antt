-- What the functions inside the crate ask of their callers. This file serves proofs alone, and nothing in it has to be believed: the promise of
-- `show` is `ShowPromise`.
use Rattle.std.specs.Prelude.{ℕ, ◌^◌, ◌<◌, ◌≡◌, true}
use Rattle.lanes.specs.Lanes.{width_fits}
use Rattle.lanes.specs.declared.Kind.{Kind}

-- the bits are those of a lane of a width that fits
pub record Fitting (kind : Kind) (width bits : ℕ) : Type 0 where
  pub fits : width_fits kind width ≡ true
  pub below : bits < 2 ^ width
