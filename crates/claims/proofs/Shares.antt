-- What is claimed of shares.
use Rattle.shares.specs.Shares.{CountPromise}
use Rattle.shares.specs.declared.Share.{Share}
use mathlib.Core.Bool.{Bool}
use mathlib.Core.Path.{◌≡◌}

pub count_unique : (s : Share) (agrees : Bool) (a b : Share) → CountPromise s agrees a → CountPromise s agrees b → a ≡ b
count_unique = Rattle.shares.proofs.Unique.count_unique
