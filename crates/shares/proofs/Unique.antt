-- No two shares meet the promise of counting.
use Rattle.std.proofs.Common.{◌≡◌, Bool, sym, ◌∙◌}
use Rattle.shares.specs.Shares.{CountPromise}
use Rattle.shares.specs.declared.Share.{Share}

pub count_unique : (s : Share) (agrees : Bool) (a b : Share) → CountPromise s agrees a → CountPromise s agrees b → a ≡ b
count_unique s agrees a b p q = p ∙ sym q
