-- No two results meet the promises of the numbers as bytes.
use mathlib.Core.Path.{◌≡◌}
use mathlib.Core.List.{List}
use Prim.Native.Nat.{ℕ}
use Rattle.ground.specs.Lists.{NumberPromise, PutPromise}
use Rattle.ground.proofs.Laws.{only_one}

pub number_unique : (s : List ℕ) (at n a b : ℕ) → NumberPromise s at n a → NumberPromise s at n b → a ≡ b
number_unique s at n a b p q = only_one p.0 q.0

-- what `put` leaves
pub put_unique : (dst : List ℕ) (v : ℕ) (a b : List ℕ) → PutPromise dst v a → PutPromise dst v b → a ≡ b
put_unique dst v a b p q = only_one p q
