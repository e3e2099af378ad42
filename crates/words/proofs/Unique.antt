-- The promises of `read` and `Dtype::of` leave one answer each: no two different ones meet them.
use Prim.Native.Nat.{ℕ}
use mathlib.Core.Path.{◌≡◌}
use Rattle.ground.proofs.Laws.{only_one}
use Rattle.words.specs.Families.{ReadPromise}
use Rattle.words.specs.Dtypes.{DtypePromise}
use Rattle.words.specs.Insns.{Dtype, Decoded}

pub dtype_unique : (d : ℕ) (r s : Dtype) → DtypePromise d r → DtypePromise d s → r ≡ s
dtype_unique d r s p q = only_one p q

pub read_unique : (w : ℕ) (r s : Decoded) → ReadPromise w r → ReadPromise w s → r ≡ s
read_unique w r s p q = only_one p q
