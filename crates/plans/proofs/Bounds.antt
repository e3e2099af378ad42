-- What keeps the arithmetic of a plan within its types: the registers of a word, and a signed number that counts blocks. And a sum is taken
-- modulo 2^64 once.
use Prim.Native.Nat.{ℕ, ◌+◌, ◌^◌, ◌≤◌}
use mathlib.Core.Path.{◌≡◌, subst, ◌∙◌}
use native.Mathlib.Omega.{arith}
use lib.IntN.{ℤ, pos, ◌*ℤ◌}
use mir.Syntax.{w64}
use mir.Val.{SFits, to_z, of_z}
use Rattle.std.proofs.Common.{unsigned_abs, Ok}
use Rattle.std.proofs.lemmas.Int.{to_z-of_z, to_z_pos, fits_signed_from_abs, fits_signed_mul}
use Rattle.memory.specs.Addresses.{wrap}
use Rattle.words.specs.Families.{read_of}
use Rattle.words.specs.declared.Insn.{Insn}
use Rattle.words.specs.Ranges.{InRange}
use Rattle.words.proofs.Ranges.{in_range}

pub wrap_once : (a b : ℕ) → wrap (a + wrap b) ≡ wrap (a + b)
wrap_once a b = omega arith

-- a word loads four registers at most
pub few_registers : (w : ℕ) (i : Insn) → read_of w ≡ Ok i → i.registers ≤ 4
few_registers w i e = (subst InRange e (in_range w)).few

-- what the machine makes of a signed number times b bytes
module _ (z : ℤ) (b : ℕ) (near : unsigned_abs z ≤ 2 ^ 32) (few : b ≤ 2048) where
  read : to_z w64 (of_z w64 z) *ℤ to_z w64 b ≡ z *ℤ pos b
  read = rw (to_z-of_z w64 z (fits_signed_from_abs w64 z (omega arith)), to_z_pos w64 b (omega arith))

  pub product_fits : SFits w64 (to_z w64 (of_z w64 z) *ℤ to_z w64 b)
  product_fits = rw read (fits_signed_mul w64 z (pos b) (2 ^ 32) 2048 near few (omega arith))

  pub product : to_z w64 (of_z w64 (to_z w64 (of_z w64 z) *ℤ to_z w64 b)) ≡ z *ℤ pos b
  product = to_z-of_z w64 _ product_fits ∙ read
