-- One turn of `number`'s loop, over any bytes: a byte more makes the number of a digit more.
use mathlib.Core.Path.{◌≡◌, sym}
use Prim.Native.Nat.{ℕ, ◌+◌, ◌*◌, ◌%◌, ◌^◌, ◌≤◌, ◌<◌}
use native.Mathlib.Nat.{zero-add, le_trans}
use native.Mathlib.Numerals.{add-one}
use native.Mathlib.Omega.{arith}
use lib.Pow.{shl_exact, pow_mono}
use Rattle.ground.specs.Lists.{little}
use Rattle.ground.proofs.Laws.{little_more, little_below, pow_bytes}

module _ (f : ℕ → ℕ) (small : (j : ℕ) → f j < 256) where
  -- n bytes make a number of 8 times n bits
  pub in_bits : (n : ℕ) → little f 0 n < 2 ^ (8 * n)
  in_bits n = rw (← pow_bytes) (little_below f 0 n (λ j _. small (0 + j)))

  module _ (i : ℕ) (more : i < 8) where
    pub turned : little f 0 i + (f i * 2 ^ (8 * i)) % 2 ^ 64 ≡ little f 0 (i + 1)
    turned =
        let shifted : (f i * 2 ^ (8 * i)) % 2 ^ 64 ≡ f i * 2 ^ (8 * i) = shl_exact 8 (8 * i) 64 (small i) (omega arith) in
        rw (shifted, ← pow_bytes, add-one) (rw (zero-add i) at (sym (little_more f 0 i)))

    pub in_word : little f 0 i + (f i * 2 ^ (8 * i)) % 2 ^ 64 < 2 ^ 64
    in_word = let room : 8 * (i + 1) ≤ 64 = omega arith in rw turned (le_trans (in_bits (i + 1)) (pow_mono room))
