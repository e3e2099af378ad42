-- A float's bits, once over the format: which are a NaN's, and that what is shown has exactly the bits that it was made of.
use mathlib.Core.Path.{◌≡◌, refl, sym, ◌∙◌}
use mathlib.Core.Bool.{true, false, not}
use Rattle.std.specs.Prelude.{Some}
use Prim.Native.Nat.{ℕ, ◌*◌, ◌%◌, ◌<◌, ◌≤◌}
use lib.Dec.{T}
use lib.Ieee.{Float, Format, binary32, binary64, of_bits, to_bits, nan_bits, ones, hid, top}
use lib.Ieee.Bits.{nan_bits_above, nan_bits_is, to_bits-of_bits}
use borrow.Author.Tests.{lt-ltb, le-ltb}
use Rattle.ground.proofs.Laws.{if_cases}
use Rattle.lanes.specs.Lanes.{float_case, float_of, bits_of}
use Rattle.lanes.specs.declared.Shown.TheVariants.{Whole}

pub case_bits : (f : Format) (x : Float) → bits_of (Some (float_case f x)) ≡ to_bits f x
unfolding bits_of
case_bits binary32 x = refl
case_bits binary64 x = refl

module _ (f : Format) (n : ℕ) where
  pub of_nan : nan_bits f n ≡ true → float_of f n ≡ Some (Whole n)
  unfolding float_of
  of_nan e = rw e

  pub of_float : nan_bits f n ≡ false → float_of f n ≡ Some (float_case f (of_bits f n))
  unfolding float_of
  of_float e = rw e

  -- above the bits of infinity, whatever the sign, lie a NaN's ..
  pub above_infinity : ones f * hid f < n % top f → Some (Whole n) ≡ float_of f n
  above_infinity h = sym (of_nan (nan_bits_above f n ∙ lt-ltb _ _ h))

  -- .. and at or below them none
  no_nan : n % top f ≤ ones f * hid f → nan_bits f n ≡ false
  no_nan h = nan_bits_above f n ∙ le-ltb _ _ h

  pub to_infinity : n % top f ≤ ones f * hid f → Some (float_case f (of_bits f n)) ≡ float_of f n
  to_infinity h = sym (of_float (no_nan h))

  pub plain : n % top f ≤ ones f * hid f → T (not (nan_bits f n))
  plain h = rw (no_nan h) tt

  -- -0.0, infinities, subnormals and NaNs too
  pub bits_kept : n < 2 * top f → bits_of (float_of f n) ≡ n
  unfolding float_of bits_of
  bits_kept h =
      if_cases (λ s. bits_of s ≡ n) (nan_bits f n) (Some (Whole n)) (Some (float_case f (of_bits f n)))
      (λ e. refl)
      (λ e. case_bits f (of_bits f n) ∙ to_bits-of_bits f n h (rw (← nan_bits_is f n, e) tt))
