-- A field of two bits names the size of 8 << field bits, and no two results meet the promise of a function of `Size`. A size divides 8
-- bytes: what else holds of all four sizes follows from that, and of lanes that bytes and registers are cut into.
use Prim.Native.Nat.{ℕ, zero, suc, ◌+◌, ◌*◌, ◌/◌, ◌%◌, ◌^◌, ◌≤◌, ◌<◌, ◌∣◌}
use mathlib.Core.Logic.{◌↔◌}
use mathlib.Core.Path.{◌≡◌, refl}
use native.Mathlib.Nat.{suc-mul, mul-le-mul_right, lt_of_mul-lt-mul_right, div-mul-le_self, div-div-eq-div-mul}
use native.Mathlib.Nat.{dvd_trans, le_of_dvd, pos_of_dvd_of_pos, dvd_of_mod-eq-zero, div-mul_cancel}
use native.Mathlib.Omega.{arith}
use lib.Dec.{lit<}
use borrow.Author.Tests.{ne_eqb}
use Rattle.ground.proofs.Laws.{only_one}
use Rattle.ground.specs.Sizes.{bytes_of, size_of, BytesPromise, SizePromise}
use Rattle.ground.specs.declared.Size.{Size}
use Rattle.ground.specs.declared.Size.TheVariants.{B8, B16, B32, B64}

-- 8 << n bits are 1 << n bytes
pub field_bytes : (n : ℕ) → n < 4 → bytes_of (size_of n) ≡ 2 ^ n
unfolding size_of
field_bytes zero h = refl
field_bytes (suc zero) h = refl
field_bytes (suc (suc zero)) h = refl
field_bytes (suc (suc (suc zero))) h = refl
field_bytes (suc (suc (suc (suc n)))) h = absurd (omega arith)

-- a field over 3 is read as 3
pub field_past : (n : ℕ) → 3 ≤ n → size_of n ≡ B64
unfolding size_of
field_past n h = rw (ne_eqb n 0 (λ e. omega arith), ne_eqb n 1 (λ e. omega arith), ne_eqb n 2 (λ e. omega arith))

pub bytes_unique : (s : Size) (a b : ℕ) → BytesPromise s a → BytesPromise s b → a ≡ b
bytes_unique s a b p q = only_one p q

pub of_unique : (n : ℕ) (s t : Size) → SizePromise n s → SizePromise n t → s ≡ t
of_unique n s t p q = only_one p q

-- lane k of n bytes that are cut into lanes of w bytes, and of a register of vl bits
pub lane_room : (n w k : ℕ) → k < n / w → k * w + w ≤ n
lane_room n w k h = omega (arith, suc-mul k w, mul-le-mul_right w h, div-mul-le_self n w)

pub register_room : (vl w k : ℕ) → k < vl / (8 * w) → k * w + w ≤ vl / 8
register_room vl w k h = lane_room (vl / 8) w k (rw div-div-eq-div-mul h)

-- the one law that asks which of the four a size is
eight : (s : Size) → 8 % bytes_of s ≡ 0
eight B8 = refl
eight B16 = refl
eight B32 = refl
eight B64 = refl

module _ (s : Size) where
  divides : bytes_of s ∣ 8
  divides = dvd_of_mod-eq-zero (bytes_of s) (eight s)

  pub bytes_some : 0 < bytes_of s
  bytes_some = pos_of_dvd_of_pos divides (lit< tt)

  pub bytes_few : bytes_of s ≤ 8
  bytes_few = le_of_dvd (lit< tt) divides

  -- bytes of whole chunks are whole lanes
  module _ (n : ℕ) (h : n % 8 ≡ 0) where
    pub whole_lanes : n / bytes_of s * bytes_of s ≡ n
    whole_lanes = div-mul_cancel (bytes_of s) (dvd_trans (bytes_of s) divides (dvd_of_mod-eq-zero 8 h))

    pub in_lanes : (k : ℕ) → (k < n / bytes_of s) ↔ (k * bytes_of s < n)
    in_lanes k = (
      λ q. omega (arith, lane_room n (bytes_of s) k q, bytes_some),
      λ q. lt_of_mul-lt-mul_right (bytes_of s) (rw whole_lanes q),
    )

  -- .. and so is a register
  pub register_lanes : (vl : ℕ) → vl % 128 ≡ 0 → vl / (8 * bytes_of s) * bytes_of s ≡ vl / 8
  register_lanes vl h = let whole : vl / 8 % 8 ≡ 0 = omega arith in rw (← div-div-eq-div-mul vl 8 (bytes_of s)) (whole_lanes (vl / 8) whole)
