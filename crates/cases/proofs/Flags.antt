-- The flags of a case: three bits and the kind of question, packed into one number and taken out of it.
use Prim.Native.Nat.{ℕ, zero, suc, ◌+◌, ◌*◌, ◌/◌, ◌%◌, ◌^◌, ◌≤◌, ◌<◌}
use mathlib.Core.Path.{◌≡◌, refl}
use mathlib.Core.Bool.{Bool, true, false, not, ◌||◌}
use Rattle.std.specs.Prelude.{bit_and}
use Rattle.std.proofs.lemmas.Nat.Bits.{and_pow}
use mathlib.Core.Logic.{◌⊎◌, inl, inr}
use native.Mathlib.Nat.{zero-mul, one-mul, one-le-pow, mod-lt, div-div-eq-div-mul}
use native.Mathlib.Omega.{arith}
use borrow.Author.Tests.{ltb-false, le-ltb, eqb-false, ne_eqb}
use lib.Dec.{eqb, lit<, lit≤}
use Rattle.ground.proofs.Laws.{never}
use Rattle.cases.specs.Parts.{kind_in, carried}
use Rattle.cases.specs.Heads.{flag_of, kind_of, strange_flag, strange_kind, question_with}
use Rattle.cases.specs.Packs.{Asked, bit_of, flags_for}
use Rattle.cases.specs.declared.heads.Numbers.{Numbers}

-- a bit and its test
bit_most : (t : Bool) → bit_of t ≤ 1
bit_most true = lit≤ tt
bit_most false = lit≤ tt

bit_tested : (t : Bool) → eqb (bit_of t) 1 ≡ t
bit_tested true = refl
bit_tested false = refl

test_bit : (n : ℕ) → n < 2 → bit_of (eqb n 1) ≡ n
test_bit zero h = refl
test_bit (suc zero) h = refl
test_bit (suc (suc n)) h = absurd (omega arith)

-- a bit that a mask leaves is one that the digit has
masked : (n k : ℕ) → not (eqb (bit_and n (2 ^ k)) 0) ≡ flag_of n k
masked n k = rw and_pow (go (n / 2 ^ k % 2) (mod-lt (n / 2 ^ k) (lit< tt)))
  where
    go : (b : ℕ) → b < 2 → not (eqb (b * 2 ^ k) 0) ≡ eqb b 1
    go zero h = rw zero-mul
    go (suc zero) h = rw one-mul (rw (ne_eqb (2 ^ k) 0 (λ e. let some : 1 ≤ 2 ^ k = one-le-pow k 2 (lit< tt) in omega arith)))
    go (suc (suc b)) h = absurd (omega arith)

pub masked_0 : (n : ℕ) → not (eqb (bit_and n 1) 0) ≡ flag_of n 0
masked_0 n = masked n 0

pub masked_1 : (n : ℕ) → not (eqb (bit_and n 2) 0) ≡ flag_of n 1
masked_1 n = masked n 1

pub masked_2 : (n : ℕ) → not (eqb (bit_and n 4) 0) ≡ flag_of n 2
masked_2 n = masked n 2

pub ruleset flags_masked = (masked_0, masked_1, masked_2)

-- neither of two tests holds
or_off : (a b : Bool) → (a || b) ≡ false → (a ≡ false) × (b ≡ false)
or_off true b h = never refl h
or_off false b h = (refl, h)

-- flags none of which is strange are packed from what is read of them
lowest : (f : ℕ) → f / 1 % 2 + 2 * (f / 2 % 2) + 4 * (f / 4 % 2) ≡ f % 8
lowest f = let halves : (f / 2 / 2 ≡ f / 4) × (f / 4 / 2 ≡ f / 8) = (div-div-eq-div-mul f 2 2, div-div-eq-div-mul f 4 2) in omega arith

pub flags_packed : (f : ℕ) → strange_flag f ≡ false → bit_of (flag_of f 0) + 2 * bit_of (flag_of f 1) + 4 * bit_of (flag_of f 2) + 256 * kind_of f ≡ f
unfolding strange_flag
flags_packed f h =
    let plain = or_off _ _ h in
    let low = ltb-false 7 (f % 256) plain.0 in
    let high = ltb-false 65535 f plain.1 in
    let two : 0 < 2 = lit< tt in
    rw (test_bit (f / 1 % 2) (mod-lt _ two), test_bit (f / 2 % 2) (mod-lt _ two), test_bit (f / 4 % 2) (mod-lt _ two), lowest f)
    (omega arith)

-- and the flags that are packed are read, and are not strange
module _ (q : Asked) (few : q.kind ≤ 3) where
  bits_most : (bit_of q.simd ≤ 1) × (bit_of q.sve ≤ 1) × (bit_of q.f64mm ≤ 1)
  bits_most = (bit_most q.simd, bit_most q.sve, bit_most q.f64mm)

  pub flags_small : flags_for q < 256 ^ 4
  flags_small = omega (arith, bits_most)

  pub simd_read : flag_of (flags_for q) 0 ≡ q.simd
  simd_read = let e : flags_for q / 1 % 2 ≡ bit_of q.simd = omega (arith, bits_most) in rw e (bit_tested q.simd)

  pub sve_read : flag_of (flags_for q) 1 ≡ q.sve
  sve_read = let e : flags_for q / 2 % 2 ≡ bit_of q.sve = omega (arith, bits_most) in rw e (bit_tested q.sve)

  pub f64mm_read : flag_of (flags_for q) 2 ≡ q.f64mm
  f64mm_read = let e : flags_for q / 4 % 2 ≡ bit_of q.f64mm = omega (arith, bits_most) in rw e (bit_tested q.f64mm)

  pub kind_read : kind_of (flags_for q) ≡ q.kind
  kind_read = omega (arith, bits_most)

  pub none_strange : strange_flag (flags_for q) ≡ false
  unfolding strange_flag
  none_strange =
      let low : flags_for q % 256 ≤ 7 = omega (arith, bits_most) in
      let high : flags_for q ≤ 65535 = omega (arith, bits_most) in
      rw (le-ltb 7 _ low, le-ltb 65535 _ high)

-- the kinds that are here
pub kind_known : (k : ℕ) → strange_kind k ≡ false → (k ≡ 0) ⊎ (k ≡ 2) ⊎ (k ≡ 3)
unfolding strange_kind
kind_known k h =
    let plain = or_off _ _ h in
    go k (eqb-false _ _ plain.0) (ltb-false _ _ plain.1)
  where
    go : (k : ℕ) → (k ≡ 1 → ⊥) → k ≤ 3 → (k ≡ 0) ⊎ (k ≡ 2) ⊎ (k ≡ 3)
    go zero one most = inl refl
    go (suc zero) one most = absurd (one refl)
    go (suc (suc zero)) one most = inr (inl refl)
    go (suc (suc (suc zero))) one most = inr (inr refl)
    go (suc (suc (suc (suc k)))) one most = absurd (omega arith)

pub known_kind : (k : ℕ) → (k ≡ 0) ⊎ (k ≡ 2) ⊎ (k ≡ 3) → (strange_kind k ≡ false) × (k ≤ 3)
unfolding strange_kind
known_kind k (inl e) = (rw e, omega arith)
known_kind k (inr (inl e)) = (rw e, omega arith)
known_kind k (inr (inr e)) = (rw e, omega arith)

-- the question of a kind that is here has its number, and a window's carries its numbers
module _ (k : ℕ) (n : Numbers) where
  pub kind_with : (k ≡ 0) ⊎ (k ≡ 2) ⊎ (k ≡ 3) → kind_in (question_with k n) ≡ k
  kind_with (inl e) = rw e
  kind_with (inr (inl e)) = rw e
  kind_with (inr (inr e)) = rw e

  pub carried_with : (k ≡ 2) ⊎ (k ≡ 3) → carried (question_with k n) ≡ n
  carried_with (inl e) = rw e
  carried_with (inr e) = rw e
