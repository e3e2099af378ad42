-- Addresses: moving one is arithmetic modulo 2^64, and so is the library's sum of an unsigned number and a signed one.
use Rattle.std.proofs.Common.{◌≡◌, ℕ, zero, suc, ◌+◌, ◌-◌, ◌%◌, ◌^◌, ◌<◌, ◌≤◌, Bool, true, false, cond, ltb, ℤ, pos, negsuc, ◌+ℤ◌, neg_ℤ, refl, ◌∙◌, arith, to_z-of_z, w64, SFits, to_z, of_z, ltb-false, ltb-true}
use lib.IntN.{sub_ℕ}
use Rattle.memory.specs.Addresses.{wrap, wrapℤ, plus_of, moved_of}

-- a difference of two numbers, by which is larger
sub_cases {ℓ} : (P : ℤ → Type ℓ) (a b : ℕ) → (a < b → P (negsuc (b - suc a))) → (b ≤ a → P (pos (a - b))) → P (sub_ℕ a b)
sub_cases P a b f g = go (ltb a b) refl
  where
    go : (t : Bool) → ltb a b ≡ t → P (cond t (negsuc (b - suc a)) (pos (a - b)))
    go true e = f (ltb-true a b e)
    go false e = g (ltb-false a b e)

-- ---- the laws
pub moved_below : (a : ℕ) (d : ℤ) → moved_of a d < 2 ^ 64
unfolding moved_of
moved_below a d = go (pos a +ℤ d)
  where
    go : (z : ℤ) → wrapℤ z < 2 ^ 64
    go (pos n) = omega arith
    go (negsuc n) = omega arith

pub moved_pos : (a n : ℕ) → moved_of a (pos n) ≡ wrap (a + n)
unfolding moved_of
moved_pos a n = refl

pub moved_back : (a n : ℕ) → n ≤ a → a < 2 ^ 64 → moved_of a (neg_ℤ (pos n)) ≡ a - n
unfolding moved_of
moved_back a zero l h = omega arith
moved_back a (suc n) l h = sub_cases (λ (z : ℤ). wrapℤ z ≡ a - suc n) a (suc n) (λ k. omega arith) (λ k. omega arith)

-- n bytes back and n bytes on again
pub moved_home : (a n : ℕ) → a < 2 ^ 64 → plus_of (moved_of a (neg_ℤ (pos n))) n ≡ a
unfolding moved_of
moved_home a zero h = omega arith
moved_home a (suc n) h = sub_cases (λ (z : ℤ). wrap (wrapℤ z + suc n) ≡ a) a (suc n) (λ k. omega arith) (λ k. omega arith)

-- a sum is taken modulo 2^64 once or twice: byte by byte too
pub wrap_on : (z : ℤ) (n : ℕ) → wrapℤ (z +ℤ pos n) ≡ plus_of (wrapℤ z) n
wrap_on (pos a) n = omega arith
wrap_on (negsuc a) n = sub_cases (λ (z : ℤ). wrapℤ z ≡ plus_of (wrapℤ (negsuc a)) n) n (suc a) (λ h. omega arith) (λ h. omega arith)

-- 2^64 more is no other address
pub wrap_round : (z : ℤ) → wrapℤ (z +ℤ pos (2 ^ 64)) ≡ wrapℤ z
wrap_round (pos a) = wrap_on (pos a) (2 ^ 64) ∙ omega arith
wrap_round (negsuc a) = wrap_on (negsuc a) (2 ^ 64) ∙ omega arith

-- ---- what the library's addition of a signed number to an unsigned one gives
pub moved_signed : (a : ℕ) (z : ℤ) → SFits w64 z → (a + of_z w64 (to_z w64 (of_z w64 z))) % 2 ^ 64 ≡ moved_of a z
unfolding moved_of
moved_signed a z h = rw (to_z-of_z h) (go z h)
  where
    go : (z : ℤ) → SFits w64 z → (a + of_z w64 z) % 2 ^ 64 ≡ wrapℤ (pos a +ℤ z)
    go (pos n) h = omega arith
    go (negsuc n) h =
        let l : suc n ≤ 2 ^ 63 = h.sfits in
        sub_cases (λ (y : ℤ). (a + of_z w64 (negsuc n)) % 2 ^ 64 ≡ wrapℤ y) a (suc n) (λ k. omega arith) (λ k. omega arith)
