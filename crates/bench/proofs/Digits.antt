-- A lane as code makes it: a number modulo 2^64, byte by byte, and what the definition has there; element by element, and from a stretch.
use Rattle.std.proofs.Common.{if◌then◌else◌, ◌≡◌, ℕ, suc, ◌+◌, ◌-◌, ◌*◌, ◌/◌, ◌%◌, ◌^◌, ◌<◌, ◌≤◌, Bool, true, false, ◌&&◌, ltb, leb, List, ◌++◌, length, take, drop, sym, ap, ◌∙◌, suc-mul, arith, pow_pos, pow_mono, pow-add}
use native.Mathlib.Nat.{two-pow-succ, add-mul-mod_self_right}
use lib.Arith.{digits_div, digits_mod}
use lib.Pow.{mod-mod-pow}
use Rattle.ground.specs.Lists.{listed}
use Rattle.ground.specs.Sizes.{bytes_of}
use Rattle.ground.specs.declared.Size.{Size}
use Rattle.ground.proofs.Fills.{Filled, digits_filled}
use Rattle.ground.proofs.Laws.{digit_mod, pow_bytes}
use Rattle.ground.proofs.Sizes.{bytes_few}
use Rattle.memory.specs.Addresses.{wrap}
use Rattle.memory.specs.Elements.{Reading}
use Rattle.steps.specs.Outcomes.{extended, lane_value, register_byte}
use Rattle.steps.specs.declared.Plan.{Plan}

-- what a lane has above a number of another size
pub above : (s t : Size) → 2 ^ (8 * bytes_of t) - 1 - (2 ^ (8 * bytes_of s) - 1) ≡ 2 ^ (8 * bytes_of t) - 2 ^ (8 * bytes_of s)
above s t = omega (arith, pow_pos (8 * bytes_of s))

module _ (answer : ℕ → Reading) (p : Plan) (pred : List ℕ) (d : ℕ) where
  -- of destination d, byte j of lane l is what the definition has at its place in the register
  lane_byte : (l v j : ℕ) → v ≡ wrap (lane_value answer p pred d l) → j < bytes_of p.lane
      → v / 256 ^ j % 256 ≡ register_byte answer p pred d (l * bytes_of p.lane + j)
  unfolding register_byte
  lane_byte l v j e h = rw (e, digits_div l h, digits_mod l h) (digit_mod (lane_value answer p pred d l) 8 j (omega (arith, bytes_few p.lane)))

  -- lane l, of w bytes, is put in after the lanes before it
  pub lane_filled : {w n l : ℕ} {xs : List ℕ} → w ≡ bytes_of p.lane → Filled (register_byte answer p pred d) w n xs l → l * w + w ≤ n
      → (v : ℕ) → v ≡ wrap (lane_value answer p pred d l) → (ys : List ℕ)
      → ys ≡ listed (λ k. v / 256 ^ k % 256) 0 (length (take (l * w + w - l * w) (drop (l * w) xs)))
      → Filled (register_byte answer p pred d) w n (take (l * w) xs ++ (ys ++ drop (l * w + w - l * w) (drop (l * w) xs))) (l + 1)
  lane_filled {w} {n} {l} {xs} wide s fits v e ys h =
      digits_filled s v fits
      (λ j k.
      let at : j < bytes_of p.lane = rw (← wide) k in
      rw wide (lane_byte l v j e at)) ys h

-- a number of n bytes with its sign in 64 bits
module _ (n : ℕ) (some : 0 < n) (few : n ≤ 8) where
  pub twice : 2 ^ (8 * n) ≡ 2 ^ (8 * n - 1) + 2 ^ (8 * n - 1)
  twice = let e : 8 * n ≡ suc (8 * n - 1) = omega arith in ap (λ (k : ℕ). 2 ^ k) e ∙ two-pow-succ (8 * n - 1)

  -- a number is above half of the largest where its sign bit is 1
  pub sign_test : (v : ℕ) → ltb ((2 ^ (8 * n) - 1) / 2) v ≡ leb (2 ^ (8 * n - 1)) v
  sign_test v =
      let e : suc ((2 ^ (8 * n) - 1) / 2) ≡ 2 ^ (8 * n - 1) = omega (arith, twice, pow_pos (8 * n - 1)) in
      ap (λ (k : ℕ). leb k v) e

-- the bytes that a lane keeps of it are those of the definition's number, which has its sign in the lane
module _ (m t : ℕ) (narrower : m ≤ t) (few : t ≤ 8) (v : ℕ) where
  abbrev rest : ℕ
  rest = 2 ^ (64 - 8 * t)

  all : 2 ^ 64 ≡ rest * 2 ^ (8 * t)
  all = let e : 64 - 8 * t + 8 * t ≡ 64 = omega arith in ap (λ (k : ℕ). 2 ^ k) (sym e) ∙ pow-add 2 (64 - 8 * t) (8 * t)

  apart : v + (2 ^ 64 - 2 ^ (8 * m)) ≡ v + (2 ^ (8 * t) - 2 ^ (8 * m)) + (rest - 1) * 2 ^ (8 * t)
  apart =
      let k : 8 * m ≤ 8 * t = omega arith in
      let less = pow_mono k in
      let one_more : rest ≡ suc (rest - 1) = omega (arith, pow_pos (64 - 8 * t)) in
      let split : rest * 2 ^ (8 * t) ≡ (rest - 1) * 2 ^ (8 * t) + 2 ^ (8 * t) =
      ap (λ (k : ℕ). k * 2 ^ (8 * t)) one_more ∙ suc-mul (rest - 1) (2 ^ (8 * t)) in
      rw (all, split) (omega arith)

  same_low : wrap (v + (2 ^ 64 - 2 ^ (8 * m))) % 256 ^ t ≡ (v + (2 ^ (8 * t) - 2 ^ (8 * m))) % 256 ^ t
  same_low =
      let e : 64 - 8 * t + 8 * t ≡ 64 = omega arith in
      let low = rw e at (mod-mod-pow (v + (2 ^ 64 - 2 ^ (8 * m))) (64 - 8 * t) (8 * t)) in
      rw pow_bytes (low ∙ rw apart (add-mul-mod_self_right (v + (2 ^ (8 * t) - 2 ^ (8 * m))) (rest - 1) (2 ^ (8 * t))))

  pub widens : (signed : Bool) (j : ℕ) → j < t → wrap (extended signed m 8 v) / 256 ^ j % 256 ≡ extended signed m t v / 256 ^ j % 256
  unfolding extended
  widens signed j h = go (signed && leb (2 ^ (8 * m - 1)) v)
    where
      go : (b : Bool)
          → wrap (if b then v + (2 ^ 64 - 2 ^ (8 * m)) else v) / 256 ^ j % 256 ≡ (if b then v + (2 ^ (8 * t) - 2 ^ (8 * m)) else v) / 256 ^ j % 256
      go true =
          sym (digit_mod (wrap (v + (2 ^ 64 - 2 ^ (8 * m)))) t j h)
          ∙ ap (λ (x : ℕ). x / 256 ^ j % 256) same_low
          ∙ digit_mod (v + (2 ^ (8 * t) - 2 ^ (8 * m))) t j h
      go false = digit_mod v 8 j (omega arith)
