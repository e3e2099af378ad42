-- One turn of `element`'s loop, over any look: what is read so far, with what the rest reads above it, is what the whole reads.
use Rattle.std.proofs.Common.{◌≡◌, ℕ, zero, suc, ◌+◌, ◌-◌, ◌*◌, ◌%◌, ◌^◌, ◌<◌, ◌≤◌, Ok, Err, sym, refl, ap, ◌∙◌, add-zero, add_assoc, mul_assoc, mul_comm, mul-zero, mul-add, sub-one, arith, pow_mono, pow-add, shl_exact}
use lib.Arith.{digits_lt}
use Rattle.std.specs.Result.{MatchResult}
use Rattle.ground.proofs.Sizes.{bytes_few}
use Rattle.memory.specs.declared.BadByte.{BadByte}
use Rattle.memory.specs.Addresses.{plus_of}
use Rattle.memory.specs.Bytes.{Cell}
use Rattle.memory.specs.Elements.{Reading, bad_at, reading_of, with_low_byte, on_cell}

-- v with what was read above it, at the scale s
abbrev pub over : ℕ → ℕ → Reading → Reading
over v s (Ok w) = Ok (v + s * w)
over v s (Err x) = Err x

over_low_byte : (v s b : ℕ) (r : Reading) → over v s (with_low_byte b r) ≡ over (v + b * s) (s * 256) r
over_low_byte v s b (Ok w) = ap Ok (simp (mul-add, mul_assoc, add_assoc, mul_comm b s))
over_low_byte v s b (Err x) = refl

-- i of n bytes from a on are read, and v is their value
pub record SoFar (look : ℕ → Cell) (a n v i : ℕ) : Type 0 where
  pub few : n ≤ 8
  pub fits : v < 2 ^ (8 * i)
  pub reads : reading_of look a n ≡ over v (2 ^ (8 * i)) (reading_of look (plus_of a i) (n - i))

one_more : (look : ℕ → Cell) (a n : ℕ) → 0 < n → reading_of look a n ≡ on_cell (look a) a (reading_of look (plus_of a 1) (n - 1))
unfolding reading_of
one_more look a zero h = absurd (omega arith)
one_more look a (suc n) h = rw sub-one

pub finished : {look : ℕ → Cell} {a n v i : ℕ} → SoFar look a n v i → n ≤ i → Ok v ≡ reading_of look a n
unfolding reading_of
finished {look} {a} {n} {v} {i} s l =
    let e : n - i ≡ 0 = omega arith in
    rw (s.reads, e) (simp (mul-zero, add-zero))

scale : (i : ℕ) → 2 ^ (8 * (i + 1)) ≡ 2 ^ (8 * i) * 256
scale i = ap (λ (k : ℕ). 2 ^ k) e ∙ pow-add 2 (8 * i) 8
  where
    e : 8 * (i + 1) ≡ 8 * i + 8
    e = omega arith

-- a turn: a byte is left to read
module _ {look : ℕ → Cell} {a n v i : ℕ} (s : SoFar look a n v i) (more : i < n) where
  next : reading_of look (plus_of a i) (n - i) ≡ on_cell (look (plus_of a i)) (plus_of a i) (reading_of look (plus_of a (i + 1)) (n - (i + 1)))
  next =
      one_more look (plus_of a i) (n - i) (omega arith)
      ∙ (let e : n - i - 1 ≡ n - (i + 1) = omega arith in let f : plus_of (plus_of a i) 1 ≡ plus_of a (i + 1) = omega arith in rw (e, f))

  -- the byte is bad: what is told of it is why, and its address
  pub bad_byte : (r : Cell) (at : ℕ) (x : BadByte) → at ≡ plus_of a i → r ≡ look at
      → MatchResult r (λ b. ◌≡◌ {A = Reading} (Err x) (Ok b)) (λ f. x ≡ bad_at f at) → Err x ≡ reading_of look a n
  bad_byte (Ok b) at x e h t = let z : ◌≡◌ {A = ℕ} 0 1 = cc in absurd (omega arith)
  bad_byte (Err f) at x e h t = let u : look (plus_of a i) ≡ Err f = rw (← e) (sym h) in sym (s.reads ∙ rw (next, u, t, e))

  module _ (b : ℕ) (byte : b < 256) where
    shifted : (b * 2 ^ (8 * i)) % 2 ^ 64 ≡ b * 2 ^ (8 * i)
    shifted = shl_exact 8 (8 * i) 64 byte (let h = s.few in omega arith)

    below : v + (b * 2 ^ (8 * i)) % 2 ^ 64 < 2 ^ (8 * (i + 1))
    below =
        rw (shifted, scale)
        (omega (arith, digits_lt {q = b} {m = 256} {r = v} {c = 2 ^ (8 * i)} byte s.fits))

    pub in_word : v + (b * 2 ^ (8 * i)) % 2 ^ 64 < 2 ^ 64
    in_word =
        let h : 8 * (i + 1) ≤ 64 = (let h = s.few in omega arith) in
        omega (arith, below, pow_mono h)

    pub turned : (at : ℕ) → at ≡ plus_of a i → Ok b ≡ look at → SoFar look a n (v + (b * 2 ^ (8 * i)) % 2 ^ 64) (i + 1)
    turned at p q =
        let e : look (plus_of a i) ≡ Ok b = rw (← p) (sym q) in
        record { few = s.few; fits = below; reads = s.reads ∙ simp (next, e, shifted, scale, over_low_byte) }

-- what the check takes from here for the goals of the loop that have no answer of their own
pub ruleset read_so_far = (bytes_few, in_word, finished)
