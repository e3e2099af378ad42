-- A destination of LD1R to LD4R: an element over and over, and zeros above.
use Rattle.std.proofs.Common.{◌≡◌, ℕ, zero, suc, ◌+◌, ◌*◌, ◌/◌, ◌%◌, ◌^◌, ◌<◌, ◌≤◌, true, ltb, ◌⊎◌, List, length, sym, ap, ◌∙◌, subst, ⊎_elim, mod-lt, mod-eq_of_lt, mul_assoc, suc-mul, div-lt_iff_lt-mul, mul-zero, div-add-mod', le-div_iff_mul-le, zero-add, mul-one, mul-add, arith, lit<, pow_pos, pow-add, ltb-false, ltb-true, le-ltb, lt-ltb}
use native.Mathlib.Nat.{zero-div, add-mul-div_right, add-mul-mod_self_right, div-div-eq-div-mul}
use native.Mathlib.Nat.{div-eq_of_lt}
use Rattle.ground.specs.Lists.{bytes_at}
use Rattle.ground.specs.Sizes.{bytes_of}
use Rattle.ground.specs.declared.Size.{Size}
use Rattle.ground.specs.declared.Size.TheVariants.{B8, B16, B32, B64}
use Rattle.ground.proofs.Fills.{Filled, is_listed}
use Rattle.ground.proofs.Laws.{true_or_false, digit_mod, pow_bytes}
use Rattle.ground.proofs.Sizes.{bytes_some}
use Rattle.steps.specs.Lanes.{lane_takes, lane_element}
use Rattle.steps.specs.Outcomes.{extended, lane_value, register_byte, register_of}
use Rattle.steps.specs.declared.Plan.{Plan}
use Rattle.steps.specs.declared.Rule.TheVariants.{Always}
use Rattle.plans.specs.Inside.{ShapedAs}
use Rattle.bench.specs.Inside.{Zeroed}
use Rattle.bench.specs.declared.actives.Lanes.{Lanes}
use Rattle.bench.specs.declared.quick.Replicas.{Replicas}
use Rattle.bench.specs.Inside.Quick.{answers_from, is_always, Spread, ReplicatesIn, ReplicateIn, ReplicateOut}
use Rattle.bench.proofs.Own.{is_always_lem}

-- ---- a number over and over: k digits to the base b, each v
abbrev pub repeated : ℕ → ℕ → ℕ → ℕ
repeated b v zero = 0
repeated b v (suc k) = v + repeated b v k * b

-- .. of w bytes
module _ (w v : ℕ) (small : v < 256 ^ w) where
  abbrev b : ℕ
  b = 256 ^ w

  some : 0 < b
  some = omega (arith, small)

  last : (k : ℕ) → repeated b v (suc k) % b ≡ v
  last k = add-mul-mod_self_right v (repeated b v k) b ∙ mod-eq_of_lt small

  rest : (k : ℕ) → repeated b v (suc k) / b ≡ repeated b v k
  rest k = add-mul-div_right v (repeated b v k) some ∙ rw (div-eq_of_lt small) (zero-add _)

  pub repeated_byte : (k l j : ℕ) → l < k → j < w → repeated b v k / 256 ^ (l * w + j) % 256 ≡ v / 256 ^ j % 256
  repeated_byte zero l j h q = absurd (omega arith)
  repeated_byte (suc k) zero j h q =
      let at : 0 * w + j ≡ j = omega arith in
      rw at (sym (digit_mod (repeated b v (suc k)) w j q) ∙ rw (last k))
  repeated_byte (suc k) (suc l) j h q =
      let at : suc l * w + j ≡ w + (l * w + j) = omega (arith, suc-mul l w) in
      rw (at, pow-add 256 w (l * w + j), ← div-div-eq-div-mul, rest k) (repeated_byte k l j (omega arith) q)

-- it is a product with k digits that are 1
times : (b v k : ℕ) → v * repeated b 1 k ≡ repeated b v k
times b v zero = mul-zero v
times b v (suc k) = mul-add v 1 (repeated b 1 k * b) ∙ rw (mul-one, ← mul_assoc, times b v k)

-- .. and so the last w bytes of a number are spread over eight
spread_digits : (v w k : ℕ) → 0 < w → k * w ≡ 8 → Spread v w (repeated (256 ^ w) (v % 256 ^ w) k)
spread_digits v w k some even i h =
    let l = i / w in
    let j = i % w in
    let at : l * w + j ≡ i = div-add-mod' i w in
    let few : l < k = (div-lt_iff_lt-mul some).1 (rw even h) in
    rw at at (repeated_byte w (v % 256 ^ w) (mod-lt v (rw pow_bytes (pow_pos (8 * w)))) k l j few (mod-lt i some)) ∙ digit_mod v w j (mod-lt i some)

pub spreads : (v w k : ℕ) → 0 < w → k * w ≡ 8 → Spread v w (v % 256 ^ w * repeated (256 ^ w) 1 k)
spreads v w k some even = subst (Spread v w) (sym (times (256 ^ w) (v % 256 ^ w) k)) (spread_digits v w k some even)

-- .. which are all of it where it has no more
pub spreads_all : (v w k : ℕ) → 0 < w → k * w ≡ 8 → v < 256 ^ w → Spread v w (v * repeated (256 ^ w) 1 k)
spreads_all v w k some even small = subst (λ (x : ℕ). Spread v w (x * repeated (256 ^ w) 1 k)) (mod-eq_of_lt small) (spreads v w k some even)

-- ---- a destination, of the element's chunks and zeros
-- a chunk is whole elements
eighth : (s : Size) (i : ℕ) → i % 8 % bytes_of s ≡ i % bytes_of s
eighth B8 i = omega arith
eighth B16 i = omega arith
eighth B32 i = omega arith
eighth B64 i = omega arith

module _ {p : Plan} {s : List ℕ} {j b end n : ℕ} (f : ReplicateIn p s j b end n) where
  abbrev shape : ShapedAs Always p
  shape = rw f.all.always at f.all.shaped.shape

  abbrev lane : ℕ
  lane = bytes_of p.lane

  abbrev v : ℕ
  v = bytes_at s (j * bytes_of p.size) (bytes_of p.size)

  -- the lanes that take the element end within the register, after a chunk or two
  pub ends : (end ≡ p.filled * lane) × (end ≤ n) × ((end ≡ 8) ⊎ (end ≡ 16))
  ends =
      let e : end ≡ p.filled * lane = f.filled ∙ ap (λ (x : ℕ). p.filled * x) (f.size ∙ sym (ap bytes_of shape.1)) in
      (e, rw e f.all.shaped.room, rw e shape.0)

  own_byte : (pred : List ℕ) (i : ℕ) → i < p.filled * lane → register_byte (answers_from s p) p pred j i ≡ v / 256 ^ (i % lane) % 256
  unfolding register_byte lane_value lane_takes lane_element extended answers_from
  own_byte pred i h = rw (f.all.always, shape.2, lt-ltb (i / lane) p.filled ((div-lt_iff_lt-mul (bytes_some p.lane)).1 h))

  beyond : (pred : List ℕ) (i : ℕ) → p.filled * lane ≤ i → register_byte (answers_from s p) p pred j i ≡ 0
  unfolding register_byte lane_value lane_takes
  beyond pred i h = rw (le-ltb (i / lane) p.filled ((le-div_iff_mul-le (bytes_some p.lane)).1 h), zero-div)

  pub replicated_out : (r : ℕ) {dst dst' : List ℕ} → Spread v (bytes_of p.size) r → Filled (λ i. r / 256 ^ (i % 8) % 256) 8 n dst (end / 8)
      → Zeroed dst dst' end → ReplicateOut p s j n dst'
  unfolding register_of
  replicated_out r spread chunks zeroed pred =
      is_listed _ _ n (zeroed.long ∙ chunks.size)
      (λ i h. ⊎_elim
      (λ t.
      let l = ltb-true i end t in
      let e = ends in
      zeroed.kept i l ∙ chunks.so_far i (⊎_elim (λ q. omega arith) (λ q. omega arith) e.2) ∙ spread (i % 8) (mod-lt i (lit< tt))
      ∙ ap (λ (x : ℕ). v / 256 ^ x % 256) (eighth p.size i ∙ ap (λ (x : Size). i % bytes_of x) (sym shape.1))
      ∙ sym (own_byte pred i (rw (← e.0) l)))
      (λ t. let l = ltb-false i end t in let e = ends in zeroed.zero i l (rw chunks.size h) ∙ sym (beyond pred i (rw (← e.0) l)))
      (true_or_false (ltb i end)))

-- what the fill of all destinations needs, of lanes beside a stretch that has every element; and that of one of them, of what was found
pub replicates_in : (l : Lanes) {s : List ℕ} → is_always l.plan.rule ≡ true → length s ≡ l.plan.elements * bytes_of l.plan.size
    → ReplicatesIn l.plan s l.register_bytes
replicates_in l always long =
    let f = l.fits in
    record { sound = f.sound; shaped = f.shaped; most = f.most; always = is_always_lem _ always; long = long }

pub replicate_in : (r : Replicas) {j n : ℕ} → j < r.lanes.plan.elements → n ≡ r.lanes.register_bytes
    → ReplicateIn r.lanes.plan r.stretch.now j r.element_bytes r.end n
replicate_in r there e =
    let f = r.found in
    rw e (record { all = replicates_in r.lanes f.always f.long; there = there; size = f.size; filled = f.filled })
