-- What a load that ran leaves: each lane of each destination, each scalar, and all else as it was.
use Rattle.std.specs.Prelude.{Option, Some, None}
use mathlib.Core.Path.{◌≡◌, refl, sym, ap, ◌∙◌}
use mathlib.Core.Bool.{Bool, true, false}
use mathlib.Core.List.{List}
use mathlib.Core.Logic.{⊎_elim}
use Prim.Native.Nat.{ℕ, zero, suc, ◌+◌, ◌-◌, ◌*◌, ◌/◌, ◌%◌, ◌^◌, ◌≤◌, ◌<◌}
use native.Mathlib.Nat.{zero-add, add_assoc, mod-eq_of_lt, div-one, mul-le-mul_right, suc-mul}
use native.Mathlib.Omega.{arith}
use lib.Dec.{ltb, eqb}
use lib.Arith.{digits_div, digits_mod}
use lib.ListN.{length, get_or, length-set}
use lib.Pow.{pow_mono}
use lib.Seq.{get_or-set_same, get_or-set_other}
use borrow.Author.Tests.{le-leb, lt-leb, eqb-true, eqb-false, ltb-true, ltb-false}
use Rattle.ground.proofs.Laws.{true_or_false, length_listed, get_or_listed, length_replaced, replaced_below, replaced_in, replaced_above}
use Rattle.ground.proofs.Laws.{little_digits, little_cong, pow_bytes}
use Rattle.ground.proofs.Sizes.{register_room}
use Rattle.ground.specs.Sizes.{bytes_of}
use Rattle.memory.specs.Addresses.{plus_of}
use Rattle.memory.specs.Elements.{Reading}
use Rattle.steps.specs.Benches.{Lent}
use Rattle.steps.specs.Terms.{scalar}
use Rattle.steps.specs.Lanes.{governing_bytes, destination_of}
use Rattle.steps.specs.Outcomes.{extended, lane_value, register_byte, register_of, vectors_after, added_to, base_after, scalars_after}
use Rattle.steps.specs.Demand2.{lane_in, Extends}
use Rattle.steps.specs.declared.Plan.{Plan}

-- the extended number fits its lane, and is the scope's
module _ (a b v : ℕ) (narrower : a ≤ b) (small : v < 256 ^ a) where
  in_memory : v < 2 ^ (8 * a)
  in_memory = rw pow_bytes at small

  wider : 2 ^ (8 * a) ≤ 2 ^ (8 * b)
  wider = pow_mono (let h : 8 * a ≤ 8 * b = omega arith in h)

  in_lane : (x : ℕ) → x < 2 ^ (8 * b) → x % 256 ^ b ≡ x
  in_lane x h = mod-eq_of_lt (rw pow_bytes h)

  pub extends_lane : (signed : Bool) → Extends signed (8 * a) (8 * b) v (extended signed a b v % 256 ^ b)
  unfolding extended
  extends_lane false = in_lane v (omega (arith, in_memory, wider))
  extends_lane true = (
    λ s. rw (lt-leb (2 ^ (8 * a - 1)) v s) (in_lane v (omega (arith, in_memory, wider))),
    λ s. rw (le-leb (2 ^ (8 * a - 1)) v s, in_lane (v + (2 ^ (8 * b) - 2 ^ (8 * a))) (omega (arith, in_memory, wider))) (omega (arith, wider)),
  )

-- the destinations filled from any answers, in a file of 32 registers
module _ (answer : ℕ → Reading) (l : Lent) (z : List ℕ) (p : Plan) (file : length z ≡ 32 * (l.settings.vl / 8)) where
  abbrev n : ℕ
  n = l.settings.vl / 8

  abbrev bytes : ℕ → List ℕ
  bytes j = register_of answer p (governing_bytes l p) j n

  abbrev after : ℕ → List ℕ
  after k = vectors_after answer p (governing_bytes l p) n z k

  register_length : (j : ℕ) → length (bytes j) ≡ n
  unfolding register_of
  register_length j = length_listed (register_byte answer p (governing_bytes l p) j) 0 n

  in_file : (j : ℕ) → destination_of p j * n + n ≤ length z
  unfolding destination_of
  in_file j = let h : suc ((p.target + j) % 32) ≤ 32 = omega arith in omega (arith, mul-le-mul_right n h)

  pub kept_length : (k : ℕ) → length (after k) ≡ length z
  unfolding vectors_after
  kept_length zero = refl
  kept_length (suc j) =
      length_replaced (after j) (destination_of p j * n) n (bytes j) (register_length j) (rw (kept_length j) (in_file j)) ∙ kept_length j

  room : (j : ℕ) → destination_of p j * n + n ≤ length (after j)
  room j = rw (kept_length j) (in_file j)

  -- the next destination is filled
  fresh : (j i : ℕ) → i < n → get_or (after (suc j)) (destination_of p j * n + i) 0 ≡ get_or (bytes j) i 0
  unfolding vectors_after
  fresh j i h = replaced_in (after j) (destination_of p j * n) n (bytes j) (register_length j) (room j) i 0 h

  -- .. and every other register is as it was
  aside : (j r i : ℕ) → (r ≡ destination_of p j → ⊥) → i < n → get_or (after (suc j)) (r * n + i) 0 ≡ get_or (after j) (r * n + i) 0
  unfolding vectors_after
  aside j r i ne h =
      let d = destination_of p j in
      ⊎_elim
      (λ t.
      let k = mul-le-mul_right n (ltb-true r d t) in
      replaced_below (after j) (d * n) n (bytes j) (register_length j) (room j) (r * n + i) 0 (omega (arith, suc-mul r n)))
      (λ t.
      let u : suc d ≤ r = let f = ltb-false r d t in omega arith in
      replaced_above (after j) (d * n) n (bytes j) (register_length j) (room j) (r * n + i) 0 (omega (arith, suc-mul d n, mul-le-mul_right n u)))
      (true_or_false (ltb r d))

  -- no register is a destination twice
  apart : (j k : ℕ) → j < k → k < 32 → destination_of p j ≡ destination_of p k → ⊥
  unfolding destination_of
  apart j k h m e = omega arith

  -- so each of the first k destinations holds its own bytes, and any other register is as it was
  filled : (k j : ℕ) → j < k → k ≤ 32 → (i : ℕ) → i < n → get_or (after k) (destination_of p j * n + i) 0 ≡ get_or (bytes j) i 0
  filled zero j h m i q = absurd (omega arith)
  filled (suc k) j h m i q =
      ⊎_elim
      (λ t. let e = eqb-true j k t in rw e (fresh k i q))
      (λ t.
      let u : j < k = let ne = eqb-false j k t in omega arith in
      aside k (destination_of p j) i (apart j k u m) q ∙ filled k j u (omega arith) i q)
      (true_or_false (eqb j k))

  pub kept_others : (k r : ℕ) → ((j : ℕ) → j < k → r ≡ destination_of p j → ⊥) → (i : ℕ) → i < n → get_or (after k) (r * n + i) 0 ≡ get_or z (r * n + i) 0
  unfolding vectors_after
  kept_others zero r none i h = refl
  kept_others (suc k) r none i h = aside k r i (none k (omega arith)) h ∙ kept_others k r (λ j q. none j (omega arith)) i h

  -- the last of them, of destination j
  module _ (k j : ℕ) (there : j < k) (few : k ≤ 32) where
    held : (i : ℕ) → i < n → get_or (after k) (destination_of p j * n + i) 0 ≡ register_byte answer p (governing_bytes l p) j i
    unfolding register_of
    held i h = filled k j there few i h ∙ get_or_listed (register_byte answer p (governing_bytes l p) j) 0 n i 0 h ∙ ap (register_byte answer p (governing_bytes l p) j) (zero-add i)

    pub small : (i : ℕ) → i < n → get_or (after k) (destination_of p j * n + i) 0 < 256
    unfolding register_byte
    small i h = rw (held i h) (omega arith)

    abbrev w : ℕ
    w = bytes_of p.lane

    abbrev value : ℕ → ℕ
    value q = lane_value answer p (governing_bytes l p) j q

    -- a byte of lane q is a digit of its value
    digit : (q i : ℕ) → i < w → register_byte answer p (governing_bytes l p) j (q * w + i) ≡ value q / 256 ^ i % 256
    unfolding register_byte
    digit q i h = rw (digits_div q h, digits_mod q h)

    lane_byte : (q i : ℕ) → q < l.settings.vl / (8 * w) → i < w → get_or (after k) (destination_of p j * n + q * w + i) 0 ≡ value q / 256 ^ i % 256
    lane_byte q i h g =
        let inside : q * w + i < n = omega (arith, register_room l.settings.vl w q h) in
        ap (λ (x : ℕ). get_or (after k) x 0) (add_assoc (destination_of p j * n) (q * w) i) ∙ held (q * w + i) inside ∙ digit q i g

    -- so the number in lane q is the lane's value
    pub lane_is : (q : ℕ) → q < l.settings.vl / (8 * bytes_of p.lane)
        → lane_in l (after k) (destination_of p j) (bytes_of p.lane) q ≡ lane_value answer p (governing_bytes l p) j q % 256 ^ bytes_of p.lane
    lane_is q h =
        little_cong (λ i. get_or (after k) i 0) (λ i. value q / 256 ^ i % 256) (destination_of p j * n + q * w) 0 w
        (λ i g. lane_byte q i h g ∙ ap (λ (x : ℕ). value q / 256 ^ x % 256) (sym (zero-add i)))
        ∙ little_digits (value q) 0 w
        ∙ ap (λ (x : ℕ). x % 256 ^ w) (div-one (value q))

-- the scalars
module _ (p : Plan) (x : List ℕ) (count : length x ≡ 33) (b : p.base < 32) where
  base_length : length (base_after p x) ≡ length x
  unfolding base_after
  base_length = go p.back
    where
      go : (back : Option ℕ) → length (added_to p.base x back) ≡ length x
      go None = refl
      go (Some a) = length-set x p.base _

  pub scalars_length : length (scalars_after p x) ≡ length x
  unfolding scalars_after
  scalars_length = length-set (base_after p x) 32 _ ∙ base_length

  pub counter : scalar (scalars_after p x) 32 ≡ plus_of (scalar x 32) 4
  unfolding scalars_after
  counter = get_or-set_same (base_after p x) 32 _ 0 (omega (arith, base_length))

  pub written_back : (a : ℕ) → p.back ≡ Some a → scalar (scalars_after p x) p.base ≡ plus_of (scalar x p.base) a
  unfolding scalars_after base_after
  written_back a t = get_or-set_other (base_after p x) 32 p.base _ 0 (omega arith) ∙ rw t (get_or-set_same x p.base _ 0 (omega arith))

  pub kept_scalar : (n : ℕ) → (n ≡ 32 → ⊥) → ((a : ℕ) → p.back ≡ Some a → n ≡ p.base → ⊥) → scalar (scalars_after p x) n ≡ scalar x n
  unfolding scalars_after base_after
  kept_scalar n pc h = get_or-set_other (base_after p x) 32 n _ 0 pc ∙ go p.back refl
    where
      go : (back : Option ℕ) → p.back ≡ back → get_or (added_to p.base x back) n 0 ≡ get_or x n 0
      go None t = refl
      go (Some a) t = get_or-set_other x p.base n _ 0 (h a t)
