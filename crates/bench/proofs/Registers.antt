-- The one destination of a load with a predicate, filled from a stretch: its own lanes, their copies, and zeros are the definition's register, and the lanes that are on
-- tell the count of reads.
use Rattle.std.proofs.Common.{if◌then◌else◌, ◌≡◌, ℕ, ◌*◌, ◌/◌, ◌%◌, ◌^◌, ◌<◌, ◌≤◌, Bool, true, false, ltb, List, length, get_or, sym, refl, ap, ◌∙◌, ⊎_elim, mod-lt, div-lt_iff_lt-mul, mul-pos, le-div_iff_mul-le, zero-add, ltb-false, ltb-true, le-ltb}
use native.Mathlib.Nat.{zero-div}
use lib.Arith.{mod-mul, digits_div, digits_mod}
use Rattle.ground.specs.Lists.{bytes_at}
use Rattle.ground.specs.Sizes.{bytes_of}
use Rattle.ground.proofs.Fills.{Filled, is_listed}
use Rattle.ground.proofs.Laws.{true_or_false}
use Rattle.ground.proofs.Sizes.{bytes_some, bytes_few}
use Rattle.memory.specs.Addresses.{wrap}
use Rattle.memory.specs.Elements.{Reading}
use Rattle.steps.specs.Lanes.{bit_of, lane_takes}
use Rattle.steps.specs.Outcomes.{extended, lane_value, register_byte, register_of}
use Rattle.steps.specs.declared.Plan.{Plan}
use Rattle.bench.specs.Inside.{Zeroed}
use Rattle.bench.specs.Inside.Quick.{answers_from, lane_from, byte_from, Copied, stride_of, count_of, own_in, FillIn, OwnOut, FillOut}
use Rattle.bench.proofs.Digits.{widens}
use Rattle.bench.proofs.Own.{LanesFromStretch, tells, same_bytes}

-- the lane and the byte of byte i in k lanes of w bytes, over and over
module _ (i k w : ℕ) (some : 0 < k) (wide : 0 < w) where
  lane_in : i % (k * w) / w ≡ i / w % k
  lane_in = ap (λ (x : ℕ). x / w) (mod-mul i some wide) ∙ digits_div (i / w % k) (mod-lt i wide)

  byte_in : i % (k * w) % w ≡ i % w
  byte_in = ap (λ (x : ℕ). x % w) (mod-mul i some wide) ∙ digits_mod (i / w % k) (mod-lt i wide)

-- a register, of the lanes that are told
module _ (p : Plan) (pred s : List ℕ) (narrower : bytes_of p.size ≤ bytes_of p.lane) {k : ℕ} (t : LanesFromStretch p pred k) where
  abbrev lane : ℕ
  lane = bytes_of p.lane

  abbrev answer : ℕ → Reading
  answer = answers_from s p

  -- its own lanes
  own_byte : (i : ℕ) → i < k * lane
      → byte_from s 0 pred (stride_of p.rule (bytes_of p.size)) p.signed
      (bytes_of p.size) lane i ≡ register_byte answer p pred 0 i
  unfolding byte_from lane_from register_byte lane_value answers_from
  own_byte i h =
      let few : i / lane < k = (div-lt_iff_lt-mul (bytes_some p.lane)).1 h in
      rw (t.bit (i / lane) few, t.element (i / lane) few, zero-add) (go (bit_of pred (i / lane * lane)))
    where
      v : ℕ
      v = bytes_at s (i / lane * stride_of p.rule (bytes_of p.size)) (bytes_of p.size)

      go : (b : Bool) → (if b then wrap (extended p.signed (bytes_of p.size) 8 v) else 0) / 256 ^ (i % lane) % 256
          ≡ (if b then extended p.signed (bytes_of p.size) lane v else 0) / 256 ^ (i % lane) % 256
      go true = widens (bytes_of p.size) lane narrower (bytes_few p.lane) v p.signed (i % lane) (mod-lt i (bytes_some p.lane))
      go false = refl

  -- .. again
  byte_again : (i : ℕ) → i < p.filled * lane → register_byte answer p pred 0 (i % (k * lane)) ≡ register_byte answer p pred 0 i
  unfolding register_byte
  byte_again i h =
      rw (
        lane_in i k lane t.some (bytes_some p.lane),
        byte_in i k lane t.some (bytes_some p.lane),
        t.again answer (i / lane) ((div-lt_iff_lt-mul (bytes_some p.lane)).1 h),
      )

  -- .. and zeros above
  beyond : (i : ℕ) → p.filled * lane ≤ i → register_byte answer p pred 0 i ≡ 0
  unfolding register_byte lane_value lane_takes
  beyond i h = rw (le-ltb (i / lane) p.filled ((le-div_iff_mul-le (bytes_some p.lane)).1 h), zero-div)

  module _ {n : ℕ} {dst dst' dst'' : List ℕ}
      (own : Filled (byte_from s 0 pred (stride_of p.rule (bytes_of p.size)) p.signed (bytes_of p.size) lane) lane n dst k)
      (copied : Copied dst dst' (k * lane) (p.filled * lane)) (zeroed : Zeroed dst' dst'' (p.filled * lane)) where
    below : (i : ℕ) → i < p.filled * lane → get_or dst' i 0 ≡ register_byte answer p pred 0 i
    below i h =
        let inside : i % (k * lane) < k * lane = mod-lt i (mul-pos t.some (bytes_some p.lane)) in
        copied.copied i h ∙ own.so_far (i % (k * lane)) inside ∙ own_byte (i % (k * lane)) inside ∙ byte_again i h

    pub whole_register : dst'' ≡ register_of answer p pred 0 n
    unfolding register_of
    whole_register =
        let long : length dst' ≡ n = copied.long ∙ own.size in
        is_listed _ _ n (zeroed.long ∙ long)
        (λ i h. ⊎_elim
        (λ e. let l = ltb-true i (p.filled * lane) e in zeroed.kept i l ∙ below i l)
        (λ e. let l = ltb-false i (p.filled * lane) e in zeroed.zero i l (rw long h) ∙ sym (beyond i l))
        (true_or_false (ltb i (p.filled * lane))))

-- a fill, by its contracts, with the numbers as they were found
pub filled_out : {p : Plan} {pred s : List ℕ} {n : ℕ} (f : FillIn p pred s n) {own width : ℕ} (o : own ≡ own_in p) (w : width ≡ bytes_of p.lane)
    {dst dst' dst'' : List ℕ} {on r : ℕ} → OwnOut p pred s n dst on → Copied dst dst' (own * 8) (p.filled * width)
    → Zeroed dst' dst'' (p.filled * width) → r ≡ count_of p.rule on → FillOut p pred s n dst'' r
filled_out {p} {pred} {s} f o w out copied zeroed e =
    record {
      count = e ∙ rw out.lanes_on (tells f).count;
      bytes = whole_register p pred s f.fit.sound.narrower (tells f) out.filled (rw (same_bytes f) (rw (o, w) at copied)) (rw w at zeroed);
    }
