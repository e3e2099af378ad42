-- A register's own lanes, those that are filled from a stretch: what is told of them by the rule, and what `own_lanes` makes of them.
use Rattle.std.proofs.Common.{if◌then◌else◌, ◌≡◌, ℕ, ◌+◌, ◌*◌, ◌/◌, ◌%◌, ◌<◌, ◌≤◌, Bool, true, false, List, [], ◌∷◌, length, sym, refl, ap, ◌∙◌, le_refl, mul-le-mul_right, mod-eq_of_lt, mul_assoc, mul-pos, mul-zero, zero-add, zero-mul, mul-div_cancel, arith, lit≤, lt-ltb, take, length-take}
use native.Mathlib.Nat.{mod-le, mod-mod}
use Rattle.ground.specs.Lists.{any_below}
use Rattle.ground.specs.Sizes.{bytes_of}
use Rattle.ground.specs.declared.Size.{Size}
use Rattle.ground.proofs.Laws.{never}
use Rattle.ground.proofs.Sizes.{bytes_some, bytes_few}
use Rattle.memory.specs.Elements.{Reading}
use Rattle.steps.specs.Lanes.{bit_of, is_active, wanted, lane_takes, lane_element}
use Rattle.steps.specs.Outcomes.{lane_value}
use Rattle.steps.specs.declared.Plan.{Plan}
use Rattle.steps.specs.declared.Rule.{Rule}
use Rattle.steps.specs.declared.Rule.TheVariants.{Always, LaneBit, ElementBit}
use Rattle.steps.proofs.Walks.{many}
use Rattle.plans.specs.Inside.{ShapedAs, Shaped}
use Rattle.bench.specs.declared.actives.Lanes.{Lanes}
use Rattle.bench.specs.declared.chunks.Widening.{Widening}
use Rattle.bench.specs.Inside.Quick.{ElementsIn, ChunksOut, is_always, own_of, stride_of, count_of, own_in, FillIn, OwnOut}
use Rattle.bench.proofs.Small.{slot, chunk_whole}
use Rattle.bench.proofs.Many.{any_many}
use Rattle.bench.proofs.Lanes.{lanes_taken}

-- whole chunks of lanes are those lanes
module _ (s : Size) where
  abbrev b : ℕ
  b = bytes_of s

  chunk_lanes : (k : ℕ) → k * b % 8 ≡ 0 → k * b / 8 * (8 / b) ≡ k
  chunk_lanes k h =
      let all : k * b / 8 * 8 ≡ k * b = omega arith in
      sym (mul-div_cancel (k * b / 8 * (8 / b)) (bytes_some s))
      ∙ ap (λ (x : ℕ). x / b) (mul_assoc (k * b / 8) (8 / b) b ∙ ap (λ (x : ℕ). k * b / 8 * x) (chunk_whole s) ∙ all)
      ∙ mul-div_cancel k (bytes_some s)

-- what is told of the lanes that are filled from a stretch, k of them
pub record LanesFromStretch (p : Plan) (pred : List ℕ) (k : ℕ) : Type 0 where
  pub some : 0 < k
  pub room : k ≤ p.filled
  pub bit : (l : ℕ) → l < k → lane_takes p pred l ≡ bit_of pred (l * bytes_of p.lane)
  pub element : (l : ℕ) → l < k → lane_element p 0 l * bytes_of p.size ≡ l * stride_of p.rule (bytes_of p.size)
  pub far : (l : ℕ) → l < k → l * stride_of p.rule (bytes_of p.size) + bytes_of p.size ≤ p.elements * bytes_of p.size
  pub again : (answer : ℕ → Reading) (l : ℕ) → l < p.filled → lane_value answer p pred 0 (l % k) ≡ lane_value answer p pred 0 l
  pub count : count_of p.rule (many (λ l. bit_of pred (l * bytes_of p.lane)) 0 k) ≡ many (wanted p pred) 0 p.elements

module _ (p : Plan) (pred : List ℕ) (some : 0 < p.elements) where
  abbrev w : ℕ
  w = bytes_of p.lane

  abbrev per : ℕ
  per = 8 / w

  -- LD1R by element: one element
  lane_told : p.elements ≡ 1 → p.rule ≡ LaneBit → 0 < p.filled → LanesFromStretch p pred p.filled
  unfolding lane_takes lane_element is_active wanted
  lane_told one rule least =
      record {
        some = least;
        room = le_refl _;
        bit = λ l h. rw (rule, lt-ltb l p.filled h);
        element = λ l h. rw (rule, mul-zero) (zero-mul _);
        far = λ l h. rw (rule, one, mul-zero) (omega arith);
        again = λ answer l h. rw (mod-eq_of_lt h);
        count = rw (rule, one, any_many (λ l. bit_of pred (l * w)) p.filled) (single (any_below (λ l. bit_of pred (l * w)) p.filled));
      }
    where
      single : (b : Bool) → (if b then 1 else 0) ≡ length {A = ℕ} (if b then 0 ∷ [] else [])
      single true = refl
      single false = refl

  -- LD1, LD1RQ and LD1RO: an element for each of the first lanes
  element_told : p.rule ≡ ElementBit → p.elements ≤ p.filled → LanesFromStretch p pred p.elements
  unfolding lane_takes lane_element is_active lane_value wanted
  element_told rule fits =
      record {
        some = some;
        room = fits;
        bit = λ l h. let k : l < p.filled = omega arith in rw (rule, lt-ltb l p.filled k, mod-eq_of_lt h);
        element = λ l h. rw (rule, mod-eq_of_lt h);
        far = λ l h. rw rule (slot l p.elements (bytes_of p.size) h);
        again = λ answer l h.
            let k : l % p.elements < p.filled = omega (arith, mod-le l p.elements) in
            rw (rule, lt-ltb _ _ k, lt-ltb _ _ h, mod-mod l p.elements);
        count = rw rule;
      }

  -- where the rule asks bits
  pub lanes_from_stretch : {n : ℕ} → is_always p.rule ≡ false → Shaped p n → LanesFromStretch p pred (own_in p * (8 / bytes_of p.lane))
  lanes_from_stretch asks s = go p.rule refl asks s.shape
    where
      go : (r : Rule) → p.rule ≡ r → is_always r ≡ false → ShapedAs r p → LanesFromStretch p pred (own_of r p.elements p.filled w * per)
      go Always rule a h = never refl a
      go LaneBit rule a h = rw (chunk_lanes p.lane p.filled h.2) (lane_told h.0 rule h.1)
      go ElementBit rule a h = rw (chunk_lanes p.lane p.elements h.1) (element_told rule h.0)

-- what a fill needs, of lanes beside a stretch that has every element
pub fill_in : (l : Lanes) {s : List ℕ} {n : ℕ} → is_always l.plan.rule ≡ false → (length s ≡ l.plan.elements * bytes_of l.plan.size) × (n ≡ l.register_bytes)
    → FillIn l.plan l.pred.now s n
fill_in l asks e = record { fit = rw e.1 l.fits; asks = asks; long = e.0 }

-- ---- of a fill: what they need, and how many there are
module _ {p : Plan} {pred s : List ℕ} {n : ℕ} (f : FillIn p pred s n) where
  abbrev pub tells : LanesFromStretch p pred (own_in p * (8 / bytes_of p.lane))
  tells = lanes_from_stretch p pred f.fit.sound.some f.asks f.fit.shaped

  -- as many bytes in lanes as in chunks
  pub same_bytes : own_in p * (8 / bytes_of p.lane) * bytes_of p.lane ≡ own_in p * 8
  same_bytes = mul_assoc (own_in p) (8 / bytes_of p.lane) (bytes_of p.lane) ∙ ap (λ (x : ℕ). own_in p * x) (chunk_whole p.lane)

  own_room : own_in p * 8 ≤ n
  own_room = omega (arith, same_bytes, mul-le-mul_right (bytes_of p.lane) tells.room, f.fit.shaped.room)

  own_few : (0 < own_in p * 8) × (own_in p ≤ 32)
  own_few = (rw same_bytes at (mul-pos tells.some (bytes_some p.lane)), omega (arith, own_room, f.fit.most))

  -- their elements lie no more than 8 bytes apart, and in the stretch; they themselves in the register
  pub own_in_lem : (stride_of p.rule (bytes_of p.size) ≤ 8) × (own_in p * (8 / bytes_of p.lane) * bytes_of p.lane ≤ n)
      × ElementsIn s 0 (stride_of p.rule (bytes_of p.size)) (bytes_of p.size) (own_in p * (8 / bytes_of p.lane))
  own_in_lem = (near p.rule, rw same_bytes own_room, λ l h. rw (zero-add, f.long) (tells.far l h))
    where
      near : (r : Rule) → stride_of r (bytes_of p.size) ≤ 8
      near Always = lit≤ tt
      near LaneBit = lit≤ tt
      near ElementBit = bytes_few p.size

  -- .. with the number as it was found
  pub found_few : {own : ℕ} → own ≡ own_in p → (0 < own * 8) × (own * 8 ≤ 256)
  found_few o = let few = own_few in rw o (few.0, omega (arith, few.1))

  pub own_there : own_in p ≤ length pred
  own_there = omega (arith, own_room, f.fit.decided f.asks)

  -- .. as they are asked of the stretch, and as they come back
  abbrev lanes_of : ℕ → Widening
  lanes_of stride = record { size = p.size; width = p.lane; signed = p.signed; stride = stride }

  module _ {own stride : ℕ} (o : own ≡ own_in p) (d : stride ≡ stride_of p.rule (bytes_of p.size)) where
    long : length (take own pred) ≡ own_in p
    long = simp length-take (omega (arith, own_there))

    pub own_filled : {dst : List ℕ} {on : ℕ} → ChunksOut (lanes_of stride) s (take own pred) n dst on → OwnOut p pred s n dst on
    own_filled r = rw d at (rw long at (lanes_taken pred own (rw (long, o) same_bytes) (bytes_some p.lane) r))

-- ---- whether the rule is that of LD1R to LD4R
pub is_always_lem : (r : Rule) → is_always r ≡ true → r ≡ Always
is_always_lem Always h = refl
is_always_lem LaneBit h = never refl (sym h)
is_always_lem ElementBit h = never refl (sym h)
