-- Lanes that are filled from a stretch: one lane more of a chunk, a chunk that is zero, and one chunk more of a register.
use Rattle.std.proofs.Common.{if◌then◌else◌, ◌≡◌, ℕ, zero, suc, ◌+◌, ◌-◌, ◌*◌, ◌/◌, ◌%◌, ◌^◌, ◌<◌, ◌≤◌, Bool, false, List, [], ◌∷◌, ◌++◌, length, get_or, take, drop, sym, refl, ap, ◌∙◌, zero-le, mul_assoc, div-lt_iff_lt-mul, add_comm, arith}
use native.Mathlib.Nat.{div-mul-le_self, le-mul_of_pos_right, mul-le-mul_left, zero-div, add-mul-div_right, mul-add-mod_self_right}
use lib.Arith.{digits_div, digits_mod}
use lib.Seq.{get_or-take}
use Rattle.ground.specs.Lists.{listed, bytes_at}
use Rattle.ground.proofs.Fills.{Filled, one_filled, digits_filled, back_in}
use Rattle.steps.specs.Lanes.{bit_of}
use Rattle.steps.proofs.Walks.{many}
use Rattle.steps.proofs.Counts.{many_most}
use Rattle.memory.specs.Addresses.{wrap}
use Rattle.steps.specs.Outcomes.{extended}
use Rattle.bench.specs.Inside.{Zeroed}
use Rattle.ground.specs.Sizes.{bytes_of}
use Rattle.bench.specs.declared.chunks.Widening.{Widening}
use Rattle.bench.specs.Inside.Quick.{lane_from, byte_from, ElementsIn, ChunksIn, LanesOut}
use Rattle.bench.proofs.Small.{slot}
use Rattle.bench.proofs.Many.{many_split, many_cong, many_none}

module _ (s : List ℕ) (from : ℕ) (bits : List ℕ) (stride : ℕ) (signed : Bool) (size width : ℕ) where
  -- ---- one lane more
  lane_digit : (l v j : ℕ) → v ≡ lane_from s from bits stride signed size width l → j < width
      → v / 256 ^ j % 256 ≡ byte_from s from bits stride signed size width (l * width + j)
  unfolding byte_from
  lane_digit l v j e h = rw (e, digits_div l h, digits_mod l h)

  pub lane_turn : {n l : ℕ} {xs : List ℕ} → Filled (byte_from s from bits stride signed size width) width n xs l → l * width + width ≤ n
      → (on : Bool) → on ≡ bit_of bits (l * width)
      → (v : ℕ) → v ≡ (if on then wrap (extended signed size 8 (bytes_at s (from + l * stride) size)) else 0)
      → (ys : List ℕ) → ys ≡ listed (λ k. v / 256 ^ k % 256) 0 (length (take (l * width + width - l * width) (drop (l * width) xs)))
      → Filled (byte_from s from bits stride signed size width) width n
      (take (l * width) xs ++ (ys ++ drop (l * width + width - l * width) (drop (l * width) xs))) (l + 1)
  unfolding lane_from
  lane_turn {n} {l} f fits on e v h ys k = digits_filled f v fits (λ j m. lane_digit l v j (rw e at h) m) ys k

-- ---- a chunk none of whose bits is 1
module _ (s : List ℕ) (from stride : ℕ) (signed : Bool) (size width per : ℕ) (even : per * width ≡ 8) where
  bit_off : (l : ℕ) → bit_of (0 ∷ []) (l * width) ≡ false
  unfolding bit_of
  bit_off l = rw (none (l * width / 8), zero-div)
    where
      none : (i : ℕ) → ◌≡◌ {A = ℕ} (get_or (0 ∷ []) i 0) 0
      none zero = refl
      none (suc i) = refl

  byte_off : (i : ℕ) → byte_from s from (0 ∷ []) stride signed size width i ≡ 0
  unfolding byte_from lane_from
  byte_off i = rw (bit_off (i / width), zero-div)

  pub chunk_off : {dst dst' : List ℕ} → length dst ≡ 8 → Zeroed dst dst' 0 → LanesOut s from (0 ∷ []) stride signed size width 8 dst' 0 per
  chunk_off long z =
      record {
        lanes_on = sym (many_cong (λ l. bit_of (0 ∷ []) (l * width)) (λ _. false) 0 per (λ j _ _. bit_off j) ∙ many_none 0 per);
        filled = record { size = z.long ∙ long; so_far = λ i h. z.zero i zero-le (rw (long, ← even) h) ∙ sym (byte_off i) };
      }

-- ---- chunk c of a register: its lane j is lane c × per + j
module _ (s bits : List ℕ) (stride : ℕ) (signed : Bool) (size width per c : ℕ) (even : per * width ≡ 8) (some : 0 < width) where
  abbrev deciding : List ℕ
  deciding = get_or bits c 0 ∷ []

  abbrev start : ℕ
  start = c * per * stride

  bit_on : (j : ℕ) → j < per → bit_of deciding (j * width) ≡ bit_of bits ((c * per + j) * width)
  unfolding bit_of
  bit_on j h =
      let low : j * width < 8 = omega (arith, slot j per width h) in
      let at : (c * per + j) * width ≡ 8 * c + j * width = omega (arith, ap (λ (x : ℕ). c * x) even) in
      let q : (8 * c + j * width) / 8 ≡ c = omega arith in
      let r : (8 * c + j * width) % 8 ≡ j * width = omega arith in
      let z : j * width / 8 ≡ 0 = omega arith in
      let y : j * width % 8 ≡ j * width = omega arith in
      rw (at, q, r, z, y)

  lane_on : (j : ℕ) → j < per → lane_from s start deciding stride signed size width j ≡ lane_from s 0 bits stride signed size width (c * per + j)
  unfolding lane_from
  lane_on j h =
      let at : 0 + (c * per + j) * stride ≡ start + j * stride = omega arith in
      rw (bit_on j h, at)

  byte_on : (i : ℕ) → i < 8 → byte_from s start deciding stride signed size width i ≡ byte_from s 0 bits stride signed size width (c * 8 + i)
  unfolding byte_from
  byte_on i h =
      let e : c * 8 + i ≡ i + c * per * width = omega (arith, ap (λ (x : ℕ). c * x) even) in
      let q : (i + c * per * width) / width ≡ c * per + i / width = add-mul-div_right i (c * per) some ∙ add_comm (i / width) (c * per) in
      let r : (i + c * per * width) % width ≡ i % width = ap (λ (x : ℕ). x % width) (add_comm i (c * per * width)) ∙ mul-add-mod_self_right (c * per) width i in
      rw (e, q, r, lane_on (i / width) ((div-lt_iff_lt-mul some).1 (rw even h)))

  pub chunk_turn : {n : ℕ} {xs : List ℕ} → Filled (byte_from s 0 bits stride signed size width) 8 n xs c → c * 8 + 8 ≤ n → (ys : List ℕ)
      → Filled (byte_from s start deciding stride signed size width) width 8 ys per
      → Filled (byte_from s 0 bits stride signed size width) 8 n (take (c * 8) xs ++ (ys ++ drop (c * 8 + 8 - c * 8) (drop (c * 8) xs))) (c + 1)
  chunk_turn {n} {xs} f fits ys r =
      rw (back_in xs ys ys (c * 8) 8 refl) (one_filled f ys r.size fits (λ j h. r.so_far j (rw even h) ∙ byte_on j h))

  -- the lanes that are on, in one chunk more
  pub count_turn : many (λ l. bit_of bits (l * width)) 0 (c * per) + many (λ l. bit_of deciding (l * width)) 0 per
      ≡ many (λ l. bit_of bits (l * width)) 0 ((c + 1) * per)
  count_turn =
      let e : (c + 1) * per ≡ c * per + per = omega arith in
      rw (e, many_split (λ l. bit_of bits (l * width)) (c * per) per)
      (ap (λ (x : ℕ). many (λ l. bit_of bits (l * width)) 0 (c * per) + x)
      (many_cong (λ l. bit_of deciding (l * width)) (λ j. bit_of bits ((c * per + j) * width)) 0 per (λ j _ h. bit_on j (omega arith))))

  -- .. and no more than one for each byte
  pub count_most : many (λ l. bit_of bits (l * width)) 0 (c * per) + many (λ l. bit_of deciding (l * width)) 0 per ≤ c * 8 + 8
  count_most =
      let few : per ≤ 8 = rw even at (le-mul_of_pos_right per some) in
      omega (arith, many_most (λ l. bit_of bits (l * width)) 0 (c * per), many_most (λ l. bit_of deciding (l * width)) 0 per, mul-le-mul_left c few)

-- all chunks are all lanes
pub chunks_filled : {f : ℕ → ℕ} {n chunks width : ℕ} {xs : List ℕ} (per : ℕ) → per * width ≡ 8 → Filled f 8 n xs chunks → Filled f width n xs (chunks * per)
chunks_filled {f} {n} {chunks} {width} per even s =
    let e : chunks * per * width ≡ chunks * 8 = mul_assoc chunks per width ∙ ap (λ (x : ℕ). chunks * x) even in
    record { size = s.size; so_far = λ i h. s.so_far i (rw (← e) h) }

-- chunk c, of as many as there are, needs of the stretch what the whole needs
module _ {k : Widening} {s bits : List ℕ} {n : ℕ} (w : ChunksIn k s bits n) (c : ℕ) (more : c < length bits) where
  abbrev per : ℕ
  per = 8 / bytes_of k.width

  pub chunk_in : ElementsIn s (c * per * k.stride) k.stride (bytes_of k.size) per
  chunk_in l h =
      let at : 0 + (c * per + l) * k.stride ≡ c * per * k.stride + l * k.stride = omega arith in
      rw at at (w.inside (c * per + l) (omega (arith, slot c (length bits) per more)))

  pub chunk_room : c * 8 + 8 ≤ n
  chunk_room = omega (arith, w.room)

-- the first m bytes of bits decide over the lanes of m chunks
module _ (bits : List ℕ) (m : ℕ) where
  bit_taken : (b : ℕ) → b < m * 8 → bit_of (take m bits) b ≡ bit_of bits b
  unfolding bit_of
  bit_taken b h = let few : b / 8 < m = omega arith in rw (get_or-take m bits (b / 8) 0 few)

  pub lanes_taken : {s dst : List ℕ} {from stride size width n on lanes : ℕ} {signed : Bool} → lanes * width ≡ m * 8 → 0 < width
      → LanesOut s from (take m bits) stride signed size width n dst on lanes → LanesOut s from bits stride signed size width n dst on lanes
  unfolding byte_from lane_from
  lanes_taken {width} {lanes} all some r =
      record {
        lanes_on =
            r.lanes_on ∙ many_cong (λ l. bit_of (take m bits) (l * width)) (λ l. bit_of bits (l * width)) 0 lanes
            (λ l _ h. bit_taken (l * width) (omega (arith, slot l lanes width (omega arith))));
        filled = record {
          size = r.filled.size;
          so_far = λ i h.
              let on : bit_of (take m bits) (i / width * width) ≡ bit_of bits (i / width * width) = bit_taken _ (omega (arith, div-mul-le_self i width)) in
              r.filled.so_far i h ∙ rw on;
        };
      }
