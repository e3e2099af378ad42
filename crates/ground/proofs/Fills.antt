-- A list that is filled from the front, by single elements or by parts that are lent on and come back.
use Prim.Native.Nat.{ℕ, ◌+◌, ◌-◌, ◌*◌, ◌/◌, ◌%◌, ◌^◌, ◌≤◌, ◌<◌}
use mathlib.Core.Path.{◌≡◌, refl, sym, ◌∙◌, ap}
use mathlib.Core.List.{List, [], ◌∷◌, ◌++◌, append_assoc, append-nil}
use mathlib.Core.Logic.{⊎_elim}
use native.Mathlib.Nat.{zero-add, zero-mul, suc-mul, add_comm}
use native.Mathlib.Numerals.{add-one}
use native.Mathlib.Omega.{arith}
use borrow.Author.Count.{below_more}
use borrow.Author.Tests.{ltb-true, ltb-false}
use lib.Dec.{ltb}
use lib.ListN.{length, get_or, set, take, drop, length-append, length-take, length-drop}
use lib.Seq.{ext_get_or, get_or-set_same, get_or-set_other, drop-drop, drop-append-add, take_at, take-length, drop-length}
use Rattle.ground.specs.Lists.{listed, replaced}
use Rattle.ground.proofs.Laws.{true_or_false, length_listed, get_or_listed, length_replaced, replaced_below, replaced_in}

-- a list is told by its elements
pub is_listed : (f : ℕ → ℕ) (xs : List ℕ) (n : ℕ) → length xs ≡ n → ((i : ℕ) → i < n → get_or xs i 0 ≡ f i) → xs ≡ listed f 0 n
is_listed f xs n e h =
    ext_get_or 0 xs (listed f 0 n) (e ∙ sym (length_listed f 0 n))
    (λ i l. let small : i < n = omega arith in h i small ∙ sym (get_or_listed f 0 n i 0 small ∙ ap f (zero-add i)))

-- one more element is stored
pub stored : (f : ℕ → ℕ) (xs : List ℕ) (k v : ℕ) → k < length xs → ((i : ℕ) → i < k → get_or xs i 0 ≡ f i) → v ≡ f k
    → (i : ℕ) → i < k + 1 → get_or (set xs k v) i 0 ≡ f i
stored f xs k v h so_far e =
    below_more (λ (i : ℕ). get_or (set xs k v) i 0 ≡ f i) k
    (λ i l. let other : i ≡ k → ⊥ = omega arith in get_or-set_other xs k i v 0 other ∙ so_far i l)
    (get_or-set_same xs k v 0 h ∙ e)

-- a part of n elements from a on, as it is lent, and as it comes back
pub part_length : (xs : List ℕ) (a n : ℕ) → a + n ≤ length xs → length (take (a + n - a) (drop a xs)) ≡ n
part_length xs a n h = simp (length-take, length-drop) (omega arith)

pub back_in : (xs ys zs : List ℕ) (a n : ℕ) → ys ≡ zs → take a xs ++ (ys ++ drop (a + n - a) (drop a xs)) ≡ replaced xs a n zs
unfolding replaced
back_in xs ys zs a n e =
    let k : a + (a + n - a) ≡ a + n = omega arith in
    rw (e, drop-drop, k)

-- a list copied over one that is as long
pub copied_over : (src dst : List ℕ) → length dst ≡ length src → take (length src) src ++ drop (length src) dst ≡ src
copied_over src dst size = rw (take-length, ← size, drop-length, append-nil)

-- two parts that touch, the upper one put in after the lower one
module _ (xs : List ℕ) (a n m : ℕ) (ys zs : List ℕ) (fits : a + n ≤ length xs) where
  joined : take a xs ++ (ys ++ (zs ++ drop (a + n + m) xs)) ≡ replaced xs a (n + m) (ys ++ zs)
  unfolding replaced
  joined =
      let at : a + n + m ≡ a + (n + m) = omega arith in
      rw (at, append_assoc)

  pub replaced_next : length ys ≡ n → replaced (replaced xs a n ys) (a + n) m zs ≡ replaced xs a (n + m) (ys ++ zs)
  unfolding replaced
  replaced_next size =
      let below : List ℕ = take a xs ++ ys in
      let long : length below ≡ a + n = simp (length-append, length-take, size) (omega arith) in
      let inner : take a xs ++ (ys ++ drop (a + n) xs) ≡ below ++ drop (a + n) xs = sym (append_assoc (take a xs) ys (drop (a + n) xs)) in
      let above : drop (a + n + m) (below ++ drop (a + n) xs) ≡ drop (a + n + m) xs =
      ap (λ (k : ℕ). drop (k + m) (below ++ drop (a + n) xs)) (sym long) ∙ drop-append-add below (drop (a + n) xs) m ∙ drop-drop m (a + n) xs in
      rw (inner, take_at below (drop (a + n) xs) (a + n) long, above, append_assoc) joined

-- a part from place 1 on, and the first element
pub first_set : (xs : List ℕ) (m : ℕ) (ws : List ℕ) (v : ℕ) → 1 ≤ length xs → set (replaced xs 1 m ws) 0 v ≡ v ∷ (ws ++ drop (1 + m) xs)
unfolding replaced
first_set [] m ws v h = absurd (omega arith)
first_set (x ∷ xs) m ws v h = refl

-- a list of n elements in parts of w, the first l of which are filled
pub record Filled (f : ℕ → ℕ) (w n : ℕ) (xs : List ℕ) (l : ℕ) : Type 0 where
  pub size : length xs ≡ n
  pub so_far : (i : ℕ) → i < l * w → get_or xs i 0 ≡ f i

pub unfilled : (f : ℕ → ℕ) (w : ℕ) (xs : List ℕ) → Filled f w (length xs) xs 0
unfilled f w xs = record { size = refl; so_far = λ i l. let z = zero-mul w in absurd (omega arith) }

module _ {f : ℕ → ℕ} {w n l : ℕ} {xs : List ℕ} (s : Filled f w n xs l) where
  -- one more part is put in
  pub one_filled : (ys : List ℕ) → length ys ≡ w → l * w + w ≤ n → ((j : ℕ) → j < w → get_or ys j 0 ≡ f (l * w + j))
      → Filled f w n (replaced xs (l * w) w ys) (l + 1)
  one_filled ys size fits h =
      record {
        size = length_replaced xs (l * w) w ys size room ∙ s.size;
        so_far = λ i lt. ⊎_elim (λ t. below i (ltb-true i (l * w) t)) (λ t. above i lt (ltb-false i (l * w) t)) (true_or_false (ltb i (l * w)));
      }
    where
      room : l * w + w ≤ length xs
      room = rw s.size fits

      below : (i : ℕ) → i < l * w → get_or (replaced xs (l * w) w ys) i 0 ≡ f i
      below i k = replaced_below xs (l * w) w ys size room i 0 k ∙ s.so_far i k

      above : (i : ℕ) → i < (l + 1) * w → l * w ≤ i → get_or (replaced xs (l * w) w ys) i 0 ≡ f i
      above i lt k =
          let next : (l + 1) * w ≡ w + l * w = rw add-one (suc-mul l w ∙ add_comm (l * w) w) in
          let j : i - l * w < w = omega arith in
          let at : l * w + (i - l * w) ≡ i = omega arith in
          rw at at (replaced_in xs (l * w) w ys size room (i - l * w) 0 j ∙ h (i - l * w) j)

  -- .. as the digits of a number, in a part that was lent and came back
  pub digits_filled : (v : ℕ) → l * w + w ≤ n → ((j : ℕ) → j < w → v / 256 ^ j % 256 ≡ f (l * w + j))
      → (ys : List ℕ) → ys ≡ listed (λ k. v / 256 ^ k % 256) 0 (length (take (l * w + w - l * w) (drop (l * w) xs)))
      → Filled f w n (take (l * w) xs ++ (ys ++ drop (l * w + w - l * w) (drop (l * w) xs))) (l + 1)
  digits_filled v fits at ys h =
      let room : l * w + w ≤ length xs = rw s.size fits in
      let bytes : List ℕ = listed (λ k. v / 256 ^ k % 256) 0 w in
      rw (back_in xs ys bytes (l * w) w (h ∙ ap (listed (λ k. v / 256 ^ k % 256) 0) (part_length xs (l * w) w room)))
      (one_filled bytes (length_listed _ 0 w) fits (λ j k. get_or_listed (λ i. v / 256 ^ i % 256) 0 w j 0 k ∙ rw zero-add (at j k)))

  pub all_filled : n ≤ l * w → xs ≡ listed f 0 n
  all_filled h = is_listed f xs n s.size (λ i k. s.so_far i (omega arith))
