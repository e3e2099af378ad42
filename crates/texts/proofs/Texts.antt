-- What is behind a text, how many digits a number has, and whether two lists are the same.
use mathlib.Core.Path.{◌≡◌, refl, sym, ◌∙◌, ap}
use mathlib.Core.Bool.{Bool, true}
use mathlib.Core.List.{List, ◌++◌}
use Prim.Native.Nat.{ℕ, zero, suc, ◌+◌, ◌-◌, ◌*◌, ◌/◌, ◌^◌, ◌≤◌, ◌<◌, min}
use mathlib.Core.Logic.{◌↔◌, ⊎_elim}
use native.Mathlib.Nat.{add-zero, zero-add, add_assoc, pow-suc, one-le-pow}
use native.Mathlib.Omega.{arith}
use borrow.Author.Tests.{ltb-true, ltb-false, lt-ltb, le-ltb}
use lib.Dec.{ltb, lit<}
use lib.ListN.{length, take, drop, take-append-drop, length-append}
use lib.Seq.{take-length, take-append-add, take-append-le, take-append_seam}
use Rattle.std.proofs.lemmas.List.{take_min}
use Rattle.ground.specs.Lists.{alike, replaced}
use Rattle.ground.proofs.Laws.{true_or_false, if_cases, alike_self, alike_same}
use Rattle.ground.proofs.Fills.{back_in, replaced_next}
use Rattle.io.specs.Digits.{last_digits, IsDigitCount}
use Rattle.texts.specs.Texts.{bytes_in, empty, and_of, places_of, decimal_of, SamePromise}
use Rattle.texts.specs.declared.Text.{Text}

-- where there is no room, nothing is put
pub full : (t : Text) (s : List ℕ) → 128 ≤ t.n → t ≡ and_of t s
unfolding and_of replaced
full t s h = let none : min (length s) (128 - t.n) ≡ 0 = omega arith in rw (none, add-zero, take-append-drop)

-- bytes put in behind a text, in a part that was lent and came back
pub put_behind : (t : Text) (s : List ℕ) {k : ℕ} {ys : List ℕ} → k ≡ min (length s) (128 - t.n) → ys ≡ take k s
    → ◌≡◌ {A = Text} (record { bytes = take t.n t.bytes ++ (ys ++ drop (t.n + k - t.n) (drop t.n t.bytes)); n = t.n + k }) (and_of t s)
unfolding and_of
put_behind t s {k} {ys} e h = rw (back_in t.bytes ys (take k s) t.n k h, e)

-- bytes that have room are all put
put_whole : (t : Text) (s : List ℕ) → t.n + length s ≤ 128
    → and_of t s ≡ record { bytes = replaced t.bytes t.n (length s) s; n = t.n + length s }
unfolding and_of
put_whole t s h = let all : min (length s) (128 - t.n) ≡ length s = omega arith in rw (all, take-length)

-- bytes behind a text and more behind these are both behind it: where the first have room, and where they leave none
module _ (t : Text) (a b : List ℕ) where
  both : t.n + length a ≤ 128 → length t.bytes ≡ 128
      → and_of (record { bytes = replaced t.bytes t.n (length a) a; n = t.n + length a }) b ≡ and_of t (a ++ b)
  unfolding and_of
  both h size =
      let k : ℕ = min (length b) (128 - (t.n + length a)) in
      let sum : min (length (a ++ b)) (128 - t.n) ≡ length a + k = simp length-append (omega arith) in
      rw (sum, take-append-add, replaced_next t.bytes t.n (length a) k a (take k b) (omega arith) refl, add_assoc)

  filled : 128 ≤ t.n + length a → 128 ≤ (and_of t a).n
  unfolding and_of
  filled h = omega arith

  first_alone : 128 ≤ t.n + length a → and_of t a ≡ and_of t (a ++ b)
  unfolding and_of
  first_alone h =
      let most : min (length a) (128 - t.n) ≡ 128 - t.n = omega arith in
      let all : min (length (a ++ b)) (128 - t.n) ≡ 128 - t.n = simp length-append (omega arith) in
      rw (most, all, take-append-le (128 - t.n) a b (omega arith))

  pub and_and : length t.bytes ≡ 128 → and_of (and_of t a) b ≡ and_of t (a ++ b)
  and_and size =
      let n = t.n + length a in
      ⊎_elim (λ h. let fits : n ≤ 128 = omega (arith, ltb-true n 128 h) in rw (put_whole t a fits) (both fits size))
      (λ h. let over = ltb-false n 128 h in sym (full (and_of t a) b (filled over)) ∙ first_alone over) (true_or_false (ltb n 128))

-- a text of bytes that have room says these bytes
pub says_whole : (s : List ℕ) → length s ≤ 128 → bytes_in (and_of empty s) ≡ s
unfolding replaced
says_whole s h = rw (put_whole empty s (omega arith), zero-add, take-append_seam)

-- a number of two digits or more has one digit less without its last
one_less : (v k : ℕ) → IsDigitCount 10 1 v (suc (suc k)) → (10 ≤ v) × IsDigitCount 10 1 (v / 10) (suc k)
one_less v k f =
    let some : 1 ≤ 10 ^ k = one-le-pow k 10 (lit< tt) in
    let last : suc (suc k) - 1 ≡ suc k = omega arith in
    let next : suc k - 1 ≡ k = omega arith in
    let least : 10 ^ k * 10 ≤ v = rw (last, pow-suc) at (f.2 (omega arith)) in
    let most : v < 10 ^ k * 10 * 10 = rw (pow-suc, pow-suc) at f.1 in
    (omega arith, (omega arith, rw pow-suc (omega arith), λ _. rw next (omega arith)))

-- the fewest digits that hold a number are as many as it has
places : (n v k : ℕ) → v ≤ n → IsDigitCount 10 1 v k → k ≡ places_of n v
places n v zero small f = absurd (omega arith)
places zero v (suc zero) small f = refl
places (suc n) v (suc zero) small f = rw (lt-ltb v 10 f.1)
places zero v (suc (suc k)) small f = let less = one_less v k f in absurd (omega arith)
places (suc n) v (suc (suc k)) small f =
    let less = one_less v k f in
    rw (le-ltb v 10 less.0) (ap suc (places n (v / 10) (suc k) (omega arith) less.1))

pub decimal : (v k : ℕ) → IsDigitCount 10 1 v k → last_digits 10 k v ≡ decimal_of v
unfolding decimal_of
decimal v k f = ap (λ (m : ℕ). last_digits 10 m v) (places v v k (omega arith) f)

-- a number below 10 ^ (k + 1) has k + 1 digits at most
few_places : (n v k : ℕ) → v < 10 ^ suc k → places_of n v ≤ suc k
few_places zero v k h = omega arith
few_places (suc n) v zero h = rw (lt-ltb v 10 h) (omega arith)
few_places (suc n) v (suc k) h =
    let less : v / 10 < 10 ^ suc k = (let most : v < 10 ^ suc k * 10 = rw pow-suc at h in omega arith) in
    let rest = few_places n (v / 10) k less in
    if_cases (λ (m : ℕ). m ≤ suc (suc k)) (ltb v 10) 1 (suc (places_of n (v / 10))) (λ _. omega arith) (λ _. omega arith)

length_digits : (k v : ℕ) → length (last_digits 10 k v) ≡ k
length_digits zero v = refl
length_digits (suc k) v = rw (length-append, length_digits k (v / 10)) (omega arith)

pub digits_most : (v k : ℕ) → v < 10 ^ suc k → length (decimal_of v) ≤ suc k
unfolding decimal_of
digits_most v k h = rw (length_digits (places_of v v) v) (few_places v v k h)

-- a text longer than its bytes is all of them
pub all_there : (t : Text) {k : ℕ} → length t.bytes ≡ 128 → k ≡ min t.n 128 → take k t.bytes ≡ bytes_in t
all_there t size h = rw (h, ← size) (take_min t.n t.bytes)

-- whether a text says these bytes and no other
pub same_said : (t : Text) (s : List ℕ) (r : Bool) → SamePromise t s r → (r ≡ true) ↔ (bytes_in t ≡ s)
same_said t s r p = (λ h. alike_same (bytes_in t) s (sym p ∙ h), λ e. p ∙ ap (alike (bytes_in t)) (sym e) ∙ alike_self (bytes_in t))
