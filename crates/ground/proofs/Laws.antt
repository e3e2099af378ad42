-- The general laws that every proof cites: choices, tables, and lists from a function.
use Prim.Native.Nat.{ℕ, zero, suc, ◌+◌, ◌-◌, ◌*◌, ◌/◌, ◌%◌, ◌^◌, ◌≤◌, ◌<◌}
use mathlib.Core.Path.{◌≡◌, refl, sym, ◌∙◌, ap}
use mathlib.Core.Bool.{Bool, true, false, cond, ◌&&◌, ◌||◌}
use mathlib.Core.List.{List, [], ◌∷◌, ◌++◌}
use native.Mathlib.Omega.{arith}
use native.Mathlib.Nat.{add_assoc, mod-one, mod-lt, mod-eq_of_lt, pow-suc, mul-suc, div-one, div-div-eq-div-mul, add-zero, zero-add}
use native.Mathlib.Nat.{le_of_suc-le-suc, not-suc-le-zero}
use native.Mathlib.Numerals.{add-one, one-add}
use lib.Arith.{mod-mul}
use lib.Pow.{pow-add}
use lib.Dec.{eqb, ltb, lit<}
use lib.ListN.{length, get_or, take, drop, length-append, length-take, length-drop, get_or-append}
use lib.Seq.{get_or-take, get_or-drop, get_or-append-add}
use borrow.Author.Tests.{eqb-true, eqb-false, eq-eqb, ltb-true}
use mathlib.Core.Logic.{◌⊎◌, inl, inr}
use Rattle.ground.specs.Choices.{and_all, all_of, Row, first_of}
use Rattle.ground.specs.Lists.{listed, any_below, little, alike, EachBelow, replaced}

-- two results that meet one equation are one
pub only_one {ℓ} : {A : Type ℓ} {a b c : A} → a ≡ c → b ≡ c → a ≡ b
only_one p q = p ∙ sym q

pub true_or_false : (b : Bool) → (b ≡ true) ⊎ (b ≡ false)
true_or_false true = inl refl
true_or_false false = inr refl

-- a fact of both sides of a choice, each under its test
pub if_cases {ℓ κ} : {A : Type ℓ} (P : A → Type κ) (b : Bool) (x y : A) → (b ≡ true → P x) → (b ≡ false → P y) → P (cond b x y)
if_cases P true x y f g = f refl
if_cases P false x y f g = g refl

pub if_cong {ℓ} : {A : Type ℓ} (b : Bool) {x x' y y' : A} → (b ≡ true → x ≡ x') → (b ≡ false → y ≡ y') → cond b x y ≡ cond b x' y'
if_cong true f g = f refl
if_cong false f g = g refl

pub and_left : (a b : Bool) → (a && b) ≡ true → a ≡ true
and_left true b h = refl
and_left false b h = h

pub and_right : (a b : Bool) → (a && b) ≡ true → b ≡ true
and_right true b h = h
and_right false b h = cc

pub and_other : (a b : Bool) → (a && b) ≡ false → a ≡ true → b ≡ false
and_other a b h k = rw k at h

pub and_both : (a b : Bool) → a ≡ true → b ≡ true → (a && b) ≡ true
and_both a b h k = rw (h, k)

pub or_cases {ℓ} : {A : Type ℓ} (a b : Bool) → (a || b) ≡ true → (a ≡ true → A) → (b ≡ true → A) → A
or_cases true b h f g = f refl
or_cases false b h f g = g h

pub or_left : (a b : Bool) → a ≡ true → (a || b) ≡ true
or_left a b h = rw h

pub or_right : (a b : Bool) → b ≡ true → (a || b) ≡ true
or_right true b h = refl
or_right false b h = h

pub never {ℓ} : {A : Type ℓ} {b : Bool} → b ≡ true → b ≡ false → A
never p q = let z : ◌≡◌ {A = ℕ} 0 1 = cc in absurd (omega arith)

-- a test that cannot hold fails
pub off : (b : Bool) → (b ≡ true → ⊥) → b ≡ false
off true h = absurd (h refl)
off false h = refl

-- each test of a row, by its place
all_from : (t : Bool) (ts : List Bool) → and_all t ts ≡ true → (t ≡ true) × (all_of ts ≡ true)
all_from t [] h = (h, refl)
all_from t (u ∷ us) h = let r = all_from (t && u) us h in (and_left t u r.0, again u us (and_right t u r.0) r.1)
  where
    again : (u : Bool) (us : List Bool) → u ≡ true → all_of us ≡ true → and_all u us ≡ true
    again u [] p q = p
    again u (v ∷ vs) p q = rw p q

pub all_of_lem : (ts : List Bool) → all_of ts ≡ true → (i : ℕ) → get_or ts i true ≡ true
all_of_lem [] h i = refl
all_of_lem (t ∷ ts) h zero = (all_from t ts h).0
all_of_lem (t ∷ ts) h (suc i) = all_of_lem ts (all_from t ts h).1 i

-- a row of tests that each hold
abbrev pub Each : List Bool → Type 0
Each [] = Unit {0}
Each (t ∷ ts) = (t ≡ true) × Each ts

pub all_hold : (ts : List Bool) → Each ts → all_of ts ≡ true
all_hold [] h = refl
all_hold (t ∷ ts) h = go t ts h.0 h.1
  where
    go : (t : Bool) (ts : List Bool) → t ≡ true → Each ts → and_all t ts ≡ true
    go t [] p q = p
    go t (u ∷ us) p q = go (t && u) us (and_both t u p q.0) q.1

-- a fact of every row of a table
abbrev pub EachRow : {A : Type 0} → (A → Type 0) → List (Row A) → Type 0
EachRow P [] = Unit {0}
EachRow P (r ∷ rs) = (r.test ≡ true → P r.gives) × EachRow P rs

-- .. row by row: `×` is flat, and a table's rows nest
infixr 3 ◌&◌
abbrev pub ◌&◌ : {A B : Type 0} → A → B → A × B
a & b = (a, b)

pub first_each : {A : Type 0} (P : A → Type 0) (rs : List (Row A)) (d : A) → EachRow P rs → P d → P (first_of rs d)
first_each P [] d h k = k
first_each P (r ∷ rs) d h k = if_cases P r.test r.gives (first_of rs d) h.0 (λ _. first_each P rs d h.1 k)

-- a test that computes over a whole table holds at each of its rows
abbrev pub all : {A : Type 0} → (A → Bool) → List A → Bool
all f [] = true
all f (a ∷ l) = f a && all f l

pub all_at : {A : Type 0} (f : A → Bool) (l : List A) (d : A) → all f l ≡ true → f d ≡ true → (i : ℕ) → f (get_or l i d) ≡ true
all_at f [] d h k i = k
all_at f (a ∷ l) d h k zero = and_left (f a) (all f l) h
all_at f (a ∷ l) d h k (suc i) = all_at f l d (and_right (f a) (all f l) h) k i

-- the same lists are alike, and no others
pub alike_self : (s : List ℕ) → alike s s ≡ true
alike_self [] = refl
alike_self (a ∷ s) = and_both (eqb a a) (alike s s) (eq-eqb a a refl) (alike_self s)

pub alike_same : (s t : List ℕ) → alike s t ≡ true → s ≡ t
alike_same [] [] h = refl
alike_same [] (b ∷ t) h = never h refl
alike_same (a ∷ s) [] h = never h refl
alike_same (a ∷ s) (b ∷ t) h = cc (eqb-true a b (and_left (eqb a b) (alike s t) h), alike_same s t (and_right (eqb a b) (alike s t) h))

pub each_below : (n : ℕ) (s : List ℕ) → ltb 0 n ≡ true → all (λ x. ltb x n) s ≡ true → EachBelow n s
each_below n s some h = λ k. ltb-true _ n (all_at (λ x. ltb x n) s 0 h some k)

module _ {A : Type 0} (f : ℕ → A) where
  pub length_listed : (i n : ℕ) → length (listed f i n) ≡ n
  length_listed i zero = refl
  length_listed i (suc n) = ap suc (length_listed (i + 1) n)

  pub get_or_listed : (i n k : ℕ) (d : A) → k < n → get_or (listed f i n) k d ≡ f (i + k)
  get_or_listed i zero k d l = absurd (not-suc-le-zero l)
  get_or_listed i (suc n) zero d l = rw add-zero
  get_or_listed i (suc n) (suc k) d l = get_or_listed (i + 1) n k d (le_of_suc-le-suc l) ∙ ap f (omega arith)

pub listed_cong : {A : Type 0} (f g : ℕ → A) (i n : ℕ) → ((k : ℕ) → i ≤ k → k < i + n → f k ≡ g k) → listed f i n ≡ listed g i n
listed_cong f g i zero h = refl
listed_cong f g i (suc n) h =
    let a : f i ≡ g i = h i (omega arith) (omega arith) in
    let b : listed f (i + 1) n ≡ listed g (i + 1) n = listed_cong f g (i + 1) n (λ k l m. h k (omega arith) (omega arith)) in
    cc

module _ (f : ℕ → Bool) where
  pub any_of : (n i : ℕ) → i < n → f i ≡ true → any_below f n ≡ true
  any_of zero i l h = absurd (not-suc-le-zero l)
  any_of (suc n) i l h = go (eqb i n) refl (λ k. any_of n i k h)
    where
      go : (t : Bool) → eqb i n ≡ t → (i < n → any_below f n ≡ true) → (any_below f n || f n) ≡ true
      go true e ih = or_right (any_below f n) (f n) (ap f (sym (eqb-true i n e)) ∙ h)
      go false e ih = let ne = eqb-false i n e in or_left (any_below f n) (f n) (ih (omega arith))

  pub any_at : (n : ℕ) → any_below f n ≡ true → (i : ℕ) × (i < n) × (f i ≡ true)
  any_at zero h = never h refl
  any_at (suc n) h =
      or_cases (any_below f n) (f n) h
      (λ t. let r = any_at n t in let l = r.1 in (r.0, omega arith, r.2))
      (λ t. (n, omega arith, t))

pub any_cong : (f g : ℕ → Bool) (n : ℕ) → ((i : ℕ) → i < n → f i ≡ g i) → any_below f n ≡ any_below g n
any_cong f g zero h = refl
any_cong f g (suc n) h = cc (any_cong f g n (λ i l. h i (omega arith)), h n (omega arith))

-- a part put back in a list: what lies below it, in it and above it
module _ (xs : List ℕ) (a n : ℕ) (ys : List ℕ) (size : length ys ≡ n) (fits : a + n ≤ length xs) where
  length_below : length (take a xs) ≡ a
  length_below = simp length-take (omega arith)

  pub length_replaced : length (replaced xs a n ys) ≡ length xs
  unfolding replaced
  length_replaced = simp (length-append, length-take, length-drop) (omega arith)

  pub replaced_below : (i d : ℕ) → i < a → get_or (replaced xs a n ys) i d ≡ get_or xs i d
  unfolding replaced
  replaced_below i d l = get_or-append (take a xs) (ys ++ drop (a + n) xs) d i (omega (arith, length_below)) ∙ get_or-take a xs i d l

  from_part : (i d : ℕ) → get_or (replaced xs a n ys) (a + i) d ≡ get_or (ys ++ drop (a + n) xs) i d
  unfolding replaced
  from_part i d =
      ap (λ (k : ℕ). get_or (take a xs ++ (ys ++ drop (a + n) xs)) (k + i) d) (sym length_below)
      ∙ get_or-append-add (take a xs) (ys ++ drop (a + n) xs) i d

  pub replaced_in : (i d : ℕ) → i < n → get_or (replaced xs a n ys) (a + i) d ≡ get_or ys i d
  replaced_in i d l = from_part i d ∙ get_or-append ys (drop (a + n) xs) d i (omega arith)

  pub replaced_above : (i d : ℕ) → a + n ≤ i → get_or (replaced xs a n ys) i d ≡ get_or xs i d
  replaced_above i d l =
      let j = i - (a + n) in
      let at : i ≡ a + (length ys + j) = omega arith in
      ap (λ (k : ℕ). get_or (replaced xs a n ys) k d) at
      ∙ from_part (length ys + j) d
      ∙ get_or-append-add ys (drop (a + n) xs) j d
      ∙ get_or-drop (a + n) xs j d
      ∙ ap (λ (k : ℕ). get_or xs k d) (omega arith)

pow_positive : (n : ℕ) → 0 < 256 ^ n
pow_positive zero = lit< tt
pow_positive (suc n) = let h = pow_positive n in rw pow-suc (omega arith)

-- a number is the number of its digits, lowest first
pub little_digits : (v i n : ℕ) → little (λ j. v / 256 ^ j % 256) i n ≡ v / 256 ^ i % 256 ^ n
little_digits v i zero = sym (mod-one _)
little_digits v i (suc n) =
    let next : v / 256 ^ (i + 1) ≡ v / 256 ^ i / 256 = rw (add-one, pow-suc) (sym (div-div-eq-div-mul v (256 ^ i) 256)) in
    let split : v / 256 ^ i % 256 ^ suc n ≡ v / 256 ^ i / 256 % 256 ^ n * 256 + v / 256 ^ i % 256 =
    rw (pow-suc 256 n) (mod-mul (v / 256 ^ i) (pow_positive n) (lit< tt)) in
    rw (little_digits v (i + 1) n, next, split) (omega arith)

pub little_cong : (f g : ℕ → ℕ) (i k n : ℕ) → ((j : ℕ) → j < n → f (i + j) ≡ g (k + j)) → little f i n ≡ little g k n
little_cong f g i k zero h = refl
little_cong f g i k (suc n) h =
    let first : f i ≡ g k = rw (add-zero, add-zero) at (h 0 (omega arith)) in
    let rest = little_cong f g (i + 1) (k + 1) n (λ j l. rw (add_assoc, add_assoc, one-add) (h (suc j) (omega arith))) in
    rw (first, rest)

pub little_below : (f : ℕ → ℕ) (i n : ℕ) → ((j : ℕ) → j < n → f (i + j) < 256) → little f i n < 256 ^ n
little_below f i zero h = lit< tt
little_below f i (suc n) h =
    let first : f i < 256 = rw add-zero at (h 0 (omega arith)) in
    let rest = little_below f (i + 1) n (λ j l. rw (add_assoc, one-add) (h (suc j) (omega arith))) in
    rw pow-suc (omega arith)

-- .. and each of its digits is told by it
pub little_tells : (f g : ℕ → ℕ) (i k n : ℕ) → ((j : ℕ) → j < n → f (i + j) < 256) → ((j : ℕ) → j < n → g (k + j) < 256)
    → little f i n ≡ little g k n → (j : ℕ) → j < n → f (i + j) ≡ g (k + j)
little_tells f g i k zero p q e j h = absurd (not-suc-le-zero h)
little_tells f g i k (suc n) p q e zero h =
    let u = p 0 (omega arith) in
    let v = q 0 (omega arith) in
    rw (add-zero, add-zero) (omega (arith, rw add-zero at u, rw add-zero at v, e))
little_tells f g i k (suc n) p q e (suc j) h =
    let u = rw add-zero at (p 0 (omega arith)) in
    let v = rw add-zero at (q 0 (omega arith)) in
    let rest : little f (i + 1) n ≡ little g (k + 1) n = omega (arith, u, v, e) in
    rw (← one-add j, ← add_assoc, ← add_assoc)
    (little_tells f g (i + 1) (k + 1) n
    (λ m l. rw (add_assoc, one-add) (p (suc m) (omega arith))) (λ m l. rw (add_assoc, one-add) (q (suc m) (omega arith))) rest j (omega arith))

-- .. and the number of one digit more has it on top
pub little_more : (f : ℕ → ℕ) (i n : ℕ) → little f i (suc n) ≡ little f i n + f (i + n) * 256 ^ n
little_more f i zero = let place : f (i + 0) ≡ f i = ap f (add-zero i) in omega arith
little_more f i (suc n) =
    let place : f (i + 1 + n) ≡ f (i + suc n) = ap f (omega arith) in
    rw (little_more f (i + 1) n, place, pow-suc) (omega arith)

-- n digits to the base 256 are 8 times n bits
pub pow_bytes : (n : ℕ) → 256 ^ n ≡ 2 ^ (8 * n)
pow_bytes zero = refl
pow_bytes (suc n) = pow-suc 256 n ∙ ap (λ (k : ℕ). k * 256) (pow_bytes n) ∙ sym (ap (λ (k : ℕ). 2 ^ k) (mul-suc 8 n) ∙ pow-add 2 (8 * n) 8)

-- a number of n digits is the number of its n lowest
pub little_self : (v n : ℕ) → v < 256 ^ n → little (λ j. v / 256 ^ j % 256) 0 n ≡ v
little_self v n h = little_digits v 0 n ∙ rw div-one (mod-eq_of_lt h)

-- digit j of the number that digits make
pub little_digit : (f : ℕ → ℕ) (i n : ℕ) → ((j : ℕ) → j < n → f (i + j) < 256) → (j : ℕ) → j < n → little f i n / 256 ^ j % 256 ≡ f (i + j)
little_digit f i n small j l =
    rw zero-add at
    (little_tells (λ k. little f i n / 256 ^ k % 256) f 0 i n (λ k m. omega arith) small (little_self (little f i n) n (little_below f i n small)) j l)

-- the n lowest digits of a number are those of the number modulo 256^n
pub digit_mod : (v n j : ℕ) → j < n → v % 256 ^ n / 256 ^ j % 256 ≡ v / 256 ^ j % 256
digit_mod v n j h =
    let low : little (λ k. v / 256 ^ k % 256) 0 n ≡ v % 256 ^ n = rw div-one at (little_digits v 0 n) in
    rw (low, zero-add) at (little_digit (λ k. v / 256 ^ k % 256) 0 n (λ k l. mod-lt _ (lit< tt)) j h)
