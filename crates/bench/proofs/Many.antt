-- How many of a row of tests hold: one more, in two parts, and some exactly where one does.
use Rattle.std.proofs.Common.{if◌then◌else◌, ◌≡◌, ℕ, zero, suc, ◌+◌, ◌<◌, ◌≤◌, Bool, true, false, ◌||◌, ltb, sym, refl, ◌∙◌, add-zero, add-suc, zero-add, add-one, arith, lt-ltb}
use Rattle.std.specs.Int.{from_bool}
use mathlib.Core.Bool.{or-true, or-false}
use Rattle.ground.specs.Lists.{any_below}
use Rattle.steps.proofs.Walks.{many}
use Rattle.steps.proofs.Counts.{many_more, many_most}

-- 1 where a test holds
abbrev pub one : Bool → ℕ
one b = if b then 1 else 0

pub one_most : (b : Bool) → one b ≤ 1
one_most true = omega arith
one_most false = omega arith

-- one more, at the end
more : (f : ℕ → Bool) (i n : ℕ) → many f i (suc n) ≡ many f i n + one (f (i + n))
more f i n = many_more f i n ∙ go (f (i + n))
  where
    go : (b : Bool) → (if b then suc (many f i n) else many f i n) ≡ many f i n + one b
    go true = omega arith
    go false = sym (add-zero _)

pub many_next : (f : ℕ → Bool) (n : ℕ) → many f 0 n + one (f n) ≡ many f 0 (n + 1)
many_next f n = let e : 0 + n ≡ n = zero-add n in rw add-one (rw e at (sym (more f 0 n)))

pub many_split : (f : ℕ → Bool) (a b : ℕ) → many f 0 (a + b) ≡ many f 0 a + many (λ j. f (a + j)) 0 b
many_split f a zero = rw (add-zero, add-zero)
many_split f a (suc b) =
    let next = rw (zero-add (a + b), many_split f a b) at (more f 0 (a + b)) in
    let last = rw (zero-add b) at (more (λ j. f (a + j)) 0 b) in
    rw (add-suc, next, last) (omega arith)

pub many_cong : (f g : ℕ → Bool) (i n : ℕ) → ((j : ℕ) → i ≤ j → j < i + n → f j ≡ g j) → many f i n ≡ many g i n
many_cong f g i zero h = refl
many_cong f g i (suc n) h =
    let less = many_cong f g i n (λ j l m. h j l (omega arith)) in
    rw (more f i n, more g i n, h (i + n) (omega arith) (omega arith), less)

-- one more of n is no more than one more
pub next_most : (f : ℕ → Bool) (n : ℕ) (b : Bool) → many f 0 n + one b ≤ n + 1
next_most f n b = omega (arith, many_most f 0 n, one_most b)

pub many_none : (i n : ℕ) → many (λ _. false) i n ≡ 0
many_none i zero = refl
many_none i (suc n) = many_none (i + 1) n

-- some hold exactly where one does
pub any_many : (f : ℕ → Bool) (n : ℕ) → ltb 0 (many f 0 n) ≡ any_below f n
any_many f zero = refl
any_many f (suc n) =
    let next = rw (zero-add n) at (more f 0 n) in
    rw (next, ← any_many f n) (go (f n))
  where
    go : (b : Bool) → ltb 0 (many f 0 n + one b) ≡ (ltb 0 (many f 0 n) || b)
    go true = rw or-true (lt-ltb 0 (many f 0 n + 1) (omega arith))
    go false = rw (or-false, add-zero)

-- .. and as code makes it of a test
pub one_is : (b : Bool) → from_bool b ≡ one b
one_is true = refl
one_is false = refl
