-- The count of element reads is the number of active elements, and there is one such number.
use Rattle.std.specs.Prelude.{if◌then◌else◌}
use mathlib.Core.Path.{◌≡◌, refl, ap, ◌∙◌}
use mathlib.Core.Bool.{Bool, true, false}
use mathlib.Core.Logic.{◌↔◌}
use mathlib.Core.List.{List, [], ◌∷◌}
use Prim.Native.Nat.{ℕ, zero, suc, ◌+◌, ◌≤◌, ◌<◌}
use native.Mathlib.Nat.{add-zero, zero-add, add-suc}
use native.Mathlib.Omega.{arith}
use lib.ListN.{length}
use Rattle.ground.specs.Lists.{up_from}
use Rattle.ground.proofs.Laws.{if_cases, never}
use Rattle.steps.specs.Demand1.{Counted, start, hit, miss}
use Rattle.steps.proofs.Walks.{many}

-- a first place before a list that is one longer at its end
longer : (i : ℕ) (t u : Bool) (xs ys : List ℕ) → length xs ≡ (if u then suc (length ys) else length ys)
    → length (if t then i ∷ xs else xs) ≡ (if u then suc (length (if t then i ∷ ys else ys)) else length (if t then i ∷ ys else ys))
longer i true true xs ys h = ap suc h
longer i true false xs ys h = ap suc h
longer i false true xs ys h = h
longer i false false xs ys h = h

-- one more place, at the end
pub many_more : (want : ℕ → Bool) (i n : ℕ) → many want i (suc n) ≡ (if want (i + n) then suc (many want i n) else many want i n)
many_more want i zero = rw add-zero (go (want i))
  where
    go : (t : Bool) → length (if t then i ∷ [] else []) ≡ (if t then 1 else 0)
    go true = refl
    go false = refl
many_more want i (suc n) =
    let k : i + 1 + n ≡ i + suc n = omega arith in
    longer i (want i) (want (i + suc n)) (up_from want (i + 1) (suc n)) (up_from want (i + 1) n) (rw k at (many_more want (i + 1) n))

pub many_most : (want : ℕ → Bool) (i n : ℕ) → many want i n ≤ n
many_most want i zero = omega arith
many_most want i (suc n) =
    let ih = many_most want (i + 1) n in
    if_cases (λ (l : List ℕ). length l ≤ suc n) (want i) (i ∷ up_from want (i + 1) n) (up_from want (i + 1) n) (λ _. omega arith) (λ _. omega arith)

-- all of them
pub many_all : (want : ℕ → Bool) (n : ℕ) → ((e : ℕ) → want e ≡ true) → many want 0 n ≡ n
many_all want zero h = refl
many_all want (suc n) h = many_more want 0 n ∙ rw (h (0 + n), many_all want n h)

pub many_counted : (want : ℕ → Bool) (P : ℕ → Type 0) (e : ℕ) → ((f : ℕ) → f < e → (want f ≡ true) ↔ P f) → Counted P e (many want 0 e)
many_counted want P zero h = start
many_counted want P (suc e) h =
    let c = many_counted want P e (λ f l. h f (omega arith)) in
    let i = h e (omega arith) in
    rw (many_more want 0 e, zero-add e)
    (if_cases (Counted P (suc e)) (want e) (suc (many want 0 e)) (many want 0 e) (λ w. hit (i.0 w) c) (λ w. miss (λ q. never (i.1 q) w) c))

-- no more above
pub counted_on : (P : ℕ → Type 0) (e n k : ℕ) → ((f : ℕ) → e ≤ f → P f → ⊥) → Counted P e n → Counted P (e + k) n
counted_on P e n zero h c = rw add-zero c
counted_on P e n (suc k) h c = rw add-suc (miss (h (e + k) (omega arith)) (counted_on P e n k h c))

pub counted_once : (P : ℕ → Type 0) {e n k : ℕ} → Counted P e n → Counted P e k → n ≡ k
counted_once P start start = refl
counted_once P (hit p c) (hit q d) = ap suc (counted_once P c d)
counted_once P (hit p c) (miss q d) = absurd (q p)
counted_once P (miss p c) (hit q d) = absurd (p q)
counted_once P (miss p c) (miss q d) = counted_once P c d

pub counted_most : (P : ℕ → Type 0) {e n : ℕ} → Counted P e n → n ≤ e
counted_most P start = omega arith
counted_most P (hit p c) = let h = counted_most P c in omega arith
counted_most P (miss p c) = let h = counted_most P c in omega arith
