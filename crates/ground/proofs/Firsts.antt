-- Places walked upward to the first bad one, whatever makes a place good or bad: all are good or one is the first bad one, and what holds
-- past good places holds where they begin, if each hands it down.
use mathlib.Core.Path.{◌≡◌, subst}
use mathlib.Core.Logic.{◌⊎◌, inl, inr, ⊎_elim}
use Prim.Native.Nat.{ℕ, zero, suc, ◌+◌, ◌≤◌, ◌<◌}
use native.Mathlib.Nat.{add-zero}
use native.Mathlib.Omega.{arith}
use lib.Dec.{eqb}
use borrow.Author.Tests.{eqb-true, eqb-false}
use Rattle.ground.proofs.Laws.{true_or_false}

-- every place from i up to e is good
abbrev pub AllGood : (ℕ → Type 0) → ℕ → ℕ → Type 0
AllGood Good i e = (k : ℕ) → i ≤ k → k < e → Good k

-- the first bad place of i, i + 1 and on, n of them
pub record First (Good Bad : ℕ → Type 0) (i n : ℕ) : Type 0 where
  pub place : ℕ
  pub from : i ≤ place
  pub to : place < i + n
  pub before : AllGood Good i place
  pub bad : Bad place

module _ (Good : ℕ → Type 0) where
  -- place i, and those from i + 1 on
  with_next : (i e : ℕ) → Good i → AllGood Good (i + 1) e → AllGood Good i e
  with_next i e good past k l m =
      ⊎_elim
      (λ t. subst Good (eqb-true i k t) good)
      (λ t. let other = eqb-false i k t in past k (omega arith) m)
      (true_or_false (eqb i k))

  pub clear_or_first : (Bad : ℕ → Type 0) → ((k : ℕ) → Good k ⊎ Bad k) → (i n : ℕ) → AllGood Good i (i + n) ⊎ First Good Bad i n
  clear_or_first Bad judge i zero = inl (λ k l m. absurd (omega arith))
  clear_or_first Bad judge i (suc n) =
      ⊎_elim
      (λ good. ⊎_elim
      (λ c. inl (with_next i (i + suc n) good (λ k l m. c k l (omega arith))))
      (λ s.
      let f = s.from in
      let t = s.to in
      inr (record { place = s.place; from = omega arith; to = omega arith; before = with_next i s.place good s.before; bad = s.bad }))
      (clear_or_first Bad judge (i + 1) n))
      (λ bad. inr (record { place = i; from = omega arith; to = omega arith; before = λ k l m. absurd (omega arith); bad = bad }))
      (judge i)

  -- n good places hand down what holds past them
  pub handed_down : (Holds : ℕ → ℕ → Type 0) → ((i n : ℕ) → Good i → Holds (i + 1) n → Holds i (suc n))
      → (i n : ℕ) → AllGood Good i (i + n) → Holds (i + n) 0 → Holds i n
  handed_down Holds hands i zero c h = rw add-zero at h
  handed_down Holds hands i (suc n) c h =
      let past : i + suc n ≡ i + 1 + n = omega arith in
      hands i n (c i (omega arith) (omega arith)) (handed_down Holds hands (i + 1) n (λ k l m. c k (omega arith) (omega arith)) (rw past at h))
