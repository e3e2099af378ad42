-- The walk over the elements asked for, over any wishes and any answers: how it ends, and with what count.
use Rattle.std.specs.Prelude.{Ok, Err}
use mathlib.Core.Path.{◌≡◌, refl, ap, ◌∙◌}
use mathlib.Core.Bool.{Bool, true}
use mathlib.Core.List.{List}
use mathlib.Core.Logic.{◌⊎◌, inl, inr, ⊎_elim}
use Prim.Native.Nat.{ℕ, suc, ◌+◌, ◌-◌, ◌≤◌, ◌<◌}
use native.Mathlib.Nat.{add-zero, suc-add, zero-add}
use native.Mathlib.Omega.{arith}
use lib.ListN.{length}
use Rattle.ground.specs.Lists.{up_from}
use Rattle.ground.proofs.Laws.{true_or_false, never}
use Rattle.ground.proofs.Firsts.{clear_or_first, handed_down}
use Rattle.memory.specs.Troubles.{Trouble, none, bad, trouble_of}
use Rattle.memory.specs.declared.Fault.{Fault}
use Rattle.memory.specs.Elements.{Reading, bad_at}
use Rattle.steps.specs.Answers.{fault_number, Report, report_with}
use Rattle.steps.specs.Outcomes.{on_reading, walk}

-- how many of i, i + 1 and on, n of them, are asked for
abbrev pub many : (ℕ → Bool) → ℕ → ℕ → ℕ
many want i n = length (up_from want i n)

-- element e is found good, and so are all elements asked for from i up to it
abbrev pub Good : (ℕ → Reading) → ℕ → Type 0
Good answer e = trouble_of (answer e) ≡ none

abbrev pub Clear : (ℕ → Bool) → (ℕ → Reading) → ℕ → ℕ → Type 0
Clear want answer i e = (f : ℕ) → i ≤ f → f < e → want f ≡ true → Good answer f

-- what stops the walk: an element asked for, and its trouble
pub record Stopped (want : ℕ → Bool) (answer : ℕ → Reading) (i n : ℕ) : Type 0 where
  pub element : ℕ
  pub from : i ≤ element
  pub to : element < i + n
  pub asked : want element ≡ true
  pub clear : Clear want answer i element
  pub kind : Fault
  pub at : ℕ
  pub trouble : trouble_of (answer element) ≡ bad kind at

-- an element's part in the walk is its trouble
pub on_same : (r s : Reading) (e c : ℕ) (x y : Report) → trouble_of r ≡ trouble_of s → x ≡ y → on_reading r e c x ≡ on_reading s e c y
on_same (Ok v) (Ok w) e c x y h k = k
on_same (Ok v) (Err a) e c x y h k = let z : ◌≡◌ {A = ℕ} 0 1 = cc in absurd (omega arith)
on_same (Err a) (Ok w) e c x y h k = let z : ◌≡◌ {A = ℕ} 0 1 = cc in absurd (omega arith)
on_same (Err a) (Err b) e c x y h k = cc

module _ (want : ℕ → Bool) (answer : ℕ → Reading) where
  -- the walk goes on past e, or stops there
  abbrev Passed : ℕ → Type 0
  Passed e = want e ≡ true → Good answer e

  abbrev Stops : ℕ → Type 0
  Stops e = (want e ≡ true) × (k : Fault) × (a : ℕ) × (trouble_of (answer e) ≡ bad k a)

  passed_or_stops : (e : ℕ) → Passed e ⊎ Stops e
  passed_or_stops e = go (trouble_of (answer e)) refl
    where
      go : (t : Trouble) → trouble_of (answer e) ≡ t → Passed e ⊎ Stops e
      go none h = inl (λ _. h)
      go (bad k a) h = ⊎_elim (λ w. inr (w, k, a, h)) (λ w. inl (λ v. never v w)) (true_or_false (want e))

  pub clear_or_stopped : (i n : ℕ) → Clear want answer i (i + n) ⊎ Stopped want answer i n
  clear_or_stopped i n =
      ⊎_elim
      inl
      (λ s.
      let b = s.bad in
      inr (record { element = s.place; from = s.from; to = s.to; asked = b.0; clear = s.before; kind = b.1; at = b.2; trouble = b.3 }))
      (clear_or_first Passed Stops passed_or_stops i n)

  -- n elements that are passed leave their count, and the walk goes on with the m past them
  walk_on : (c i n m : ℕ) → Clear want answer i (i + n) → walk answer c (up_from want i (n + m)) ≡ walk answer (c + many want i n) (up_from want (i + n) m)
  walk_on c i n m clear = handed_down Passed LeavesCount hands i n clear (λ c. rw (zero-add, add-zero)) c
    where
      rest : List ℕ
      rest = up_from want (i + n) m

      LeavesCount : ℕ → ℕ → Type 0
      LeavesCount j k = (c : ℕ) → walk answer c (up_from want j (k + m)) ≡ walk answer (c + many want j k) rest

      hands : (j k : ℕ) → Passed j → LeavesCount (j + 1) k → LeavesCount j (suc k)
      hands j k good past c = rw suc-add (
          ⊎_elim
          (λ w. rw w (on_same (answer j) (Ok 0) j c _ _ (good w) (past (c + 1)) ∙ ap (λ (x : ℕ). walk answer x rest) (omega arith)))
          (λ w. rw w (past c))
          (true_or_false (want j)))

  pub walk_clear : (c i n : ℕ) → Clear want answer i (i + n) → walk answer c (up_from want i n) ≡ report_with 0 (c + many want i n) 0 0
  walk_clear c i n h = rw add-zero at (walk_on c i n 0 h)

  pub walk_stopped : (c i n : ℕ) (s : Stopped want answer i n)
      → walk answer c (up_from want i n) ≡ report_with (fault_number s.kind) (c + many want i (s.element - i)) s.element s.at
  walk_stopped c i n s =
      let f = s.from in
      let t = s.to in
      let d = s.element - i in
      let m = n - suc d in
      let e : n ≡ d + suc m = omega arith in
      let here : i + d ≡ s.element = omega arith in
      ap (λ (k : ℕ). walk answer c (up_from want i k)) e
      ∙ walk_on c i d (suc m) (λ j p q. s.clear j p (omega arith))
      ∙ rw (here, s.asked) (on_same (answer s.element) (Err (bad_at s.kind s.at)) s.element _ _ _ s.trouble refl)
