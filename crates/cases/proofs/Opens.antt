-- Which bytes are answered, in one record: "Bad input" of docs/CASES.md, turned round. Any others are refused.
use Prim.Native.Nat.{ℕ, ◌≤◌}
use mathlib.Core.Path.{◌≡◌, refl, sym, ◌∙◌, ap}
use mathlib.Core.Bool.{false}
use mathlib.Core.List.{List}
use mathlib.Core.Logic.{◌⊎◌, inl, inr}
use native.Mathlib.Omega.{arith}
use borrow.Author.Tests.{ltb-false, le-ltb, eq-eqb}
use lib.Dec.{eqb, ltb, lit≤}
use lib.ListN.{length}
use Rattle.std.specs.Prelude.{Result, Ok, Err}
use Rattle.ground.proofs.Laws.{if_cases}
use Rattle.cases.specs.Parts.{kind_in, head_bytes, case_bytes}
use Rattle.cases.specs.Heads.{flags_in, kind_of, strange_kind, question_of, head_of, marked_of, opened_of}
use Rattle.cases.specs.Outcomes.{outcome_length}
use Rattle.cases.specs.Answers.{After, outcome_in, on_case, on_opened, after_case}
use Rattle.cases.specs.Inside.{question_here}
use Rattle.cases.specs.declared.heads.Question.{Question}
use Rattle.cases.specs.declared.heads.Case.{Case}
use Rattle.cases.specs.declared.heads.Refusal.{Refusal}
use Rattle.cases.specs.declared.heads.Opened.{Opened}
use Rattle.cases.specs.declared.Answered.{Answered}
use Rattle.cases.proofs.Limits.{all_short, GoodHead, opened}
use Rattle.cases.proofs.Flags.{kind_known, kind_with}

-- a head that begins a case, and every byte of the case is there
pub record Good (s : List ℕ) : Type 0 where
  pub head : GoodHead s
  pub whole : case_bytes (head_of s) ≤ length s

-- the kind that is read with the question is that of the flags, if it is here
pub kind_asked : (s : List ℕ) → strange_kind (kind_of (flags_in s)) ≡ false → kind_in (question_of s) ≡ kind_of (flags_in s)
unfolding question_of
kind_asked s h = kind_with _ _ (kind_known _ h)

-- a question that is read
pub record Read (s : List ℕ) (q : Question) : Type 0 where
  pub here : strange_kind (kind_of (flags_in s)) ≡ false
  pub same : q ≡ question_of s
  pub kind : kind_in q ≡ kind_of (flags_in s)

pub read_asked : (s : List ℕ) (q : Question) → Ok q ≡ question_here s → Read s q
read_asked s q =
    if_cases (λ (r : Result Question Refusal). Ok q ≡ r → Read s q) (strange_kind (kind_of (flags_in s))) _ _ (λ _ e. absurd (cc))
    (λ h e. let same : q ≡ question_of s = cc in record { here = h; same = same; kind = ap kind_in same ∙ kind_asked s h })

-- a head has 96 bytes at least
pub head_least : (kind : ℕ) → 96 ≤ head_bytes kind
unfolding head_bytes
head_least kind = if_cases (λ (n : ℕ). 96 ≤ n) (eqb kind 0) 96 136 (λ _. lit≤ tt) (λ _. lit≤ tt)

module _ (s : List ℕ) (g : Good s) where
  head_there : head_bytes (kind_of (flags_in s)) ≤ length s
  unfolding head_of
  head_there = let w = g.whole in rw (← kind_asked s g.head.kind) (omega arith)

  pub good_opens : opened_of s ≡ Ok (record { case = head_of s; whole = case_bytes (head_of s) })
  unfolding opened_of marked_of
  good_opens =
      let h = g.head in
      let there = head_there in
      let least = head_least (kind_of (flags_in s)) in
      let four : 4 ≤ length s = omega arith in
      let rows : 96 ≤ length s = omega arith in
      rw (le-ltb _ _ four, eq-eqb _ _ h.begins, le-ltb _ _ rows, h.flags)
      (rw (h.kind, le-ltb _ _ h.level, le-ltb _ _ there) (sym (all_short h.bounds)))

  -- these bytes are answered
  pub good_answered : (out : List ℕ) → outcome_length (head_of s) ≤ length out
      → after_case s out ≡ record { answer = Ok (record { taken = case_bytes (head_of s); given = outcome_length (head_of s) }); out = outcome_in s (head_of s) out }
  unfolding after_case on_case
  good_answered out room = rw (good_opens, le-ltb _ _ g.whole, le-ltb _ _ room)

-- what opens a case has a good head
abbrev Opening : List ℕ → Result Opened Refusal → Type 0
Opening s (Err why) = Unit {0}
Opening s (Ok o) = (o.case ≡ head_of s) × GoodHead s

opening : (s : List ℕ) → Opening s (opened_of s)
opening s = opened s (Opening s) (λ why. tt) (λ g. (refl, g))

-- so no others are answered
pub answered_good : (s out : List ℕ) (a : Answered) → (after_case s out).answer ≡ Ok a
    → Good s × (a.taken ≡ case_bytes (head_of s)) × (outcome_length (head_of s) ≤ length out)
unfolding after_case on_case
answered_good s out a = go (opened_of s) (opening s)
  where
    Whole : Case → After → Type 0
    Whole c r = r.answer ≡ Ok a → (case_bytes c ≤ length s) × (a.taken ≡ case_bytes c) × (outcome_length c ≤ length out)

    refused : {A : Type 0} {why : Refusal} → Err why ≡ Ok a → A
    refused e = let z : ◌≡◌ {A = ℕ} 0 1 = cc in absurd (omega arith)

    whole : (c : Case) → Whole c (on_case s out c)
    whole c =
        if_cases (Whole c) (ltb (length s) (case_bytes c)) _ _ (λ _. refused) (λ w.
        if_cases (Whole c) (ltb (length out) (outcome_length c)) _ _ (λ _. refused) (λ r e. (ltb-false _ _ w, cc, ltb-false _ _ r)))

    go : (o : Result Opened Refusal) → Opening s o → (on_opened s out o).answer ≡ Ok a
        → Good s × (a.taken ≡ case_bytes (head_of s)) × (outcome_length (head_of s) ≤ length out)
    go (Err why) h e = refused e
    go (Ok o) h e = let w = rw h.0 at (whole o.case e) in (record { head = h.1; whole = w.0 }, w.1, w.2)

-- and what is not answered is refused, with nothing written
pub answered_or_refused : (s out : List ℕ)
    → ((a : Answered) × ((after_case s out).answer ≡ Ok a)) ⊎ ((why : Refusal) × (after_case s out ≡ record { answer = Err why; out = out }))
unfolding after_case on_case
answered_or_refused s out = go (opened_of s)
  where
    Either : After → Type 0
    Either r = ((a : Answered) × (r.answer ≡ Ok a)) ⊎ ((why : Refusal) × (r ≡ record { answer = Err why; out = out }))

    go : (o : Result Opened Refusal) → Either (on_opened s out o)
    go (Err why) = inr (why, refl)
    go (Ok o) =
        if_cases Either (ltb (length s) (case_bytes o.case)) _ _ (λ _. inr (_, refl)) (λ _.
        if_cases Either (ltb (length out) (outcome_length o.case)) _ _ (λ _. inr (_, refl)) (λ _. inl (_, refl)))
