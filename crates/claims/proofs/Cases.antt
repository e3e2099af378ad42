-- What is claimed of the byte format.
use Prim.Native.Nat.{◌≤◌, ℕ}
use Rattle.cases.proofs.Limits.{Longest}
use Rattle.cases.specs.Answers.{After, AnswerPromise, after_case}
use Rattle.cases.specs.Heads.{HeadPromise, opened_of}
use Rattle.cases.specs.Packs.{Asked, OpensWith, Packable, answer_for, outcome_for, packed}
use Rattle.cases.specs.declared.Answered.{Answered}
use Rattle.cases.specs.declared.heads.Opened.{Opened}
use Rattle.cases.specs.declared.heads.Refusal.{Refusal}
use Rattle.ground.specs.Lists.{EachBelow}
use Rattle.std.specs.Prelude.{Err, Ok, Result}
use lib.ListN.{length}
use mathlib.Core.List.{List, ◌++◌}
use mathlib.Core.Logic.{◌↔◌, ◌⊎◌}
use mathlib.Core.Path.{◌≡◌}

pub longest_case : (s : List ℕ) → Longest (opened_of s)
longest_case = Rattle.cases.proofs.Limits.longest_case

pub head_unique : (s : List ℕ) (a b : Result Opened Refusal) → HeadPromise s a → HeadPromise s b → a ≡ b
head_unique = Rattle.cases.proofs.Unique.head_unique

pub answer_unique : (s out : List ℕ) (a b : After) → AnswerPromise s out a.answer a.out → AnswerPromise s out b.answer b.out → a ≡ b
answer_unique = Rattle.cases.proofs.Unique.answer_unique

-- a packed case, whatever comes behind it, is answered with the outcome that it is due
pub packed_answered : (q : Asked) → Packable q → (rest out : List ℕ) → length (outcome_for q) ≤ length out → after_case (packed q ++ rest) out ≡ answer_for q out
packed_answered = Rattle.cases.proofs.Packs.packed_answered

-- bytes that are answered open with a packed case, and are answered as it is due
pub answered_packed : (s out : List ℕ) → EachBelow 256 s → (a : Answered) → (after_case s out).answer ≡ Ok a
    → (q : Asked) × OpensWith s q × (after_case s out ≡ answer_for q out) × (a.taken ≡ length (packed q))
answered_packed = Rattle.cases.proofs.Packs.answered_packed

-- exactly those bytes are refused, with nothing written, that open with no packed case
pub refused_exactly : (s out : List ℕ) → EachBelow 256 s → 66585 ≤ length out
    → ((why : Refusal) × (after_case s out ≡ record { answer = Err why; out = out })) ↔ ((q : Asked) → OpensWith s q → ⊥)
refused_exactly = Rattle.cases.proofs.Packs.refused_exactly

-- no bytes are packed from two cases
pub packed_unique : (q q' : Asked) → Packable q → Packable q' → (rest rest' : List ℕ) → packed q ++ rest ≡ packed q' ++ rest' → (q ≡ q') × (rest ≡ rest')
packed_unique = Rattle.cases.proofs.Packs.packed_unique

-- cases of each kind that is here can be packed
pub packable_met : (kind : ℕ) → (kind ≡ 0) ⊎ (kind ≡ 2) ⊎ (kind ≡ 3) → (q : Asked) × Packable q × (q.kind ≡ kind)
packable_met = Rattle.cases.proofs.Packs.packable_met
