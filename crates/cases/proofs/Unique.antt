-- No two results, and no two outcomes, meet the promises of the byte format.
use mathlib.Core.Path.{◌≡◌}
use mathlib.Core.List.{List}
use Prim.Native.Nat.{ℕ}
use Rattle.std.specs.Prelude.{Result}
use Rattle.ground.proofs.Laws.{only_one}
use Rattle.cases.specs.Heads.{HeadPromise}
use Rattle.cases.specs.Answers.{After, AnswerPromise}
use Rattle.cases.specs.declared.heads.Opened.{Opened}
use Rattle.cases.specs.declared.heads.Refusal.{Refusal}

pub head_unique : (s : List ℕ) (a b : Result Opened Refusal) → HeadPromise s a → HeadPromise s b → a ≡ b
head_unique s a b p q = only_one p q

pub answer_unique : (s out : List ℕ) (a b : After) → AnswerPromise s out a.answer a.out → AnswerPromise s out b.answer b.out → a ≡ b
answer_unique s out a b p q = only_one p q
