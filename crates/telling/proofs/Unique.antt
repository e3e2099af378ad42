-- No two texts meet the promises of a line.
use mathlib.Core.Path.{◌≡◌}
use mathlib.Core.List.{List}
use Prim.Native.Nat.{ℕ}
use Rattle.ground.proofs.Laws.{only_one}
use Rattle.texts.specs.declared.Text.{Text}
use Rattle.cases.specs.declared.heads.Refusal.{Refusal}
use Rattle.telling.specs.Lines.{LinePromise, RefusedPromise}

pub line_unique : (prefix : List ℕ) (number : ℕ) (why : List ℕ) (a b : Text) → LinePromise prefix number why a → LinePromise prefix number why b → a ≡ b
line_unique prefix number why a b p q = only_one p q

pub refused_unique : (prefix : List ℕ) (number : ℕ) (why : Refusal) (a b : Text)
    → RefusedPromise prefix number why a → RefusedPromise prefix number why b → a ≡ b
refused_unique prefix number why a b p q = only_one p q
