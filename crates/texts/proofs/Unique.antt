-- No two results meet the promises of a text.
use mathlib.Core.Path.{◌≡◌}
use mathlib.Core.Bool.{Bool}
use mathlib.Core.List.{List}
use Prim.Native.Nat.{ℕ}
use Rattle.ground.proofs.Laws.{only_one}
use Rattle.texts.specs.Texts.{TextPromise, AndPromise, DecimalPromise, SamePromise}
use Rattle.texts.specs.declared.Text.{Text}

pub of_unique : (s : List ℕ) (a b : Text) → TextPromise s a → TextPromise s b → a ≡ b
of_unique s a b p q = only_one p q

pub and_unique : (t : Text) (s : List ℕ) (a b : Text) → AndPromise t s a → AndPromise t s b → a ≡ b
and_unique t s a b p q = only_one p q

pub number_unique : (t : Text) (v : ℕ) (a b : Text) → DecimalPromise t v a → DecimalPromise t v b → a ≡ b
number_unique t v a b p q = only_one p q

pub same_unique : (t : Text) (s : List ℕ) (a b : Bool) → SamePromise t s a → SamePromise t s b → a ≡ b
same_unique t s a b p q = only_one p q
