-- What is claimed of the line that says why a program ends early.
use Prim.Native.Nat.{◌+◌, ◌<◌, ◌^◌, ◌≤◌, ℕ}
use Rattle.cases.specs.declared.heads.Refusal.{Refusal}
use Rattle.telling.specs.Lines.{LinePromise, RefusedPromise, line_of, reason_of}
use Rattle.texts.specs.Texts.{bytes_in}
use Rattle.texts.specs.declared.Text.{Text}
use lib.Chars.{codes}
use lib.ListN.{length}
use mathlib.Core.List.{List}
use mathlib.Core.Path.{◌≡◌}

-- a line that is no longer is said whole
pub line_whole : (prefix : List ℕ) (number : ℕ) (why : List ℕ) (r : Text) → LinePromise prefix number why r → number < 2 ^ 64
    → length prefix + length why ≤ 105 → bytes_in r ≡ line_of prefix number why
line_whole = Rattle.telling.proofs.Lines.line_whole

-- so is that of every refusal, behind a prefix of 51 bytes or fewer
pub refused_whole : (prefix : List ℕ) (number : ℕ) (why : Refusal) (r : Text) → RefusedPromise prefix number why r → number < 2 ^ 64
    → length prefix ≤ 51 → bytes_in r ≡ line_of prefix number (codes (reason_of why))
refused_whole = Rattle.telling.proofs.Lines.refused_whole

pub line_unique : (prefix : List ℕ) (number : ℕ) (why : List ℕ) (a b : Text) → LinePromise prefix number why a → LinePromise prefix number why b → a ≡ b
line_unique = Rattle.telling.proofs.Unique.line_unique

pub refused_unique : (prefix : List ℕ) (number : ℕ) (why : Refusal) (a b : Text) → RefusedPromise prefix number why a
    → RefusedPromise prefix number why b → a ≡ b
refused_unique = Rattle.telling.proofs.Unique.refused_unique
