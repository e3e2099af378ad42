-- What is claimed of short texts.
use Prim.Native.Nat.{◌≤◌, ℕ}
use Rattle.texts.specs.Texts.{AndPromise, DecimalPromise, SamePromise, TextPromise, and_of, bytes_in, empty}
use Rattle.texts.specs.declared.Text.{Text}
use lib.ListN.{length}
use mathlib.Core.Bool.{Bool, true}
use mathlib.Core.List.{List}
use mathlib.Core.Logic.{◌↔◌}
use mathlib.Core.Path.{◌≡◌}

-- a text of bytes that have room says these bytes
pub says_whole : (s : List ℕ) → length s ≤ 128 → bytes_in (and_of empty s) ≡ s
says_whole = Rattle.texts.proofs.Texts.says_whole

pub of_unique : (s : List ℕ) (a b : Text) → TextPromise s a → TextPromise s b → a ≡ b
of_unique = Rattle.texts.proofs.Unique.of_unique

pub and_unique : (t : Text) (s : List ℕ) (a b : Text) → AndPromise t s a → AndPromise t s b → a ≡ b
and_unique = Rattle.texts.proofs.Unique.and_unique

pub number_unique : (t : Text) (v : ℕ) (a b : Text) → DecimalPromise t v a → DecimalPromise t v b → a ≡ b
number_unique = Rattle.texts.proofs.Unique.number_unique

pub same_unique : (t : Text) (s : List ℕ) (a b : Bool) → SamePromise t s a → SamePromise t s b → a ≡ b
same_unique = Rattle.texts.proofs.Unique.same_unique

-- whether a text says these bytes and no other
pub same_said : (t : Text) (s : List ℕ) (r : Bool) → SamePromise t s r → (r ≡ true) ↔ (bytes_in t ≡ s)
same_said = Rattle.texts.proofs.Texts.same_said
