-- A choice by a test, a row of tests, and a table whose first fitting row counts.
use Rattle.std.specs.Prelude.{if◌then◌else◌, Bool, true, ◌&&◌, List, [], ◌∷◌}

infix 20 ◌⇒◌
-- t and every test after it, joined from the left as `t & u & ..` is
abbrev pub and_all : Bool → List Bool → Bool
and_all t [] = t
and_all t (u ∷ us) = and_all (t && u) us

-- every test of a row holds
abbrev pub all_of : List Bool → Bool
all_of [] = true
all_of (t ∷ ts) = and_all t ts

-- a row of a table: what it gives where its test holds
pub record Row (A : Type 0) : Type 0 where
  pub test : Bool
  pub gives : A

abbrev pub ◌⇒◌ : {A : Type 0} → Bool → A → Row A
t ⇒ a = record { test = t; gives = a }

-- what the first row gives whose test holds, and d where none does
abbrev pub first_of : {A : Type 0} → List (Row A) → A → A
first_of [] d = d
first_of (r ∷ rs) d = if r.test then r.gives else first_of rs d
