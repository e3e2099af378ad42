-- A vector length is allowed, and a set-up is accepted, exactly when it is as the scope of work says.
use Prim.Native.Nat.{ℕ}
use mathlib.Core.Path.{◌≡◌}
use mathlib.Core.Bool.{Bool, true}
use mathlib.Core.List.{List}
use mathlib.Core.Logic.{◌↔◌}
use lib.ListN.{length}
use borrow.Author.Tests.{leb-true, le-leb, eqb-true, eq-eqb}
use Rattle.ground.proofs.Laws.{all_of_lem, all_hold}
use Rattle.memory.proofs.Accepts.{areas_exactly}
use Rattle.steps.specs.Benches.{Lent, Bench, areas_in, length_tests, is_length_allowed, file_tests, accepted_tests, is_accepted}
use Rattle.steps.specs.Said.{LengthAllowed, Accepted}

pub length_exactly : (vl : ℕ) → (is_length_allowed vl ≡ true) ↔ LengthAllowed vl
length_exactly vl = (
  λ h. let t = all_of_lem (length_tests vl) h in record { multiple = eqb-true _ _ (t 0); least = leb-true _ _ (t 1); largest = leb-true _ _ (t 2) },
  λ a. all_hold (length_tests vl) (eq-eqb _ _ a.multiple, (le-leb _ _ a.least, (le-leb _ _ a.largest, tt))),
)

module _ (l : Lent) (b : Bench) where
  abbrev files : List Bool
  files = file_tests l.settings.vl (length b.vectors) (length l.predicates) (length b.scalars)

  tests_mean : is_accepted l b ≡ true → Accepted l b
  unfolding is_accepted
  tests_mean h =
      let t = all_of_lem (accepted_tests l b) h in
      let f = all_of_lem files (t 0) in
      record {
        allowed = (length_exactly l.settings.vl).0 (f 0);
        vectors = eqb-true _ _ (f 1);
        predicates = eqb-true _ _ (f 2);
        scalars = eqb-true _ _ (f 3);
        areas = (areas_exactly (areas_in l b)).0 (t 1);
      }

  met : Accepted l b → is_accepted l b ≡ true
  unfolding is_accepted
  met a =
      all_hold (accepted_tests l b) (
        all_hold files (
          (length_exactly l.settings.vl).1 a.allowed,
          (eq-eqb _ _ a.vectors, (eq-eqb _ _ a.predicates, (eq-eqb _ _ a.scalars, tt))),
        ),
        ((areas_exactly (areas_in l b)).1 a.areas, tt),
      )

  pub accepted_exactly : (is_accepted l b ≡ true) ↔ Accepted l b
  accepted_exactly = (tests_mean, met)
