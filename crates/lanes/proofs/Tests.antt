-- The definition's tests, in document 01's words: there is such a lane exactly when it says so.
use mathlib.Core.Path.{◌≡◌, refl}
use mathlib.Core.Bool.{true, ◌||◌}
use mathlib.Core.List.{List}
use mathlib.Core.Logic.{◌↔◌, inl, inr, ⊎_elim}
use Prim.Native.Nat.{ℕ, ◌*◌, ◌/◌, ◌≤◌, ◌<◌}
use lib.Dec.{T, ltb, leb, eqb, lit<, lit≤}
use lib.ListN.{length}
use borrow.Author.Tests.{leb-true, le-leb, ltb-true, lt-ltb, eqb-true, eq-eqb}
use Rattle.ground.proofs.Laws.{all_of_lem, all_hold, or_cases}
use Rattle.steps.proofs.Accepts.{length_exactly}
use Rattle.lanes.specs.Lanes.{width_fits, lane_tests, lane_there}
use Rattle.lanes.specs.Said.{WidthFor, There}
use Rattle.lanes.specs.declared.Kind.{Kind}
use Rattle.lanes.specs.declared.Kind.TheVariants.{Whole, Single, Double}

pub width_exactly : (kind : Kind) (width : ℕ) → (width_fits kind width ≡ true) ↔ WidthFor kind width
width_exactly Whole width = (
  λ h.
      or_cases ((eqb width 8 || eqb width 16) || eqb width 32) _ h
      (λ h. or_cases (eqb width 8 || eqb width 16) _ h
      (λ h. or_cases (eqb width 8) _ h (λ h. inl (eqb-true _ _ h)) (λ h. inr (inl (eqb-true _ _ h))))
      (λ h. inr (inr (inl (eqb-true _ _ h)))))
      (λ h. inr (inr (inr (eqb-true _ _ h)))),
  ⊎_elim (λ e. rw e refl) (⊎_elim (λ e. rw e refl) (⊎_elim (λ e. rw e refl) (λ e. rw e refl))),
)
width_exactly Single width = (eqb-true _ _, eq-eqb _ _)
width_exactly Double width = (eqb-true _ _, eq-eqb _ _)

-- a width that fits is 1 to 8 whole bytes
pub record WholeBytes (width : ℕ) : Type 0 where
  pub some : 0 < width
  pub whole : 8 * (width / 8) ≡ width
  pub word : width / 8 ≤ 8

is : (n : ℕ) → T (ltb 0 n) → 8 * (n / 8) ≡ n → T (leb (n / 8) 8) → {width : ℕ} → width ≡ n → WholeBytes width
is n s w b e = rw e (record { some = lit< s; whole = w; word = lit≤ b })

pub in_bytes : (kind : Kind) (width : ℕ) → WidthFor kind width → WholeBytes width
in_bytes Whole width h =
    ⊎_elim (is 8 tt refl tt) (⊎_elim (is 16 tt refl tt) (⊎_elim (is 32 tt refl tt) (is 64 tt refl tt))) h
in_bytes Single width e = is 32 tt refl tt e
in_bytes Double width e = is 64 tt refl tt e

module _ (vl : ℕ) (z : List ℕ) (register : ℕ) (kind : Kind) (width lane : ℕ) where
  said : lane_there vl (length z) register kind width lane ≡ true → There vl z register kind width lane
  unfolding lane_there
  said h =
      let t = all_of_lem (lane_tests vl (length z) register kind width lane) h in
      record {
        allowed = (length_exactly vl).0 (t 0);
        file = eqb-true _ _ (t 2);
        named = leb-true _ _ (t 3);
        sized = (width_exactly kind width).0 (t 1);
        counted = ltb-true _ _ (t 4);
      }

  met : There vl z register kind width lane → lane_there vl (length z) register kind width lane ≡ true
  unfolding lane_there
  met t =
      all_hold (lane_tests vl (length z) register kind width lane) (
        (length_exactly vl).1 t.allowed,
        ((width_exactly kind width).1 t.sized, (eq-eqb _ _ t.file, (le-leb _ _ t.named, (lt-ltb _ _ t.counted, tt)))),
      )

  pub there_exactly : (lane_there vl (length z) register kind width lane ≡ true) ↔ There vl z register kind width lane
  there_exactly = (said, met)
