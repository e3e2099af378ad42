-- A load's outcome depends on the answers to the elements that it asks for, and on no other; its report, only on which of them
-- fault, where and how, and never on a value.
use mathlib.Core.Path.{◌≡◌, refl, ap}
use mathlib.Core.Bool.{Bool, true}
use mathlib.Core.List.{List}
use mathlib.Core.Logic.{⊎_elim}
use Prim.Native.Nat.{ℕ, zero, suc, ◌+◌, ◌/◌, ◌≤◌, ◌<◌}
use native.Mathlib.Nat.{mod-lt}
use native.Mathlib.Omega.{arith}
use lib.Dec.{ltb}
use borrow.Author.Tests.{ltb-true}
use Rattle.ground.specs.Lists.{up_from}
use Rattle.ground.proofs.Laws.{true_or_false, if_cong, and_left, and_right, any_of, listed_cong}
use Rattle.ground.proofs.Firsts.{handed_down}
use Rattle.ground.specs.Sizes.{bytes_of}
use Rattle.memory.specs.Troubles.{trouble_of}
use Rattle.memory.specs.Elements.{Reading}
use Rattle.steps.specs.Benches.{Lent, Bench}
use Rattle.steps.specs.Lanes.{governing_bytes, is_active, wanted_by, wanted, asked, may_take_by, lane_takes, element_by, lane_element, destinations_by, destinations_in}
use Rattle.steps.specs.Outcomes.{walk, survey_of, lane_value, register_byte, register_of, vectors_after, bench_after, outcome_of}
use Rattle.steps.specs.declared.Rule.{Rule}
use Rattle.steps.specs.declared.Rule.TheVariants.{Always, LaneBit, ElementBit}
use Rattle.steps.specs.declared.Plan.{Plan}
use Rattle.steps.proofs.Walks.{on_same}

-- two walks over answers with the same troubles
walk_same : (a b : ℕ → Reading) (want : ℕ → Bool) (n : ℕ) → ((e : ℕ) → e < n → want e ≡ true → trouble_of (a e) ≡ trouble_of (b e))
    → walk a 0 (up_from want 0 n) ≡ walk b 0 (up_from want 0 n)
walk_same a b want n h =
    handed_down (λ (e : ℕ). want e ≡ true → trouble_of (a e) ≡ trouble_of (b e))
    (λ (i m : ℕ). (c : ℕ) → walk a c (up_from want i m) ≡ walk b c (up_from want i m))
    (λ i m same past c. ⊎_elim (λ w. rw w (on_same (a i) (b i) i c _ _ (same w) (past (c + 1)))) (λ w. rw w (past c)) (true_or_false (want i)))
    0 n (λ e p q. h e (omega arith)) (λ c. refl) 0

module _ (a b : ℕ → Reading) (p : Plan) (pred : List ℕ) where
  -- which asked elements fault, where and how: the report
  pub same_survey : ((e : ℕ) → e < p.elements → wanted p pred e ≡ true → trouble_of (a e) ≡ trouble_of (b e)) → survey_of a p pred ≡ survey_of b p pred
  unfolding survey_of asked
  same_survey h = walk_same a b (wanted p pred) p.elements h

  -- the element that a lane of a destination takes is asked for
  module _ (some : 0 < p.elements) where
    abbrev Asked : Rule → ℕ → Type 0
    Asked r e = (e < p.elements) × (wanted_by p pred r e ≡ true)

    by_rule : (r : Rule) (j l : ℕ) → j < destinations_by r p.elements → l < p.filled → may_take_by p pred r l ≡ true
        → Asked r (element_by r p.elements j l)
    by_rule Always j l h k t = (h, refl)
    by_rule LaneBit j l h k t = (some, any_of (is_active p pred) p.filled l k t)
    by_rule ElementBit j l h k t = (mod-lt l some, t)

    pub takes_wanted : (j l : ℕ) → j < destinations_in p → lane_takes p pred l ≡ true → (lane_element p j l < p.elements) × (wanted p pred (lane_element p j l) ≡ true)
    unfolding lane_takes wanted lane_element destinations_in
    takes_wanted j l h t =
        by_rule p.rule j l h (ltb-true l p.filled (and_left (ltb l p.filled) _ t)) (and_right (ltb l p.filled) _ t)

    module _ (same : (e : ℕ) → e < p.elements → wanted p pred e ≡ true → a e ≡ b e) where
      same_lane : (j l : ℕ) → j < destinations_in p → lane_value a p pred j l ≡ lane_value b p pred j l
      unfolding lane_value
      same_lane j l h = if_cong (lane_takes p pred l) (λ t. let w = takes_wanted j l h t in rw (same _ w.0 w.1)) (λ _. refl)

      pub same_register : (j n : ℕ) → j < destinations_in p → register_of a p pred j n ≡ register_of b p pred j n
      unfolding register_of register_byte
      same_register j n h = listed_cong _ _ 0 n (λ i _ _. rw (same_lane j (i / bytes_of p.lane) h))

      -- so each destination is the same, and the file
      pub same_vectors : (n : ℕ) (z : List ℕ) (k : ℕ) → k ≤ destinations_in p → vectors_after a p pred n z k ≡ vectors_after b p pred n z k
      unfolding vectors_after
      same_vectors n z zero h = refl
      same_vectors n z (suc k) h = rw (same_vectors n z k (omega arith), same_register k n h)

-- the whole outcome, over any two answers
pub same_outcome : (a b : ℕ → Reading) (l : Lent) (before : Bench) (p : Plan) → 0 < p.elements
    → ((e : ℕ) → e < p.elements → wanted p (governing_bytes l p) e ≡ true → a e ≡ b e) → outcome_of a l before p ≡ outcome_of b l before p
unfolding outcome_of bench_after
same_outcome a b l before p some same =
    rw (same_survey a b p (governing_bytes l p) (λ e k w. ap trouble_of (same e k w)), same_vectors a b p (governing_bytes l p) some same _ _ (destinations_in p) (omega arith))
