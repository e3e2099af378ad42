-- What is shown of a lane that is asked for by numbers, and how long the part is that the address window hands out.
use Rattle.std.proofs.Common.{◌≡◌, ℕ, ◌-◌, Bool, true, false, List, [], ◌∷◌, Option, Some, None, eqb, length, refl, ◌∙◌, ap, length-drop, Bor}
use Rattle.ground.specs.Choices.{◌⇒◌, first_of}
use Rattle.memory.specs.Windows.{PartOf}
use Rattle.memory.proofs.Windows.{part_rest}
use Rattle.lanes.specs.Lanes.{shown_of}
use Rattle.lanes.proofs.Windows.{no_register, no_width, no_nan}
use Rattle.lanes.specs.declared.Kind.{Kind}
use Rattle.lanes.specs.declared.Kind.TheVariants.{Whole, Single, Double}
use Rattle.lanes.specs.declared.Shown.{Shown}
use Rattle.cases.specs.Windows.{asked_of}
use Rattle.cases.specs.Inside.{lane_kind}
use Rattle.cases.specs.declared.heads.Numbers.{Numbers}

-- what is shown of the kind that three tests choose
module _ (f : Kind → Option Shown) where
  some : (t u v : Bool) (k : Kind) → Some k ≡ first_of ((t ⇒ Some Whole) ∷ (u ⇒ Some Single) ∷ (v ⇒ Some Double) ∷ []) None
      → first_of ((t ⇒ f Whole) ∷ (u ⇒ f Single) ∷ (v ⇒ f Double) ∷ []) None ≡ f k
  some true u v k e = let same : Whole ≡ k = cc in ap f same
  some false true v k e = let same : Single ≡ k = cc in ap f same
  some false false true k e = let same : Double ≡ k = cc in ap f same
  some false false false k e = absurd (cc)

  none : (t u v : Bool) → None ≡ first_of ((t ⇒ Some Whole) ∷ (u ⇒ Some Single) ∷ (v ⇒ Some Double) ∷ []) None
      → first_of ((t ⇒ f Whole) ∷ (u ⇒ f Single) ∷ (v ⇒ f Double) ∷ []) None ≡ None
  none true u v e = absurd (cc)
  none false true v e = absurd (cc)
  none false false true e = absurd (cc)
  none false false false e = refl

module _ (vl : ℕ) (z : List ℕ) (n : Numbers) where
  pub asked_kind : (k : Kind) → Some k ≡ lane_kind n.a1 → asked_of vl z n ≡ shown_of vl z n.a0 k n.a2 n.a3
  asked_kind k = some (λ (m : Kind). shown_of vl z n.a0 m n.a2 n.a3) (eqb n.a1 0) (eqb n.a1 1) (eqb n.a1 2) k

  pub asked_none : None ≡ lane_kind n.a1 → asked_of vl z n ≡ None
  asked_none = none (λ (m : Kind). shown_of vl z n.a0 m n.a2 n.a3) (eqb n.a1 0) (eqb n.a1 1) (eqb n.a1 2)

-- .. and of a register or a width that is too large, and that no lane is shown as a NaN
pub ruleset lanes_asked = (asked_kind, asked_none, no_register, no_width, no_nan)

-- a part from a place to the end
pub rest : (s p : Bor (List ℕ)) (k : ℕ) → PartOf s p k (length s.now) → length p.now ≡ length s.now - k
rest s p k h = ap length (part_rest s p k h) ∙ length-drop k s.now
