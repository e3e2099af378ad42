-- That a plan is in range has one proof, which a ghost field asks. This file serves proofs alone.
use Rattle.std.specs.Prelude.{◌≡◌, ℕ, ◌*◌, List, Option, Some, None, ◌⊎◌}
use Rattle.std.proofs.Common.{ap, arith}
use mathlib.Core.Logic.{inl, inr}
use Rattle.ground.specs.Sizes.{bytes_of}
use Rattle.plans.specs.Inside.{ShapedAs}
use Rattle.bench.specs.Inside.Quick.{FillFits, ReplicasFound}
use Rattle.std.specs.Coded.{le_prop}
use Rattle.std.proofs.Props.{props}
use Rattle.words.specs.Ranges.{Governed}
use Rattle.steps.specs.Inside.{GovernedIn, PlanInRange}
use Rattle.steps.specs.declared.Rule.{Rule}
use Rattle.steps.specs.declared.Rule.TheVariants.{Always, LaneBit, ElementBit}
use Rattle.steps.specs.declared.Plan.{Plan}

Governed-prop : (g : Option ℕ) → IsProp (Governed g)
Governed-prop None = Prim.hlevel props
Governed-prop (Some g) = le_prop

GovernedIn-prop : (r : Rule) (g : Option ℕ) → IsProp (GovernedIn r g)
GovernedIn-prop Always g = Prim.hlevel props
GovernedIn-prop LaneBit g = Governed-prop g
GovernedIn-prop ElementBit g = Governed-prop g

pub PlanInRange-prop : (p : Plan) → IsProp (PlanInRange p)
PlanInRange-prop p = let h = GovernedIn-prop p.rule p.governing in Prim.hlevel props

-- two facts that exclude each other are one
apart-prop : {A B : Type 0} → IsProp A → IsProp B → (A → B → ⊥) → IsProp (A ⊎ B)
apart-prop f g h (inl a) (inl b) = ap inl (f a b)
apart-prop f g h (inl a) (inr b) = absurd (h a b)
apart-prop f g h (inr a) (inl b) = absurd (h b a)
apart-prop f g h (inr a) (inr b) = ap inr (g a b)

ShapedAs-prop : (r : Rule) (p : Plan) → IsProp (ShapedAs r p)
ShapedAs-prop Always p =
    let h : IsProp ((p.filled * bytes_of p.lane ≡ 8) ⊎ (p.filled * bytes_of p.lane ≡ 16)) = apart-prop (Prim.hlevel props) (Prim.hlevel props) (λ a b. omega arith) in
    Prim.hlevel props
ShapedAs-prop LaneBit p = Prim.hlevel props
ShapedAs-prop ElementBit p = Prim.hlevel props

pub ReplicasFound-prop : (p : Plan) (s : List ℕ) (b end : ℕ) → IsProp (ReplicasFound p s b end)
ReplicasFound-prop p s b end = Prim.hlevel props

pub FillFits-prop : (p : Plan) (pred : List ℕ) (n : ℕ) → IsProp (FillFits p pred n)
FillFits-prop p pred n =
    let h = PlanInRange-prop p in
    let k = ShapedAs-prop p.rule p in
    Prim.hlevel props
