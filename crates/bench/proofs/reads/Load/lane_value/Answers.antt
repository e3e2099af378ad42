-- A lane that takes an element has its value, extended; and an element's number is no more than a lane's or a destination's.
use Rattle.std.proofs.Common.{ℕ, ◌≤◌, sym, arith, lit≤}
use native.Mathlib.Nat.{mod-le}
use Rattle.steps.specs.Lanes.{element_by, lane_element}
use Rattle.steps.specs.declared.Rule.{Rule}
use Rattle.steps.specs.declared.Rule.TheVariants.{Always, LaneBit, ElementBit}
use Rattle.steps.specs.declared.Plan.{Plan}
use Rattle.steps.specs.Outcomes.{lane_value}
use Rattle.bench.proofs.reads.Load.lane_value.Goals as goal

few : (p : Plan) (j l : ℕ) → j ≤ 256 → l ≤ 256 → lane_element p j l ≤ 256
unfolding lane_element
few p j l h k = by p.rule
  where
    by : (r : Rule) → element_by r p.elements j l ≤ 256
    by Always = h
    by LaneBit = lit≤ tt
    by ElementBit = omega (arith, mod-le l p.elements)

pub value-value-requires : goal.value-value-requires
value-value-requires c = omega (arith, few c.args.self.lanes.plan c.args.j c.args.l)

pub returns-then-takes_element : goal.returns-then-takes_element
unfolding lane_value
returns-then-takes_element c = rw (sym c.if-takes_element.ensures, ← c.lane_element.ensures, ← c.value-value.ensures) c.extend.ensures
