-- What every plan is, beyond `PlanInRange`, in a register of n bytes: what a fill of it by chunks of eight bytes needs. One element for all lanes
-- of a destination, or one for each of the first ones, and these lanes are whole chunks. This file serves proofs alone, and nothing in it has to be believed:
-- what a load does is `plan_of` of steps.
use Rattle.std.specs.Prelude.{ℕ, ◌*◌, ◌%◌, ◌≤◌, ◌<◌, ◌≡◌, false, ◌⊎◌}
use Rattle.ground.specs.Sizes.{bytes_of}
use Rattle.steps.specs.declared.Plan.{Plan}
use Rattle.steps.specs.declared.Rule.{Rule}
use Rattle.steps.specs.declared.Rule.TheVariants.{Always, LaneBit, ElementBit}

abbrev pub ShapedAs : Rule → Plan → Type 0
ShapedAs Always p = ((p.filled * bytes_of p.lane ≡ 8) ⊎ (p.filled * bytes_of p.lane ≡ 16)) × (p.lane ≡ p.size) × (p.signed ≡ false)
ShapedAs LaneBit p = (p.elements ≡ 1) × (0 < p.filled) × (p.filled * bytes_of p.lane % 8 ≡ 0)
ShapedAs ElementBit p = (p.elements ≤ p.filled) × (p.elements * bytes_of p.lane % 8 ≡ 0)

pub record Shaped (p : Plan) (n : ℕ) : Type 0 where
  pub room : p.filled * bytes_of p.lane ≤ n
  pub shape : ShapedAs p.rule p
