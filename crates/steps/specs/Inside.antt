-- What every plan has: the functions over a plan ask this of it, and nothing more. This file serves proofs alone, and nothing in it has to
-- be believed: that every plan of a word has it is proved.
use Rattle.std.specs.Prelude.{ℕ, ◌≤◌, ◌<◌, ◌≡◌}
use Rattle.ground.specs.Sizes.{bytes_of}
use Rattle.words.specs.Ranges.{Governed}
use Rattle.steps.specs.Insns.{Option, None}
use Rattle.steps.specs.declared.Rule.{Rule}
use Rattle.steps.specs.declared.Rule.TheVariants.{Always, LaneBit, ElementBit}
use Rattle.steps.specs.declared.Plan.{Plan}

-- where the rule asks bits, one of the first eight predicates governs; where it asks none, none does
abbrev pub GovernedIn : Rule → Option ℕ → Type 0
GovernedIn Always g = g ≡ None
GovernedIn LaneBit g = Governed g
GovernedIn ElementBit g = Governed g

pub record PlanInRange (p : Plan) : Type 0 where
  pub some : 0 < p.elements
  pub elements : p.elements ≤ 256
  pub filled : p.filled ≤ 256
  pub narrower : bytes_of p.size ≤ bytes_of p.lane
  pub governed : GovernedIn p.rule p.governing
  pub consulted : p.consulted ≤ 256
  pub base : p.base < 32
  pub target : p.target < 32
