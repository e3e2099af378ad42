-- Which elements are asked for, which lane takes which, and which lanes the stack rule consults. No memory is in sight.
use Rattle.std.specs.Prelude.{ℕ, ◌+◌, ◌*◌, ◌/◌, ◌%◌, ◌^◌, Bool, true, ◌&&◌, List, [], ltb, eqb, get_or, take, drop}
use Rattle.ground.specs.Lists.{up_from, any_below}
use Rattle.ground.specs.Sizes.{bytes_of}
use Rattle.memory.specs.Addresses.{plus_of}
use Rattle.steps.specs.Insns.{Option, Some, None}
use Rattle.steps.specs.Benches.{Lent}
use Rattle.steps.specs.declared.Rule.{Rule}
use Rattle.steps.specs.declared.Rule.TheVariants.{Always, LaneBit, ElementBit}
use Rattle.steps.specs.declared.Plan.{Plan}

-- the bytes of the governing predicate, where there is one, in a file of registers of n bytes
abbrev pub predicate_of : ℕ → List ℕ → Option ℕ → List ℕ
predicate_of n file None = []
predicate_of n file (Some g) = take n (drop (g * n) file)

-- a predicate register has VL/64 bytes
unfoldable pub governing_bytes : Lent → Plan → List ℕ
governing_bytes l p = predicate_of (l.settings.vl / 64) l.predicates p.governing

-- bit i of a predicate register, lowest bit of each byte first
unfoldable pub bit_of : List ℕ → ℕ → Bool
bit_of pred i = eqb (get_or pred (i / 8) 0 / 2 ^ (i % 8) % 2) 1

module _ (p : Plan) (pred : List ℕ) where
  -- "Lane e is active exactly if predicate bit e × (lane size / 8) is 1": the lane size in bytes
  unfoldable pub is_active : ℕ → Bool
  is_active l = bit_of pred (l * bytes_of p.lane)

  -- element e is asked for: "a single read is one active element: always for LD1R, and for LD1R by element exactly when some lane is active";
  -- and each of LD2R to LD4R's
  abbrev pub wanted_by : Rule → ℕ → Bool
  wanted_by Always e = true
  wanted_by LaneBit e = any_below is_active p.filled
  wanted_by ElementBit e = is_active e

  unfoldable pub wanted : ℕ → Bool
  wanted e = wanted_by p.rule e

  -- the definition's reads: the elements asked for, upward
  unfoldable pub asked : List ℕ
  asked = up_from wanted 0 p.elements

  -- the rule lets lane l take its element, by the lane's own bit or by the bit of element l mod `elements`
  abbrev pub may_take_by : Rule → ℕ → Bool
  may_take_by Always l = true
  may_take_by LaneBit l = is_active l
  may_take_by ElementBit l = is_active (l % p.elements)

  unfoldable pub lane_takes : ℕ → Bool
  lane_takes l = ltb l p.filled && may_take_by p.rule l

  -- the SP check is made: "LD1R always checks. The others check only when one of the lanes they consult is active"
  abbrev pub checks_by : Rule → Bool
  checks_by Always = true
  checks_by LaneBit = any_below is_active p.consulted
  checks_by ElementBit = any_below is_active p.consulted

  unfoldable pub checks_stack : Bool
  checks_stack = checks_by p.rule

-- the element of lane l of destination j. LD1R to LD4R: "successive elements go to registers t, t+1 and on"; the others have one destination,
-- whose lanes take the one element, or the elements in turn
abbrev pub element_by : Rule → ℕ → ℕ → ℕ → ℕ
element_by Always elements j l = j
element_by LaneBit elements j l = 0
element_by ElementBit elements j l = l % elements

unfoldable pub lane_element : Plan → ℕ → ℕ → ℕ
lane_element p j l = element_by p.rule p.elements j l

-- how many destinations: LD1R to LD4R have one for each element, and every other load has one
abbrev pub destinations_by : Rule → ℕ → ℕ
destinations_by Always elements = elements
destinations_by LaneBit elements = 1
destinations_by ElementBit elements = 1

unfoldable pub destinations_in : Plan → ℕ
destinations_in p = destinations_by p.rule p.elements

-- destination j: "registers t, t+1 and on, 31 followed by 0"
unfoldable pub destination_of : Plan → ℕ → ℕ
destination_of p j = (p.target + j) % 32

-- where element e lies
unfoldable pub element_at : Plan → ℕ → ℕ
element_at p e = plus_of p.start.0 (e * bytes_of p.size)
