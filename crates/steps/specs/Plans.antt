-- "How a load reads": from the instruction, the settings and the scalars. No memory is in sight.
use Rattle.std.specs.Prelude.{if◌then◌else◌, ℕ, ◌+◌, ◌*◌, ◌/◌, Bool, List, eqb, pos, ◌*ℤ◌}
use Rattle.ground.specs.Sizes.{bytes_of}
use Rattle.ground.specs.declared.Size.{Size}
use Rattle.steps.specs.Insns.{Insn, Shape, Replicate, ByElement, Contiguous, Block, Offset, Imm, Reg, Option, Some, None}
use Rattle.memory.specs.Addresses.{wrap, moved_of}
use Rattle.steps.specs.Terms.{signed4, scalar, block_bytes}
use Rattle.steps.specs.declared.Rule.{Rule}
use Rattle.steps.specs.declared.Rule.TheVariants.{Always, LaneBit, ElementBit}
use Rattle.steps.specs.declared.Plan.{Plan}

-- N: VL divided by the lane size. The plan says N, K and a block's copies by itself, apart from Said: a slip in one of the two is seen.
abbrev pub lanes_of : ℕ → Size → ℕ
lanes_of vl lane = vl / (8 * bytes_of lane)

-- where element 0 lies: an immediate counts blocks of so many bytes, a scalar counts elements
abbrev pub start_of : List ℕ → ℕ → Size → ℕ → Offset → ℕ
start_of x rn size block (Imm i) = moved_of (scalar x rn) (signed4 i *ℤ pos block)
start_of x rn size block (Reg r) = wrap (scalar x rn + scalar x r * bytes_of size)

-- what is added to the base where it is written back: "Post-index adds the read's size when Rm = 31, else Xm as it was before the step", and of LD2R to
-- LD4R "the sum of the reads": so many bytes
abbrev pub added_of : List ℕ → ℕ → Option ℕ → Option ℕ
added_of x bytes None = None
added_of x bytes (Some r) = Some (if eqb r 31 then bytes else scalar x r)

-- what a load's shape decides of its plan: where element 0 lies, its elements, the lanes that take one, what decides, the lanes that the
-- stack rule consults, and what is added to the base where it is written back
pub record Spread : Type 0 where
  pub start : ℕ
  pub elements : ℕ
  pub filled : ℕ
  pub rule : Rule
  pub consulted : ℕ
  pub back : Option ℕ

-- .. of an SVE load, which writes nothing back
abbrev pub spread_with : ℕ → ℕ → ℕ → Rule → ℕ → Spread
spread_with start elements filled rule consulted =
    record { start = start; elements = elements; filled = filled; rule = rule; consulted = consulted; back = None }

-- .. of LD1R to LD4R: a read for each register, over 64 bits (Q=0) or 128; the rest of the register becomes zero
abbrev pub replicated : List ℕ → Insn → Bool → Option ℕ → Spread
replicated x i q back =
    record {
      start = scalar x i.base;
      elements = i.registers;
      filled = (if q then 16 else 8) / bytes_of i.element.lane;
      rule = Always;
      consulted = 0;
      back = added_of x (i.registers * bytes_of i.element.memory) back;
    }

-- Element e lies at start + e × size; each of the first `filled` lanes of a destination takes one (`lane_element` of Lanes).
unfoldable pub spread_of : ℕ → List ℕ → Insn → Shape → Spread
spread_of vl x i (Replicate q back) = replicated x i q back
spread_of vl x i (ByElement imm6) =
    let n = lanes_of vl i.element.lane in
    spread_with (wrap (scalar x i.base + imm6 * bytes_of i.element.memory)) 1 n LaneBit n
spread_of vl x i (Contiguous offset) =
    let n = lanes_of vl i.element.lane in
    spread_with (start_of x i.base i.element.memory (n * bytes_of i.element.memory) offset) n n ElementBit n
-- LD1RQ and LD1RO read the block's own lanes; for the stack rule "any lane at that lane size" counts, "anywhere in VL"
spread_of vl x i (Block wide offset) =
    let K = block_bytes wide / bytes_of i.element.lane in
    let copies = vl / (8 * block_bytes wide) in
    spread_with (start_of x i.base i.element.memory (block_bytes wide) offset) K (copies * K) ElementBit (lanes_of vl i.element.lane)

-- a plan: what its instruction has, and what its shape decides
abbrev pub plan_with : Insn → Spread → Plan
plan_with i s =
    record {
      start = record { 0 = s.start };
      size = i.element.memory;
      lane = i.element.lane;
      signed = i.element.signed;
      elements = s.elements;
      filled = s.filled;
      rule = s.rule;
      consulted = s.consulted;
      governing = i.governing;
      base = i.base;
      target = i.target;
      back = s.back;
    }

abbrev pub plan_of : ℕ → List ℕ → Insn → Plan
plan_of vl x i = plan_with i (spread_of vl x i i.shape)
