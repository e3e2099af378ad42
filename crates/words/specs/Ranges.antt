-- The fields of an instruction are in range: what a caller may index its registers and tables by. Every load that is read is so (`in_range`).
use Rattle.std.specs.Prelude.{ℕ, ◌≤◌, ◌<◌, ◌≡◌}
use Rattle.ground.specs.Sizes.{bytes_of}
use Rattle.words.specs.Dtypes.{plain_of, dtype_of}
use Rattle.words.specs.Insns.{Insn, Shape, Replicate, ByElement, Contiguous, Block, Dtype, Offset, Imm, Reg}
use Rattle.words.specs.Insns.{Option, Some, None, Ok, Err, Decoded}

-- a scalar offset is never register 31
abbrev pub OffsetInRange : Offset → Type 0
OffsetInRange (Imm i) = i < 16
OffsetInRange (Reg r) = r < 31

abbrev pub BackInRange : Option ℕ → Type 0
BackInRange None = Unit {0}
BackInRange (Some r) = r < 32

-- one of the first eight predicates governs
abbrev pub Governed : Option ℕ → Type 0
Governed None = ⊥
Governed (Some g) = g < 8

-- an element is a row of the dtype table, or is as wide in memory as in its lane
abbrev pub InTable : Dtype → Type 0
InTable d = (n : ℕ) × (n < 16) × (d ≡ dtype_of n)

abbrev pub AsWideAsLane : Dtype → Type 0
AsWideAsLane d = d ≡ plain_of d.memory

-- nothing governs LD1R to LD4R, and every other load is governed and has one target
abbrev pub ShapeInRange : Insn → Shape → Type 0
ShapeInRange i (Replicate q back) = BackInRange back × AsWideAsLane i.element × (i.governing ≡ None)
ShapeInRange i (ByElement imm6) = (imm6 < 64) × Governed i.governing × InTable i.element × (i.registers ≡ 1)
ShapeInRange i (Contiguous offset) = OffsetInRange offset × Governed i.governing × InTable i.element × (i.registers ≡ 1)
ShapeInRange i (Block wide offset) = OffsetInRange offset × Governed i.governing × AsWideAsLane i.element × (i.registers ≡ 1)

pub record InsnInRange (i : Insn) : Type 0 where
  pub narrower : bytes_of i.element.memory ≤ bytes_of i.element.lane
  pub base : i.base < 32
  pub target : i.target < 32
  pub some : 0 < i.registers
  pub few : i.registers ≤ 4
  pub shape : ShapeInRange i i.shape

abbrev pub InRange : Decoded → Type 0
InRange (Ok i) = InsnInRange i
InRange (Err e) = Unit {0}
