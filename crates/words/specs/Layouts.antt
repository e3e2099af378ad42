-- The family table from the writing side: each row of the scope of work as the pieces of its word, most significant first.
use Rattle.std.specs.Prelude.{if◌then◌else◌, ℕ, ◌+◌, ◌*◌, ◌≡◌, Bool, true, false, ◌||◌, List, [], ◌∷◌, eqb}
use Rattle.ground.specs.Sizes.{size_of}
use Rattle.ground.specs.Pieces.{Piece, ◌▹◌, word, FitWidths}
use Rattle.words.specs.Dtypes.{plain_of, dtype_of}
use Rattle.words.specs.Insns.{insn_with, Insn, Replicate, ByElement, Contiguous, Block, Imm, Reg, Some, None, Ok, Err, Decoded, Undefined}

-- a row with its fields: LD1R to LD4R with no offset and post-index, o being the last bit of the opcode; LD1R by element; LD1; and a block's,
-- which is LD1RQ, or LD1RO where it is wide
pub data Family : Type 0 where
  replicate_keep : (q l r o s size rn rt : ℕ) → Family
  replicate_post : (q l r rm o s size rn rt : ℕ) → Family
  ld1r_element : (dh imm6 dl pg rn zt : ℕ) → Family
  ld1_immediate : (dtype imm4 pg rn zt : ℕ) → Family
  ld1_scalar : (dtype rm pg rn zt : ℕ) → Family
  block_immediate : (wide : Bool) (msz imm4 pg rn zt : ℕ) → Family
  block_scalar : (wide : Bool) (msz rm pg rn zt : ℕ) → Family

-- the nine rows, in the order of the scope of work
abbrev pub layout : Family → List Piece
layout (replicate_keep q l r o s size rn rt) =
    1 ▹ 0b0 ∷ 1 ▹ q ∷ 6 ▹ 0b001101 ∷ 1 ▹ 0b0 ∷ 1 ▹ l ∷ 1 ▹ r ∷ 5 ▹ 0b00000 ∷ 2 ▹ 0b11 ∷ 1 ▹ o ∷ 1 ▹ s ∷ 2 ▹ size ∷ 5 ▹ rn ∷ 5 ▹ rt ∷ []
layout (replicate_post q l r rm o s size rn rt) =
    1 ▹ 0b0 ∷ 1 ▹ q ∷ 6 ▹ 0b001101 ∷ 1 ▹ 0b1 ∷ 1 ▹ l ∷ 1 ▹ r ∷ 5 ▹ rm ∷ 2 ▹ 0b11 ∷ 1 ▹ o ∷ 1 ▹ s ∷ 2 ▹ size ∷ 5 ▹ rn ∷ 5 ▹ rt ∷ []
layout (ld1r_element dh imm6 dl pg rn zt) =
    7 ▹ 0b1000010 ∷ 2 ▹ dh ∷ 1 ▹ 0b1 ∷ 6 ▹ imm6 ∷ 1 ▹ 0b1 ∷ 2 ▹ dl ∷ 3 ▹ pg ∷ 5 ▹ rn ∷ 5 ▹ zt ∷ []
layout (ld1_immediate dtype imm4 pg rn zt) =
    7 ▹ 0b1010010 ∷ 4 ▹ dtype ∷ 1 ▹ 0b0 ∷ 4 ▹ imm4 ∷ 3 ▹ 0b101 ∷ 3 ▹ pg ∷ 5 ▹ rn ∷ 5 ▹ zt ∷ []
layout (ld1_scalar dtype rm pg rn zt) =
    7 ▹ 0b1010010 ∷ 4 ▹ dtype ∷ 5 ▹ rm ∷ 3 ▹ 0b010 ∷ 3 ▹ pg ∷ 5 ▹ rn ∷ 5 ▹ zt ∷ []
layout (block_immediate false msz imm4 pg rn zt) =
    7 ▹ 0b1010010 ∷ 2 ▹ msz ∷ 2 ▹ 0b00 ∷ 1 ▹ 0b0 ∷ 4 ▹ imm4 ∷ 3 ▹ 0b001 ∷ 3 ▹ pg ∷ 5 ▹ rn ∷ 5 ▹ zt ∷ []
layout (block_scalar false msz rm pg rn zt) =
    7 ▹ 0b1010010 ∷ 2 ▹ msz ∷ 2 ▹ 0b00 ∷ 5 ▹ rm ∷ 3 ▹ 0b000 ∷ 3 ▹ pg ∷ 5 ▹ rn ∷ 5 ▹ zt ∷ []
layout (block_immediate true msz imm4 pg rn zt) =
    7 ▹ 0b1010010 ∷ 2 ▹ msz ∷ 2 ▹ 0b01 ∷ 1 ▹ 0b0 ∷ 4 ▹ imm4 ∷ 3 ▹ 0b001 ∷ 3 ▹ pg ∷ 5 ▹ rn ∷ 5 ▹ zt ∷ []
layout (block_scalar true msz rm pg rn zt) =
    7 ▹ 0b1010010 ∷ 2 ▹ msz ∷ 2 ▹ 0b01 ∷ 5 ▹ rm ∷ 3 ▹ 0b000 ∷ 3 ▹ pg ∷ 5 ▹ rn ∷ 5 ▹ zt ∷ []

-- "LD1R with L=0 or S=1; an SVE scalar form with Rm = 31" is undefined, and of LD2R to LD4R "L=0 or S=1 stays undefined"
abbrev pub undefined_in : Family → Bool
undefined_in (replicate_keep q l r o s size rn rt) = eqb l 0 || eqb s 1
undefined_in (replicate_post q l r rm o s size rn rt) = eqb l 0 || eqb s 1
undefined_in (ld1r_element dh imm6 dl pg rn zt) = false
undefined_in (ld1_immediate dtype imm4 pg rn zt) = false
undefined_in (ld1_scalar dtype rm pg rn zt) = eqb rm 31
undefined_in (block_immediate wide msz imm4 pg rn zt) = false
undefined_in (block_scalar wide msz rm pg rn zt) = eqb rm 31

-- LD1R has opcode 110 and R=0; "Add LD2R (opcode 110, R=1), LD3R (111, R=0) and LD4R (111, R=1)": how many registers, by o and R
abbrev pub registers_by : ℕ → ℕ → ℕ
registers_by o r = if eqb o 0 then (if eqb r 0 then 1 else 2) else (if eqb r 0 then 3 else 4)

-- the instruction of a row; "dtype is also dh then dl"
abbrev pub insn_of : Family → Insn
insn_of (replicate_keep q l r o s size rn rt) = insn_with (plain_of (size_of size)) None rn rt (registers_by o r) (Replicate (eqb q 1) None)
insn_of (replicate_post q l r rm o s size rn rt) = insn_with (plain_of (size_of size)) None rn rt (registers_by o r) (Replicate (eqb q 1) (Some rm))
insn_of (ld1r_element dh imm6 dl pg rn zt) = insn_with (dtype_of (dh * 4 + dl)) (Some pg) rn zt 1 (ByElement imm6)
insn_of (ld1_immediate dtype imm4 pg rn zt) = insn_with (dtype_of dtype) (Some pg) rn zt 1 (Contiguous (Imm imm4))
insn_of (ld1_scalar dtype rm pg rn zt) = insn_with (dtype_of dtype) (Some pg) rn zt 1 (Contiguous (Reg rm))
insn_of (block_immediate wide msz imm4 pg rn zt) = insn_with (plain_of (size_of msz)) (Some pg) rn zt 1 (Block wide (Imm imm4))
insn_of (block_scalar wide msz rm pg rn zt) = insn_with (plain_of (size_of msz)) (Some pg) rn zt 1 (Block wide (Reg rm))

abbrev pub means_of : Family → Decoded
means_of f = if undefined_in f then Err Undefined else Ok (insn_of f)

-- a word is laid out as a row is, of numbers that fit
abbrev pub LaidOut : ℕ → Type 0
LaidOut w = (f : Family) × FitWidths (layout f) × (w ≡ word (layout f))

-- .. and the row says of its numbers that it is d: undefined, or an instruction. "no family row fits the fixed bits" is that it is laid out as none
abbrev pub Means : ℕ → Decoded → Type 0
Means w d = (x : LaidOut w) × (means_of x.0 ≡ d)
