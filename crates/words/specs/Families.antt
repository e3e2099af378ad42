-- The family table of the scope of work: the fixed bits of each row, and what the row's fields say.
use Rattle.std.specs.Prelude.{if◌then◌else◌, ℕ, ◌+◌, ◌*◌, ◌≡◌, Bool, true, false, ◌||◌, List, [], ◌∷◌, eqb}
use Rattle.ground.specs.Choices.{all_of, Row, ◌⇒◌, first_of}
use Rattle.ground.specs.Sizes.{size_of}
use Rattle.ground.specs.Pieces.{bits}
use Rattle.words.specs.Dtypes.{plain_of, dtype_of}
use Rattle.words.specs.Insns.{insn_with, Insn, Shape, Replicate, ByElement, Contiguous, Block, Dtype, Offset, Imm, Reg}
use Rattle.words.specs.Insns.{Option, Some, None, Ok, Err, Decoded, Outside, Undefined}

-- how many registers LD1R to LD4R load, as page 004 has it: "selem = UInt(opcode<0>:R) + 1"
abbrev pub registers_of : ℕ → ℕ
registers_of w = bits w 13 13 * 2 + bits w 21 21 + 1

-- LD1R to LD4R: L=0 or S=1 is undefined
abbrev pub replicate_of : Option ℕ → ℕ → Decoded
replicate_of back w =
    if eqb (bits w 22 22) 0 || eqb (bits w 12 12) 1 then Err Undefined
    else Ok (insn_with (plain_of (size_of (bits w 11 10))) None (bits w 9 5) (bits w 4 0) (registers_of w) (Replicate (eqb (bits w 30 30) 1) back))

-- what every SVE word has: a governing predicate, a base and one target
abbrev pub sve_of : ℕ → Dtype → Shape → Insn
sve_of w element shape = insn_with element (Some (bits w 12 10)) (bits w 9 5) (bits w 4 0) 1 shape

-- LD1R by element: dtype is dh then dl
abbrev pub by_element_of : ℕ → Insn
by_element_of w = sve_of w (dtype_of (bits w 24 23 * 4 + bits w 14 13)) (ByElement (bits w 21 16))

abbrev pub contiguous_of : Offset → ℕ → Insn
contiguous_of offset w = sve_of w (dtype_of (bits w 24 21)) (Contiguous offset)

-- LD1RQ, and LD1RO where it is wide
abbrev pub block_of : Bool → Offset → ℕ → Insn
block_of wide offset w = sve_of w (plain_of (size_of (bits w 24 23))) (Block wide offset)

-- the offset of an immediate form, and of a scalar one
abbrev pub immediate : ℕ → Offset
immediate w = Imm (bits w 19 16)

abbrev pub register : ℕ → Offset
register w = Reg (bits w 20 16)

-- the scalar form of a load: Rm = 31 is undefined
unfoldable pub scalar_of : ℕ → Insn → Decoded
scalar_of w load = if eqb (bits w 20 16) 31 then Err Undefined else Ok load

-- fixed bits of a word: hi to lo have this number
pub record Fixed : Type 0 where
  pub hi : ℕ
  pub lo : ℕ
  pub is : ℕ

abbrev pub bits_are : ℕ → ℕ → ℕ → Fixed
bits_are hi lo v = record { hi = hi; lo = lo; is = v }

abbrev pub tests : ℕ → List Fixed → List Bool
tests w [] = []
tests w (f ∷ fs) = eqb (bits w f.hi f.lo) f.is ∷ tests w fs

-- a word has all fixed bits of a row
abbrev pub fits : ℕ → List Fixed → Bool
fits w fs = all_of (tests w fs)

-- a row of the table: its fixed bits, and what a word that has them is
pub record FamilyRow : Type 0 where
  pub bits : List Fixed
  pub means : ℕ → Decoded

infix 20 ◌⇨◌
abbrev pub ◌⇨◌ : List Fixed → (ℕ → Decoded) → FamilyRow
fs ⇨ means = record { bits = fs; means = means }

-- the nine rows, in the order of the scope of work, LD2R to LD4R being rows of LD1R; no word fits two (`one_row` of Apart), so that their order says nothing
unfoldable pub families : List FamilyRow
families =
    ((bits_are 31 31 0b0 ∷ bits_are 29 23 0b0011010 ∷ bits_are 20 14 0b0000011 ∷ []) ⇨ replicate_of None)
    ∷ ((bits_are 31 31 0b0 ∷ bits_are 29 23 0b0011011 ∷ bits_are 15 14 0b11 ∷ []) ⇨ (λ w. replicate_of (Some (bits w 20 16)) w))
    ∷ ((bits_are 31 25 0b1000010 ∷ bits_are 22 22 0b1 ∷ bits_are 15 15 0b1 ∷ []) ⇨ (λ w. Ok (by_element_of w)))
    ∷ ((bits_are 31 25 0b1010010 ∷ bits_are 20 20 0b0 ∷ bits_are 15 13 0b101 ∷ []) ⇨ (λ w. Ok (contiguous_of (immediate w) w)))
    ∷ ((bits_are 31 25 0b1010010 ∷ bits_are 15 13 0b010 ∷ []) ⇨ (λ w. scalar_of w (contiguous_of (register w) w)))
    ∷ ((bits_are 31 25 0b1010010 ∷ bits_are 22 20 0b000 ∷ bits_are 15 13 0b001 ∷ []) ⇨ (λ w. Ok (block_of false (immediate w) w)))
    ∷ ((bits_are 31 25 0b1010010 ∷ bits_are 22 21 0b00 ∷ bits_are 15 13 0b000 ∷ []) ⇨ (λ w. scalar_of w (block_of false (register w) w)))
    ∷ ((bits_are 31 25 0b1010010 ∷ bits_are 22 20 0b010 ∷ bits_are 15 13 0b001 ∷ []) ⇨ (λ w. Ok (block_of true (immediate w) w)))
    ∷ ((bits_are 31 25 0b1010010 ∷ bits_are 22 21 0b01 ∷ bits_are 15 13 0b000 ∷ []) ⇨ (λ w. scalar_of w (block_of true (register w) w)))
    ∷ []

-- each row's test of a word, with what the row says of it
abbrev pub choices : List FamilyRow → ℕ → List (Row Decoded)
choices [] w = []
choices (r ∷ rs) w = (fits w r.bits ⇒ r.means w) ∷ choices rs w

-- what a word is by a table's rows: outside where none fits
abbrev pub read_by : List FamilyRow → ℕ → Decoded
read_by rows w = first_of (choices rows w) (Err Outside)

unfoldable pub read_of : ℕ → Decoded
read_of w = read_by families w

-- what `read` promises: what the word is, by the table
abbrev pub ReadPromise : ℕ → Decoded → Type 0
ReadPromise w r = r ≡ read_of w
