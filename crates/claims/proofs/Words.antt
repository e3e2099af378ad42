-- What is claimed of words: which words decode, and as what; and that a new row does not disturb what is settled.
use Prim.Native.Nat.{◌<◌, ◌^◌, ◌≤◌, ℕ}
use Rattle.ground.specs.Lists.{listed}
use Rattle.ground.specs.Pieces.{FitWidths, word}
use Rattle.ground.specs.declared.Size.{Size}
use Rattle.ground.specs.declared.Size.TheVariants.{B64}
use Rattle.words.proofs.Apart.{Among, FitsAt, apart, longer, row_at}
use Rattle.words.proofs.DtypeRule.{rule_of}
use Rattle.words.proofs.Grown.{first_table}
use Rattle.words.proofs.NotWanted.{NotWanted, not_wanted_layout}
use Rattle.words.specs.Dtypes.{DtypePromise, dtype_of, dtypes, plain_of, unsigned_row}
use Rattle.words.specs.Families.{FamilyRow, ReadPromise, families, read_by, read_of}
use Rattle.words.specs.Insns.{insn_with}
use Rattle.words.specs.Layouts.{LaidOut, Means}
use Rattle.words.specs.Ranges.{InRange, InsnInRange}
use Rattle.words.specs.Insns.{Decoded, Ok, Err, Option}
use Rattle.words.specs.declared.NotALoad.TheVariants.{Outside, Undefined}
use Rattle.words.specs.declared.Dtype.{Dtype}
use Rattle.words.specs.declared.Insn.{Insn}
use Rattle.words.specs.declared.Shape.{Shape}
use lib.ListN.{length}
use mathlib.Core.Bool.{false, true}
use mathlib.Core.List.{List}
use mathlib.Core.Logic.{◌↔◌}
use mathlib.Core.Path.{◌≡◌}

-- A word is outside exactly if it is laid out as no row is,
pub outside_exactly : (w : ℕ) (small : w < 2 ^ 32) → (read_of w ≡ Err Outside) ↔ (LaidOut w → ⊥)
outside_exactly = Rattle.words.proofs.Decodes.outside_exactly

-- and it is undefined, or an instruction, exactly if it is laid out as a row that says so of its numbers.
pub decodes_exactly : (w : ℕ) (small : w < 2 ^ 32) → (d : Decoded) → (d ≡ Err Outside → ⊥) → (read_of w ≡ d) ↔ Means w d
decodes_exactly = Rattle.words.proofs.Decodes.decodes_exactly

-- What a word is laid out as it is read as, of however many bits the number is.
pub means_read : (w : ℕ) (d : Decoded) → Means w d → read_of w ≡ d
means_read = Rattle.words.proofs.Decodes.means_read

-- The other way round, of an undefined word and of an instruction of 32 bits.
pub undefined_means : (w : ℕ) (small : w < 2 ^ 32) → read_of w ≡ Err Undefined → Means w (Err Undefined)
undefined_means = Rattle.words.proofs.Decodes.undefined_means

pub insn_means : (w : ℕ) (small : w < 2 ^ 32) → (i : Insn) → read_of w ≡ Ok i → Means w (Ok i)
insn_means = Rattle.words.proofs.Decodes.insn_means

-- The words of 128-bit lanes and of prefetch are outside.
pub not_wanted_outside : (x : NotWanted) → FitWidths (not_wanted_layout x) → read_of (word (not_wanted_layout x)) ≡ Err Outside
not_wanted_outside = Rattle.words.proofs.NotWanted.not_wanted_outside

-- The fields of what is read are in range.
pub in_range : (w : ℕ) → InRange (read_of w)
in_range = Rattle.words.proofs.Ranges.in_range

-- .. and so are those of what is laid out.
pub means_in_range : (w : ℕ) (i : Insn) → Means w (Ok i) → InsnInRange i
means_in_range = Rattle.words.proofs.Ranges.means_in_range

-- The dtype table is the rule in all sixteen rows,
pub dtype_table : dtypes ≡ listed rule_of 0 16
dtype_table = Rattle.words.proofs.DtypeRule.dtype_table

-- and no two rows are the same.
pub dtype_injective : (d e : ℕ) → d < 16 → e < 16 → dtype_of d ≡ dtype_of e → d ≡ e
dtype_injective = Rattle.words.proofs.DtypeRule.dtype_injective

-- Any two rows of the family table fix some bit differently.
pub families_apart : apart families ≡ true
families_apart = Rattle.words.proofs.Apart.families_apart

-- no word fits two rows of it
pub one_row : (w j k : ℕ) → FitsAt families w j → FitsAt families w k → j ≡ k
one_row = Rattle.words.proofs.Apart.one_row

-- A table with all its rows, in any order and with any further ones, as long as no word fits two, reads every word that was not outside as before.
pub settled : (rows : List FamilyRow) → apart rows ≡ true → Among families rows → (w : ℕ) → (read_of w ≡ Err Outside → ⊥) → read_by rows w ≡ read_of w
settled = Rattle.words.proofs.Apart.settled

-- A row that is added takes only words that were outside.
pub added : (rows : List FamilyRow) → apart rows ≡ true → Among families rows → (w j : ℕ) → FitsAt rows w j
    → ((k : ℕ) → k < length families → row_at rows j ≡ row_at families k → ⊥) → read_of w ≡ Err Outside
added = Rattle.words.proofs.Apart.added

-- The order of its rows does not matter: a table of the same rows reads every word as it does.
pub any_order : (rows : List FamilyRow) → Among families rows → Among rows families → (w : ℕ) → read_by rows w ≡ read_of w
any_order = Rattle.words.proofs.Apart.any_order

-- Both can be met: our table with the row of a prefetch in front.
pub longer_takes : (apart longer ≡ true) × Among families longer × ((w : ℕ) → (read_of w ≡ Err Outside → ⊥) → read_by longer w ≡ read_of w)
    × (read_by longer 0x85C00000 ≡ Err Undefined) × (read_of 0x85C00000 ≡ Err Outside)
longer_takes = Rattle.words.proofs.Apart.longer_takes

-- LD2R to LD4R came in two rows that became wider: what document 01's own table does not leave outside is read as it has it,
pub first_settled : (w : ℕ) → (read_by first_table w ≡ Err Outside → ⊥) → read_of w ≡ read_by first_table w
first_settled = Rattle.words.proofs.Grown.first_settled

-- and there are such words.
pub first_takes : read_by first_table 0x4D40D000 ≡ Err Undefined
first_takes = Rattle.words.proofs.Grown.first_takes

-- The parts of an instruction are where their names say,
pub insn_parts : (d : Dtype) (g : Option ℕ) (rn rt n : ℕ) (s : Shape) → let i = insn_with d g rn rt n s in (i.element ≡ d) × (i.governing ≡ g)
    × (i.base ≡ rn) × (i.target ≡ rt) × (i.registers ≡ n) × (i.shape ≡ s)
insn_parts = Rattle.words.proofs.Layouts.insn_parts

-- and those of an element that is as wide in memory as in its lane.
pub plain_parts : (s : Size) → ((plain_of s).memory ≡ s) × ((plain_of s).lane ≡ s) × ((plain_of s).signed ≡ false)
plain_parts = Rattle.words.proofs.Layouts.plain_parts

-- The contracts of `read` and `Dtype::of` leave one answer each.
pub read_unique : (w : ℕ) (r s : Decoded) → ReadPromise w r → ReadPromise w s → r ≡ s
read_unique = Rattle.words.proofs.Unique.read_unique

pub dtype_unique : (d : ℕ) (r s : Dtype) → DtypePromise d r → DtypePromise d s → r ≡ s
dtype_unique = Rattle.words.proofs.Unique.dtype_unique

-- a number that no field of four bits has is read as 15
pub dtype_past : (d : ℕ) → 16 ≤ d → dtype_of d ≡ unsigned_row B64 B64
dtype_past = Rattle.words.proofs.DtypeRule.dtype_past
