-- An instruction and what it is made of: the names of its parts, from one place.
use Rattle.std.specs.Prelude.{ℕ}
pub use Rattle.std.specs.Prelude.{Option, Some, None, Result, Ok, Err}
pub use Rattle.words.specs.declared.Dtype.{Dtype}
pub use Rattle.words.specs.declared.Offset.{Offset}
pub use Rattle.words.specs.declared.Offset.TheVariants.{Imm, Reg}
pub use Rattle.words.specs.declared.Shape.{Shape}
pub use Rattle.words.specs.declared.Shape.TheVariants.{Replicate, ByElement, Contiguous, Block}
pub use Rattle.words.specs.declared.Insn.{Insn}
pub use Rattle.words.specs.declared.NotALoad.{NotALoad}
pub use Rattle.words.specs.declared.NotALoad.TheVariants.{Outside, Undefined}

-- what a word is: an instruction, or no load
abbrev pub Decoded : Type 0
Decoded = Result Insn NotALoad

-- an element's sizes and sign, the predicate that governs, base and target, how many registers it loads from the target on, and the shape
abbrev pub insn_with : Dtype → Option ℕ → ℕ → ℕ → ℕ → Shape → Insn
insn_with element governing base target registers shape =
    record { element = element; base = base; target = target; registers = registers; governing = governing; shape = shape }
