-- An instruction and its parts, as the crate words names them: from here every file of this crate takes the names.
pub use Rattle.words.specs.declared.Offset.{Offset}
pub use Rattle.words.specs.declared.Offset.TheVariants.{Imm, Reg}
pub use Rattle.words.specs.declared.Shape.{Shape}
pub use Rattle.words.specs.declared.Shape.TheVariants.{Replicate, ByElement, Contiguous, Block}
pub use Rattle.words.specs.declared.Insn.{Insn}
pub use Rattle.words.specs.declared.NotALoad.{NotALoad}
pub use Rattle.words.specs.declared.NotALoad.TheVariants.{Outside, Undefined}
pub use Rattle.words.specs.Insns.{Decoded}
pub use Rattle.std.specs.Prelude.{Option, Some, None, Result, Ok, Err}
