-- The table is its own rule, here where the sign is extended.
use Rattle.std.proofs.Common.{refl, arith}
use borrow.Author.Tests.{lt-leb}
use Rattle.words.proofs.DtypeRule.{dtype_rule}
use Rattle.words.proofs.Dtype.of.Goals as goal

pub returns : goal.returns
returns c = rw (dtype_rule c.args.field (omega arith), lt-leb _ _ c.if-high-low.false, ← c.of-2.ensures, ← c.of-3.ensures) refl
