-- A kind's guard is the test of a NaN's bits (proofs/Patterns), and a single's width is 32, so that its bits fit.
use Rattle.std.proofs.Common.{arith}
use lib.Ieee.{binary32, binary64}
use Rattle.lanes.proofs.Patterns.{plain, above_infinity, to_infinity}
use Rattle.lanes.proofs.Asked.shown.Goals as goal

pub float_from_bits-result : goal.float_from_bits-result
float_from_bits-result c = plain binary32 _ (omega arith)

pub float_from_bits-result-in-Double : goal.float_from_bits-result-in-Double
float_from_bits-result-in-Double c = plain binary64 _ (omega arith)

pub returns-in-Single : goal.returns-in-Single
returns-in-Single c = rw c.in-Single.is (to_infinity binary32 _ (omega arith))

pub returns-in-Double : goal.returns-in-Double
returns-in-Double c = rw c.in-Double.is (to_infinity binary64 _ (omega arith))

pub returns-in_default : goal.returns-in_default
returns-in_default c = rw c.in-Single.is (above_infinity binary32 _ (omega arith))

pub returns-in_default-2 : goal.returns-in_default-2
returns-in_default-2 c = rw c.in-Double.is (above_infinity binary64 _ (omega arith))
