-- A byte of the block is that at its place in it, and a byte more is the one a block before.
use Rattle.std.proofs.Common.{◌≡◌, ◌%◌, mod-eq_of_lt, arith}
use Rattle.bench.proofs.Copies.{copied_more}
use Rattle.bench.proofs.quick.copies.Goals as goal

pub loop-i-init : goal.loop-i-init
loop-i-init c = λ j h. let at : j % c.args.block ≡ j = mod-eq_of_lt h in rw at

pub loop-i-preserved : goal.loop-i-preserved
loop-i-preserved c = copied_more _ _ _ _ (omega arith) (omega arith) (omega arith) c.loop-i.invariant
