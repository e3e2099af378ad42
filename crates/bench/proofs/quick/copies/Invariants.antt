-- The bytes so far are those of the block, over and over.
use Rattle.std.proofs.Common.{◌≡◌, ◌<◌, ◌%◌, ℕ, get_or}
use Rattle.bench.proofs.quick.copies.Given as goal

abbrev pub invariant-loop-i : goal.invariant-loop-i
invariant-loop-i l = (j : ℕ) → j < l.i → get_or l.dst j 0 ≡ get_or l.fn.dst (j % l.block) 0
