-- The value is the number of the bytes so far.
use Rattle.std.proofs.Common.{◌≡◌}
use Rattle.ground.specs.Lists.{bytes_at}
use Rattle.ground.proofs.numbers.number.Given as goal

abbrev pub invariant-loop-i : goal.invariant-loop-i
invariant-loop-i l = l.value ≡ bytes_at l.s l.at l.i
