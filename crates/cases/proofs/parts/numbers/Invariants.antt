-- The numbers so far are read.
use Rattle.std.proofs.Common.{◌≡◌, ℕ, ◌*◌, ◌<◌, get_or}
use Rattle.ground.specs.Lists.{bytes_at}
use Rattle.cases.proofs.parts.numbers.Given as goal

abbrev pub invariant-loop-i : goal.invariant-loop-i
invariant-loop-i l = (k : ℕ) → k < l.i → get_or l.x k 0 ≡ bytes_at l.s (8 * k) 8
