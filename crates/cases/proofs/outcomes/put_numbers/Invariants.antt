-- The numbers so far are written.
use Rattle.std.proofs.Common.{length}
use Rattle.ground.proofs.Fills.{Filled}
use Rattle.cases.specs.Outcomes.{eighth}
use Rattle.cases.proofs.outcomes.put_numbers.Given as goal

abbrev pub invariant-loop-i : goal.invariant-loop-i
invariant-loop-i l = Filled (eighth l.x) 8 (length l.initial.dst) l.dst l.i
