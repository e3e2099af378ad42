-- Each turn reads one more number.
use Rattle.std.proofs.Common.{arith}
use Rattle.ground.proofs.Fills.{is_listed, stored}
use Rattle.cases.proofs.parts.numbers.Goals as goal

pub loop-i-preserved : goal.loop-i-preserved
loop-i-preserved c = stored _ _ _ _ (omega arith) c.loop-i.invariant c.number.ensures.0

pub returns : goal.returns
returns c = is_listed _ _ _ c.loop-i.auto.x (λ k l. c.loop-i.invariant k (omega arith))
