-- Each turn writes the lowest digit of what is left, and leaves the number above it.
use Rattle.std.proofs.Common.{arith, add-one}
use Rattle.std.proofs.Math.Nat.{pow-suc, div-div-eq-div-mul}
use Rattle.ground.proofs.Fills.{is_listed, stored}
use Rattle.ground.proofs.numbers.put.Goals as goal

pub loop-byte-preserved : goal.loop-byte-preserved
loop-byte-preserved c =
    let t = c.loop-byte in (
      rw (t.invariant.0, add-one, pow-suc) (div-div-eq-div-mul _ _ 256),
      stored _ t.byte-items t.byte-index _ (omega arith) t.invariant.1 (rw t.invariant.0),
    )

pub returns : goal.returns
returns c = is_listed _ _ _ c.loop-byte.auto.byte-items (λ i l. c.loop-byte.invariant.1 i (omega arith))
