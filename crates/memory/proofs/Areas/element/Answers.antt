-- A turn ends at a bad byte, which is told with its address, or goes on with a byte more read.
use Rattle.std.proofs.Common.{rules, arith}
use Rattle.std.proofs.lemmas.Result.{err_from_is_err_and}
use Rattle.memory.proofs.Turns.{bad_byte, turned}
use Rattle.memory.proofs.Areas.element.Goals as goal

pub returns-in_err-byte : goal.returns-in_err-byte
returns-in_err-byte c =
    let told = c.in_err-byte.ensures.cases in
    let p = err_from_is_err_and c.from_residual.result c.from_residual.ensures.1 in
    rw (← c.bytes-i-end.ensures, p.1, p.2)
    (bad_byte c.loop-i.invariant c.loop-i-test.true c.byte.result c.plus-at.result.0 c.in_err-byte.field-0.0 c.plus-at.ensures c.byte.ensures (search rules))

pub loop-i-preserved : goal.loop-i-preserved
loop-i-preserved c =
    let told = c.in_ok-byte.ensures.cases in
    turned c.loop-i.invariant c.loop-i-test.true c.from.result (omega arith) c.plus-at.result.0 c.plus-at.ensures (search rules)
