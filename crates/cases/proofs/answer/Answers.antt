-- `answer` meets its contract: what bytes open with is within its limits.
use Rattle.std.proofs.Common.{arith}
use Rattle.cases.proofs.Limits.{opened_whole, opened_bounds}
use Rattle.cases.proofs.answer.Goals as goal

pub outcome_bytes-given-requires : goal.outcome_bytes-given-requires
outcome_bytes-given-requires c = opened_bounds _ _ c.in_ok-case.ensures

pub put_answer-requires : goal.put_answer-requires
put_answer-requires c =
    let size = opened_whole _ _ c.in_ok-case.ensures in
    (opened_bounds _ _ c.in_ok-case.ensures, omega (arith, c.if-out-given.false), omega (arith, size))
