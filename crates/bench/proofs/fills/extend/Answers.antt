-- The sign is told by the upper half of the numbers, and what the lane has above the size is added.
use Rattle.std.proofs.Common.{◌∙◌, sym, arith, lt-ltb, le-ltb}
use Rattle.ground.specs.Sizes.{bytes_of}
use Rattle.ground.proofs.Sizes.{bytes_some, bytes_few}
use Rattle.steps.specs.Outcomes.{extended}
use Rattle.bench.proofs.Digits.{sign_test, above}
use Rattle.bench.proofs.fills.extend.Goals as goal
use Rattle.bench.proofs.fills.extend.Goals.{else-signed-via-then-signed+else-most-v, else-signed-via-else-signed}

pub returns-then-most-v : goal.returns-then-most-v
unfolding extended
returns-then-most-v c =
    let g = c.args in
    let upper = sym (sign_test (bytes_of g.size) (bytes_some g.size) (bytes_few g.size) g.v) ∙ lt-ltb _ _ (rw c.largest-most.ensures at c.if-most-v.true) in
    rw (c.largest.ensures, c.largest-most.ensures, above g.size g.lane, c.if-signed.true, upper)

pub returns : goal.returns
unfolding extended
returns c =
    let g = c.args in
    elim c.else-signed.branch [
      | else-signed-via-then-signed+else-most-v w ↦
          let lower = sym (sign_test (bytes_of g.size) (bytes_some g.size) (bytes_few g.size) g.v) ∙ le-ltb _ _ (rw c.largest-most.ensures at w.if-most-v.false) in
          rw (w.if-signed.true, lower) (omega arith)
      | else-signed-via-else-signed w ↦ rw w.if-signed.false (omega arith)
    ]
