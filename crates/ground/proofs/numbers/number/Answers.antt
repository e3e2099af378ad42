-- A byte more makes the number of a digit more: proofs/Turns says so of any bytes, here of those at `at` and on.
use Rattle.std.proofs.Common.{◌≡◌, ◌+◌, ◌<◌, min, arith, ap, ◌∙◌}
use Rattle.ground.specs.Lists.{bytes_at}
use Rattle.ground.proofs.Turns.{in_bits, turned, in_word}
use Rattle.ground.proofs.numbers.number.Goals as goal

pub overflow_add-value : goal.overflow_add-value
overflow_add-value c =
    let more : c.loop-i.i < 8 = omega arith in
    record { fits = rw (c.loop-i.invariant, c.from.ensures, c.byte_on.ensures) (in_word _ (λ j. omega (arith, c.type_inv.s (c.args.at + j))) _ more) }

pub loop-i-preserved : goal.loop-i-preserved
loop-i-preserved c =
    let more : c.loop-i.i < 8 = omega arith in
    rw (c.loop-i.invariant, c.from.ensures, c.byte_on.ensures) (turned _ (λ j. omega (arith, c.type_inv.s (c.args.at + j))) _ more)

pub returns : goal.returns
returns c =
    let all : c.loop-i.i ≡ min c.args.n 8 = omega arith in
    let value = c.loop-i.invariant ∙ ap (bytes_at c.args.s.now c.args.at) all in
    (value, rw value (in_bits _ (λ j. omega (arith, c.type_inv.s (c.args.at + j))) _))
