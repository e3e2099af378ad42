-- Each turn writes the bytes of one more number.
use Rattle.std.proofs.Common.{ap, ◌∙◌, arith}
use lib.Arith.{digits_div, digits_mod}
use Rattle.ground.specs.Lists.{listed}
use Rattle.ground.proofs.Fills.{unfilled, digits_filled, all_filled}
use Rattle.cases.specs.Outcomes.{eighth, eights}
use Rattle.cases.proofs.outcomes.put_numbers.Goals as goal

pub loop-i-init : goal.loop-i-init
loop-i-init c = unfilled _ _ _

pub loop-i-preserved : goal.loop-i-preserved
loop-i-preserved c =
    digits_filled c.loop-i.invariant _ (omega arith) (λ j k. rw (digits_div c.loop-i.i k, digits_mod c.loop-i.i k)) _ c.put.ensures

pub returns : goal.returns
unfolding eights
returns c = all_filled c.loop-i.invariant (omega arith) ∙ ap (listed (eighth c.args.x.now) 0) c.requires
