-- A bad element ends the walk, a good one and one that is not asked for lead on, and at the end the count is told.
use Rattle.std.proofs.Common.{sym, ◌∙◌}
use Rattle.steps.specs.Lanes.{asked}
use Rattle.steps.specs.Outcomes.{survey_of}
use Rattle.bench.proofs.Turns.{pass_turn, read_turn, fault_turn, finished}
use Rattle.bench.proofs.reads.Load.survey.Goals as goal
use Rattle.bench.proofs.reads.Load.survey.Goals.{then-asks+in-Ok, else-asks}

pub returns-in-Err : goal.returns-in-Err
unfolding survey_of asked
returns-in-Err c = fault_turn c.loop-e.invariant c.loop-e-test.true (sym c.asks.ensures ∙ c.if-asks.true) _ (sym c.in-Err.ensures)

pub loop-e-preserved : goal.loop-e-preserved
loop-e-preserved c =
    let s = c.loop-e.invariant in
    let more = c.loop-e-test.true in
    elim c.if-asks.branch [
      | then-asks+in-Ok w ↦ rw w.count-is (read_turn s more (sym c.asks.ensures ∙ w.if-asks.true) _ (sym w.in-Ok.ensures))
      | else-asks w ↦ rw w.count-is (pass_turn s more (sym c.asks.ensures ∙ w.if-asks.false))
    ]

pub returns : goal.returns
unfolding survey_of asked
returns c = finished c.loop-e.invariant c.loop-e-test.false
