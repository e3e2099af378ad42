-- What was prepared is what is planned, and a plan that goes is sound and shaped.
use Rattle.plans.proofs.Prepares.{planned_in_range}
use Rattle.plans.proofs.Shapes.{planned_shaped}
use Rattle.bench.proofs.Ends.{prepares, stops, goes}
use Rattle.bench.proofs.accepted_step.Goals as goal

pub carry_out-requires-clause-plan_in_range : goal.carry_out-requires-clause-plan_in_range
carry_out-requires-clause-plan_in_range c =
    let e = prepares _ _ _ c.requires _ c.in-Ok.ensures in
    (planned_in_range _ _ c.requires.allowed _ _ e, planned_shaped _ _ c.requires.allowed _ _ e)

pub returns-in-Err : goal.returns-in-Err
returns-in-Err c = stops _ _ _ _ (prepares _ _ _ c.requires _ c.in-Err.ensures)

pub returns-in-Ok : goal.returns-in-Ok
returns-in-Ok c = goes _ _ _ _ (prepares _ _ _ c.requires _ c.in-Ok.ensures) _ _ c.carry_out.ensures
