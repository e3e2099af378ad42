-- A load that is not refused for want of F64MM, and whose switch is off, earns 4. It is written out, so that another answer dies here.
use Rattle.std.proofs.Common.{refl, sym}
use Rattle.steps.specs.Step.{planned_load, refusals}
use Rattle.plans.proofs.families.Load.planned.Goals as goal
use Rattle.plans.proofs.families.Load.planned.Goals.{else-is_wide-via-then-is_wide+else-not-self, else-is_wide-via-else-is_wide}

pub returns-then-switched_off : goal.returns-then-switched_off
unfolding planned_load refusals
returns-then-switched_off c =
    elim c.else-is_wide.branch [
      | else-is_wide-via-then-is_wide+else-not-self w ↦ rw (w.if-not-self.false, sym w.if-is_wide.ensures, sym c.if-switched_off.ensures) refl
      | else-is_wide-via-else-is_wide w ↦ rw (sym w.if-is_wide.ensures, sym c.if-switched_off.ensures) refl
    ]
