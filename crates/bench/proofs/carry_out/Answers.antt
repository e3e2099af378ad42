-- It ends at the stack rule, or as the load does, as the definition has it.
use Rattle.std.proofs.Common.{◌≡◌, ℕ, ◌*◌, ◌/◌, ◌%◌, ◌≤◌, List, length, sym, subst, arith}
use Rattle.steps.specs.Lanes.{governing_bytes}
use Rattle.steps.specs.Said.{LengthAllowed}
use Rattle.bench.proofs.Ends.{decided, at_stack_lem, faulted_in, ran_in}
use Rattle.bench.proofs.carry_out.Goals as goal
use Rattle.bench.proofs.carry_out.Goals.{in-Ran, in_default}

-- a register is whole lanes, and a predicate decides over all of it
lanes_in : (vl : ℕ) → LengthAllowed vl → (vl / 8 ≤ 256) × (vl / 8 % 8 ≡ 0) × (vl / 8 ≤ 8 * (vl / 64))
lanes_in vl allowed = (omega arith, omega arith, omega arith)

pub returns-then-stack_fails : goal.returns-then-stack_fails
unfolding governing_bytes
returns-then-stack_fails c = at_stack_lem _ _ _ _ c.governing_bytes.ensures (sym c.if-stack_fails.ensures)

pub invariant_of-lanes : goal.invariant_of-lanes
invariant_of-lanes c =
    let plan = c.args.plan in
    let accepted = c.requires.accepted in
    let sound = c.requires.plan_in_range.0 in
    let n = lanes_in c.args.lent.settings.vl accepted.allowed in
    record {
      fits = record {
        sound = sound;
        shaped = c.requires.plan_in_range.1;
        most = n.0;
        whole = n.1;
        decided =
            λ h. subst (λ (xs : List ℕ). c.args.lent.settings.vl / 8 ≤ 8 * length xs) (sym c.governing_bytes.ensures)
            (decided _ _ c.args.lent.predicates.now accepted.predicates n.2 plan.rule plan.governing sound.governed h);
      };
    }

pub returns-then-matches : goal.returns-then-matches
unfolding governing_bytes
returns-then-matches c =
    elim c.match-matches.branch [
      | in-Ran w ↦ ran_in _ _ _ _ c.governing_bytes.ensures (sym c.if-stack_fails.ensures) _ c.areas.ensures.lent _ _ c.run-found.ensures w.in-Ran.is _ c.scalars.ensures
      | in_default w ↦ absurd cc
    ]

pub returns-else-matches : goal.returns-else-matches
unfolding governing_bytes
returns-else-matches c =
    elim c.match-matches.branch [
      | in-Ran w ↦ absurd cc
      | in_default w ↦ faulted_in _ _ _ _ c.governing_bytes.ensures (sym c.if-stack_fails.ensures) _ c.areas.ensures.lent _ _ c.run-found.ensures w.in_default.not-Ran
    ]
