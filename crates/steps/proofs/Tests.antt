-- The definition's tests, in the scope of work's words.
use mathlib.Core.Path.{◌≡◌, refl}
use mathlib.Core.Bool.{true, ◌&&◌}
use mathlib.Core.Logic.{◌↔◌}
use Prim.Native.Nat.{◌%◌}
use lib.Dec.{eqb}
use borrow.Author.Tests.{eq-eqb, eqb-true, ne_eqb, not-true}
use Rattle.ground.proofs.Laws.{never, and_both, and_left, and_right}
use Rattle.steps.specs.Insns.{Insn, Shape, Replicate, ByElement, Contiguous, Block}
use Rattle.steps.specs.Benches.{Lent, Bench}
use Rattle.steps.specs.Terms.{scalar}
use Rattle.steps.specs.Plans.{plan_of}
use Rattle.steps.specs.Lanes.{governing_bytes, checks_stack}
use Rattle.steps.specs.Step.{is_wide, switched_on, stack_fails}
use Rattle.steps.specs.Said.{Accepted, Checks}
use Rattle.steps.specs.Demand1.{WideAs, OnAs}
use Rattle.steps.specs.declared.Plan.{Plan}
use Rattle.steps.proofs.Actives.{checks_exactly}

pub wide_exactly : (s : Shape) → (is_wide s ≡ true) ↔ WideAs s
wide_exactly (Replicate q back) = (λ h. never h refl, λ h. absurd h)
wide_exactly (ByElement imm6) = (λ h. never h refl, λ h. absurd h)
wide_exactly (Contiguous o) = (λ h. never h refl, λ h. absurd h)
wide_exactly (Block wide o) = (λ h. h, λ h. h)

pub on_exactly : (l : Lent) (s : Shape) → (switched_on l.settings s ≡ true) ↔ OnAs s l
on_exactly l (Replicate q back) = (λ h. h, λ h. h)
on_exactly l (ByElement imm6) = (λ h. h, λ h. h)
on_exactly l (Contiguous o) = (λ h. h, λ h. h)
on_exactly l (Block wide o) = (λ h. h, λ h. h)

module _ (l : Lent) (b : Bench) where
  abbrev plan : Insn → Plan
  plan i = plan_of l.settings.vl b.scalars i

  pub stack_exactly : Accepted l b → (i : Insn)
      → (stack_fails b.scalars (plan i) (governing_bytes l (plan i)) ≡ true) ↔ ((i.base ≡ 31) × Checks l i × (scalar b.scalars 31 % 16 ≡ 0 → ⊥))
  unfolding stack_fails
  stack_exactly a i =
      let c = checks_exactly l b.scalars a.allowed i i.shape in
      let made = checks_stack (plan i) (governing_bytes l (plan i)) in (
        λ h.
            let f = and_left (eqb i.base 31 && made) _ h in
            let g = not-true (eqb (scalar b.scalars 31 % 16) 0) (and_right (eqb i.base 31 && made) _ h) in
            (eqb-true _ 31 (and_left (eqb i.base 31) _ f), c.0 (and_right (eqb i.base 31) _ f), λ z. never (eq-eqb _ 0 z) g),
        λ h.
            and_both (eqb i.base 31 && made) _
            (and_both (eqb i.base 31) _ (eq-eqb _ 31 h.0) (c.1 h.1))
            (rw (ne_eqb (scalar b.scalars 31 % 16) 0 h.2)),
      )
