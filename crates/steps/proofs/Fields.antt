-- What keeps a plan's elements few, how many destinations it has, and that its write-back is the scope's.
use Rattle.std.proofs.lemmas.Option.{none-some, same_Some}
use mathlib.Core.Path.{◌≡◌, refl, sym, ap, subst, ◌∙◌}
use mathlib.Core.List.{List}
use mathlib.Core.Logic.{⊎_elim}
use native.Mathlib.Nat.{div-le_self, div-div-eq-div-mul}
use Prim.Native.Nat.{ℕ, ◌*◌, ◌/◌, ◌≤◌}
use native.Mathlib.Omega.{arith}
use lib.Dec.{eqb}
use borrow.Author.Tests.{eq-eqb, ne_eqb, eqb-true, eqb-false}
use Rattle.ground.proofs.Laws.{true_or_false, if_cases}
use Rattle.ground.specs.Sizes.{bytes_of}
use Rattle.ground.specs.declared.Size.{Size}
use Rattle.words.specs.Ranges.{ShapeInRange}
use Rattle.steps.specs.Insns.{Insn, Shape, Replicate, ByElement, Contiguous, Block, Some, None}
use Rattle.steps.specs.Terms.{block_bytes}
use Rattle.steps.specs.Plans.{spread_of, plan_with}
use Rattle.steps.specs.Lanes.{destinations_in}
use Rattle.steps.specs.Demand1.{element_limit}
use Rattle.steps.specs.Demand2.{AddsAs}
use Rattle.steps.specs.Demand2 as S
use Rattle.steps.proofs.Places.{offs_sum}

-- no load has more than 256 elements: a register has at most 256 bytes, and no more lanes of any size; a block has fewer
pub lanes_most : (s : Size) (vl : ℕ) → vl ≤ 2048 → vl / (8 * bytes_of s) ≤ element_limit
lanes_most s vl h = omega (arith, div-le_self (vl / 8) (bytes_of s), div-div-eq-div-mul vl 8 (bytes_of s))

module _ (vl : ℕ) (x : List ℕ) (i : Insn) where
  pub elements_few : (s : Shape) → i.registers ≤ 4 → vl ≤ 2048 → (spread_of vl x i s).elements ≤ element_limit
  unfolding spread_of
  elements_few (Replicate q back) r h = omega arith
  elements_few (ByElement imm6) r h = omega arith
  elements_few (Contiguous o) r h = lanes_most i.element.lane vl h
  elements_few (Block wide o) r h =
      let b = if_cases (λ (n : ℕ). n ≤ 32) wide 32 16 (λ _. omega arith) (λ _. omega arith) in
      omega (arith, div-le_self (block_bytes wide) (bytes_of i.element.lane), b)

  -- as many destinations as the instruction loads registers
  pub destinations_all : (s : Shape) → ShapeInRange i s → destinations_in (plan_with i (spread_of vl x i s)) ≡ i.registers
  unfolding spread_of destinations_in
  destinations_all (Replicate q back) r = refl
  destinations_all (ByElement imm6) r = sym r.3
  destinations_all (Contiguous o) r = sym r.3
  destinations_all (Block wide o) r = sym r.3

  -- the write-back is the scope's
  pub adds_back : (s : Shape) (a : ℕ) → AddsAs x i s a → (spread_of vl x i s).back ≡ Some a
  unfolding spread_of
  adds_back s a (S.size {r = r} h) = rw (eq-eqb r 31 h) (ap Some (offs_sum i i.registers))
  adds_back s a (S.register {r = r} h) = rw (ne_eqb r 31 h) refl

  pub back_adds : (s : Shape) (a : ℕ) → (spread_of vl x i s).back ≡ Some a → AddsAs x i s a
  unfolding spread_of
  back_adds (Replicate q None) a h = absurd (none-some a h)
  back_adds (Replicate q (Some r)) a h =
      let is = same_Some _ a h in
      let Adds : ℕ → Type 0 = AddsAs x i (Replicate q (Some r)) in
      ⊎_elim
      (λ t. subst Adds (sym (offs_sum i i.registers) ∙ rw t at is) (S.size (eqb-true r 31 t)))
      (λ t. subst Adds (rw t at is) (S.register (eqb-false r 31 t)))
      (true_or_false (eqb r 31))
  back_adds (ByElement imm6) a h = absurd (none-some a h)
  back_adds (Contiguous o) a h = absurd (none-some a h)
  back_adds (Block wide o) a h = absurd (none-some a h)
