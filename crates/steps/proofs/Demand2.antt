-- Demand 2 of any outcome that meets the promise of a step, in the words of specs/Said, specs/Demand1 and specs/Demand2: where each element lies, what a load
-- that ran leaves, and that these words leave nothing open. Which words decode is stated in the crate words (Decodes).
use mathlib.Core.Path.{◌≡◌, refl, sym, ap, subst, subst₂, ◌∙◌}
use mathlib.Core.Bool.{Bool, true, false}
use mathlib.Core.List.{List}
use mathlib.Core.Logic.{◌↔◌}
use Prim.Native.Nat.{ℕ, ◌+◌, ◌*◌, ◌/◌, ◌%◌, ◌^◌, ◌≤◌, ◌<◌}
use native.Mathlib.Omega.{arith}
use lib.IntN.{pos, ◌+ℤ◌, ◌*ℤ◌}
use lib.ListN.{length}
use Rattle.ground.specs.Sizes.{bytes_of}
use Rattle.steps.specs.Insns.{Insn, Shape, Replicate, ByElement, Contiguous, Block, Offset, Imm, Reg, Option}
use Rattle.memory.specs.Addresses.{wrap, wrapℤ}
use Rattle.steps.specs.Benches.{Lent, Bench}
use Rattle.steps.specs.Answers.{number_of, report_of}
use Rattle.steps.specs.Terms.{signed4, scalar}
use Rattle.steps.specs.Plans.{spread_of, plan_with, plan_of}
use Rattle.steps.specs.Lanes.{governing_bytes, wanted, asked, element_at}
use Rattle.steps.specs.Outcomes.{Outcome}
use Rattle.steps.specs.Step.{step_of, StepPromise}
use Rattle.steps.specs.Said.{lane_bytes, N, Q, K, copies, LaneActive}
use Rattle.steps.specs.Demand1.{Ready, AllReadable}
use Rattle.steps.specs.Demand2.{destination, TakesAs, lane_in, Leaves, Done}
use Rattle.steps.specs.declared.StepResult.{StepResult}
use Rattle.steps.proofs.Places.{signed_field, on_from, by_immediate, by_register}
use Rattle.steps.proofs.Counts.{many_all}
use Rattle.steps.proofs.Gives.{runs, ran_only}
use Rattle.steps.proofs.Determined.{determined}
use Rattle.steps.proofs.Keeps.{lent_kept}
use Rattle.steps.proofs.Runs.{ran_leaves, ran_bench, ran_count}

-- Where element e lies, family by family, in document 01's own formulas: modulo 2^64, and imm4 a whole number from -8 to 7. `Given` and
-- `Leaves` name each byte by these formulas (byteAt of Said); the laws say that the plan reads there.
pub imm4_signed : (v : ℕ) → v < 16 → signed4 v +ℤ pos 8 ≡ pos ((v + 8) % 16)
imm4_signed v h = signed_field v h

module _ (l : Lent) (x : List ℕ) (i : Insn) where
  -- where the plan of the instruction has element e, and where it would with another shape
  abbrev at : ℕ → ℕ
  at e = element_at (plan_of l.settings.vl x i) e

  abbrev at_as : Shape → ℕ → ℕ
  at_as s e = element_at (plan_with i (spread_of l.settings.vl x i s)) e

  own : {s : Shape} (e : ℕ) {n : ℕ} → i.shape ≡ s → at_as s e ≡ n → at e ≡ n
  own e h q = ap (λ (t : Shape). at_as t e) h ∙ q

  -- base + (imm4 × N + e) × m
  pub ld1_immediate : (imm4 : ℕ) → i.shape ≡ Contiguous (Imm imm4) → (e : ℕ)
      → at e ≡ wrapℤ (pos (scalar x i.base) +ℤ (signed4 imm4 *ℤ pos (l.settings.vl / (8 * bytes_of i.element.lane)) +ℤ pos e) *ℤ pos
      (bytes_of i.element.memory))
  unfolding element_at spread_of
  ld1_immediate imm4 h e = own e h (by_immediate (scalar x i.base) (signed4 imm4) _ e _)

  -- base + (Xm + e) × m
  pub ld1_scalar : (rm : ℕ) → i.shape ≡ Contiguous (Reg rm) → (e : ℕ) → at e ≡ wrap (scalar x i.base + (scalar x rm + e) * bytes_of i.element.memory)
  unfolding element_at spread_of
  ld1_scalar rm h e = own e h (by_register (scalar x i.base) (scalar x rm) e _)

  -- base + imm4 × 16 + e × m
  pub ld1rq_immediate : (imm4 : ℕ) → i.shape ≡ Block false (Imm imm4) → (e : ℕ)
      → at e ≡ wrapℤ (pos (scalar x i.base) +ℤ signed4 imm4 *ℤ pos 16 +ℤ pos (e * bytes_of i.element.memory))
  unfolding element_at spread_of
  ld1rq_immediate imm4 h e = own e h (sym (on_from (scalar x i.base) (signed4 imm4 *ℤ pos 16) _))

  -- base + imm4 × 32 + e × m
  pub ld1ro_immediate : (imm4 : ℕ) → i.shape ≡ Block true (Imm imm4) → (e : ℕ)
      → at e ≡ wrapℤ (pos (scalar x i.base) +ℤ signed4 imm4 *ℤ pos 32 +ℤ pos (e * bytes_of i.element.memory))
  unfolding element_at spread_of
  ld1ro_immediate imm4 h e = own e h (sym (on_from (scalar x i.base) (signed4 imm4 *ℤ pos 32) _))

  -- LD1RQ and LD1RO, scalar: base + (Xm + e) × m
  pub block_scalar : (wide : Bool) (rm : ℕ) → i.shape ≡ Block wide (Reg rm) → (e : ℕ)
      → at e ≡ wrap (scalar x i.base + (scalar x rm + e) * bytes_of i.element.memory)
  unfolding element_at spread_of
  block_scalar wide rm h e = own e h (by_register (scalar x i.base) (scalar x rm) e _)

  -- one read at base + imm6 × m
  pub ld1r_by_element : (imm6 : ℕ) → i.shape ≡ ByElement imm6 → at 0 ≡ wrap (scalar x i.base + imm6 * bytes_of i.element.memory)
  unfolding element_at spread_of
  ld1r_by_element imm6 h = own 0 h (omega arith)

  -- LD1R to LD4R: base + e × m, from the base itself on
  pub replicated : (q : Bool) (back : Option ℕ) → i.shape ≡ Replicate q back → (e : ℕ) → at e ≡ wrap (scalar x i.base + e * bytes_of i.element.memory)
  unfolding element_at spread_of
  replicated q back h e = own e h refl

-- what the definition leaves of such a load
pub leaves : (l : Lent) (w : ℕ) (b : Bench) (i : Insn) → Ready l w b i → AllReadable l b i → Leaves l b i (step_of l w b).lent (step_of l w b).bench
leaves l w b i r a = subst₂ (Leaves l b i) (sym (lent_kept l w b)) (sym (ran_bench l w b i r a)) (ran_leaves l w b i r a)

-- Of any result r, and any bench left, that meet the promise of a step:
module _ (l : Lent) (w : ℕ) (b : Bench) (r : StepResult) (l₁ : Lent) (b₁ : Bench) (promise : StepPromise l w b r l₁ b₁) where
  -- it is so of the outcome if it is so of the definition's
  by_promise : (P : Outcome → Type 0) → P (step_of l w b) → P (record { report = report_of r; lent = l₁; bench = b₁ })
  by_promise P = subst P (sym promise.ends)

  -- A load that is ready and can read every byte of its active elements leaves what document 01 says: each lane its extended
  -- number or zero in every destination, the base, PC, and everything else as it was.
  pub demand_2 : (i : Insn) → Ready l w b i → AllReadable l b i → Leaves l b i l₁ b₁
  demand_2 i ready all = by_promise (λ (o : Outcome). Leaves l b i o.lent o.bench) (leaves l w b i ready all)

  -- Those loads run, and nothing else does.
  pub demand_2_runs : (number_of r.answer ≡ 0) ↔ ((i : Insn) × Ready l w b i × AllReadable l b i)
  demand_2_runs =
      by_promise (λ (o : Outcome). (o.report.number ≡ 0) ↔ ((i : Insn) × Ready l w b i × AllReadable l b i))
      (ran_only l w b promise.came.word, λ h. runs l w b h.0 h.1 h.2)

  -- So, where it ran, the word is such a load, and that is what it leaves.
  pub demand_2_promise : number_of r.answer ≡ 0 → Done l w b l₁ b₁
  demand_2_promise z = let d = demand_2_runs.0 z in (d.0, d.1, d.2, demand_2 d.0 d.1 d.2)

  -- These words leave nothing open: a bench of which they hold is the one that the step leaves.
  pub demand_2_determined : (l₂ : Lent) (b₂ : Bench) → Done l w b l₂ b₂ → (l₂ ≡ l₁) × (b₂ ≡ b₁)
  demand_2_determined l₂ b₂ (i, ready, all, done) = determined l w b i ready all promise.came l₂ l₁ b₂ b₁ done (demand_2 i ready all)

  -- The count is the number of reads in the definition.
  pub demand_2_count : (i : Insn) → Ready l w b i → AllReadable l b i
      → let p = plan_of l.settings.vl b.scalars i in r.count ≡ length (asked p (governing_bytes l p))
  demand_2_count i ready all =
      let p = plan_of l.settings.vl b.scalars i in
      by_promise (λ (o : Outcome). o.report.count ≡ length (asked p (governing_bytes l p))) (ran_count l w b i ready all)

  -- LD1R to LD4R: as many as registers.
  pub replicate_count : (i : Insn) → Ready l w b i → AllReadable l b i → (q : Bool) (back : Option ℕ) → i.shape ≡ Replicate q back → r.count ≡ i.registers
  unfolding asked spread_of wanted
  replicate_count i ready all q back h =
      let count : Shape → ℕ = λ s. let p = plan_with i (spread_of l.settings.vl b.scalars i s) in length (asked p (governing_bytes l p)) in
      demand_2_count i ready all ∙ ap count h ∙ many_all (λ e. true) i.registers (λ e. refl)

  -- An inactive lane becomes zero; in a block load it is one of the block's own, and zero in each copy; bytes left over are zero. Of an
  -- instruction that ran, j one of its destinations, and k one of its lanes:
  module _ (i : Insn) (ready : Ready l w b i) (all : AllReadable l b i) (j : ℕ) (there : j < i.registers)
      (k : ℕ) (inside : k < N l i) where
    -- what lane k of the destination holds
    abbrev lane : ℕ
    lane = lane_in l b₁.vectors (destination i j) (lane_bytes i) k

    none : {s : Shape} → i.shape ≡ s → ((e : ℕ) → TakesAs s l i j k e → ⊥) → lane ≡ 0
    none {s} h q = (demand_2 i ready all).zero j k there inside (λ e t. q e (subst (λ (u : Shape). TakesAs u l i j k e) h t))

    pub inactive_zero : (o : Offset) → i.shape ≡ Contiguous o → (LaneActive l i k → ⊥) → lane ≡ 0
    inactive_zero o h q = none h (λ e t. q t.1)

    pub element_inactive_zero : (imm6 : ℕ) → i.shape ≡ ByElement imm6 → (LaneActive l i k → ⊥) → lane ≡ 0
    element_inactive_zero imm6 h q = none h (λ e t. q t.1)

    pub block_inactive_zero : (wide : Bool) (o : Offset) → i.shape ≡ Block wide o → (LaneActive l i (k % K wide i) → ⊥) → lane ≡ 0
    block_inactive_zero wide o h q = none h (λ e t. q t.2)

    pub left_over_zero : (wide : Bool) (o : Offset) → i.shape ≡ Block wide o → copies l wide ≤ k / K wide i → lane ≡ 0
    left_over_zero wide o h q = none h (λ e t. let c = t.1 in omega arith)

    -- LD1R to LD4R: "the rest of the Z register becomes zero"
    pub rest_zero : (q : Bool) (back : Option ℕ) → i.shape ≡ Replicate q back → 8 * 2 ^ Q q ≤ k * lane_bytes i → lane ≡ 0
    rest_zero q back h g = none h (λ e t. let c = t.1 in omega arith)
