-- The stack rule by itself: "SP as base must be a multiple of 16. LD1R always checks", and so do LD2R to LD4R; the others, LD1RQ and LD1RO among
-- them, "if any lane at that lane size is active anywhere in VL".
use mathlib.Core.Path.{◌≡◌, refl, sym, subst}
use mathlib.Core.Logic.{◌↔◌}
use Prim.Native.Nat.{ℕ, zero, suc, ◌*◌, ◌%◌, ◌≤◌, ◌<◌}
use Rattle.words.specs.Ranges.{Governed, ShapeInRange}
use Rattle.words.proofs.Ranges.{means_in_range}
use Rattle.steps.specs.Insns.{Insn, Shape, Replicate, ByElement, Contiguous, Block, Option, Some, None}
use Rattle.steps.specs.Benches.{Lent, Bench}
use Rattle.steps.specs.Answers.{number_of, report_with, report_of}
use Rattle.steps.specs.Terms.{scalar}
use Rattle.steps.specs.Step.{StepPromise}
use Rattle.steps.specs.Said.{LengthAllowed, lane_bytes, LaneActive, SomeActive, ActiveAs, Active, ChecksAs, Checks}
use Rattle.steps.specs.Demand1 as S
use Rattle.steps.specs.Demand1.{WideAs, Counted, Defined, Ready, element_limit}
use Rattle.steps.specs.declared.StepResult.{StepResult}
use Rattle.steps.proofs.Actives.{in_register, own_lane}
use Rattle.steps.proofs.Gives.{row_of}
use Rattle.steps.proofs.Demand1.{demand_1_promise}

-- a predicate that governs is not none
abbrev IsBy : Option ℕ → Type 0
IsBy None = ⊥
IsBy (Some g) = Unit {0}

-- "active anywhere in VL": a lane that starts before bit VL
abbrev Anywhere : Lent → Insn → Type 0
Anywhere l i = (e : ℕ) × (e * (8 * lane_bytes i) < l.settings.vl) × LaneActive l i e

-- none of the numbers below n
counted_none : (P : ℕ → Type 0) → ((e : ℕ) → P e → ⊥) → (n : ℕ) → Counted P n 0
counted_none P h zero = S.start
counted_none P h (suc n) = S.miss (h n) (counted_none P h n)

module _ (l : Lent) (allowed : LengthAllowed l.settings.vl) (i : Insn) where
  -- a load that reads an element checks
  active_checks : (s : Shape) → (WideAs s → 256 ≤ l.settings.vl) → (e : ℕ) → ActiveAs s l i e → ChecksAs s l i
  active_checks (Replicate q back) long e h = tt
  active_checks (ByElement imm6) long e h = h.1
  active_checks (Contiguous o) long e h = (e, h.0, h.1)
  active_checks (Block wide o) long e h = (e, own_lane l allowed i wide long e h.0, h.1)

  -- one that a predicate governs checks exactly if a lane is active anywhere
  some_anywhere : SomeActive l i ↔ Anywhere l i
  some_anywhere = (λ c. (c.0, (in_register l allowed i c.0).0 c.1, c.2), λ c. (c.0, (in_register l allowed i c.0).1 c.1, c.2))

  checks_anywhere : (s : Shape) → ShapeInRange i s → IsBy i.governing → ChecksAs s l i ↔ Anywhere l i
  checks_anywhere (Replicate q back) fine by = absurd (subst IsBy fine.2 by)
  checks_anywhere (ByElement imm6) fine by = some_anywhere
  checks_anywhere (Contiguous o) fine by = some_anywhere
  checks_anywhere (Block wide o) fine by = some_anywhere

  -- .. and one that none governs always
  checks_always : (s : Shape) → ShapeInRange i s → i.governing ≡ None → ChecksAs s l i
  checks_always (Replicate q back) fine none = tt
  checks_always (ByElement imm6) fine none = absurd (subst Governed none fine.1)
  checks_always (Contiguous o) fine none = absurd (subst Governed none fine.1)
  checks_always (Block wide o) fine none = absurd (subst Governed none fine.1)

-- a load that is defined and that a predicate governs checks exactly if a lane is active anywhere
governed : (l : Lent) (w : ℕ) (b : Bench) (i : Insn) (d : Defined l w b i) (g : ℕ) → i.governing ≡ Some g → Checks l i ↔ Anywhere l i
governed l w b i d g by = checks_anywhere l d.accepted.allowed i i.shape (means_in_range w i d.reads).shape (subst IsBy (sym by) tt)

-- 5 is given for a load that is defined and on, SP its base and no multiple of 16, and where a predicate governs with a lane active anywhere in VL;
-- and for nothing else.
pub stack_only : (l : Lent) (w : ℕ) (b : Bench) (r : StepResult) (l₁ : Lent) (b₁ : Bench) → StepPromise l w b r l₁ b₁ → number_of r.answer ≡ 5
    → (i : Insn) × Defined l w b i × (i.base ≡ 31) × (scalar b.scalars 31 % 16 ≡ 0 → ⊥)
    × ((g : ℕ) → i.governing ≡ Some g → (e : ℕ) × (e * (8 * lane_bytes i) < l.settings.vl) × LaneActive l i e)
stack_only l w b r l₁ b₁ p five =
    let f = (row_of l w b _ (((demand_1_promise l w b r l₁ b₁ p).0 _).1 refl)).1 five in
    (f.0, f.1, f.2, f.4, λ g by. (governed l w b f.0 f.1 g by).0 f.3)

module _ (l : Lent) (w : ℕ) (b : Bench) (r : StepResult) (l₁ : Lent) (b₁ : Bench) (p : StepPromise l w b r l₁ b₁) (i : Insn) (d : Defined l w b i)
    (sp : i.base ≡ 31) (askew : scalar b.scalars 31 % 16 ≡ 0 → ⊥) where
  stack_fails_lem : Checks l i → report_of r ≡ report_with 5 0 0 0
  stack_fails_lem c = ((demand_1_promise l w b r l₁ b₁ p).0 _).0 (S.stack i d sp c askew)

  none_reads : (Checks l i → ⊥) → report_of r ≡ report_with 0 0 0 0
  none_reads none =
      let unread : (e : ℕ) → Active l i e → ⊥ = λ e h. none (active_checks l d.accepted.allowed i i.shape d.long e h) in
      ((demand_1_promise l w b r l₁ b₁ p).0 _).0
      (S.ran i (record { defined = d; stack = λ _ c. absurd (none c) }) (λ e h. absurd (unread e h)) (counted_none (Active l i) unread element_limit))

  -- Such a load, SP its base and no multiple of 16, governed by a predicate: 5 if a lane is active anywhere in VL, one of the block or not; and if
  -- none is, it runs, and reads nothing.
  pub stack_anywhere : (g : ℕ) → i.governing ≡ Some g
      → ((e : ℕ) → e * (8 * lane_bytes i) < l.settings.vl → LaneActive l i e → report_of r ≡ report_with 5 0 0 0)
      × (((e : ℕ) → e * (8 * lane_bytes i) < l.settings.vl → LaneActive l i e → ⊥) → report_of r ≡ report_with 0 0 0 0)
  stack_anywhere g by =
      let c = governed l w b i d g by in
      (λ e h a. stack_fails_lem (c.1 (e, h, a)), λ none. none_reads (λ k. let a = c.0 k in none a.0 a.1 a.2))

  -- .. and governed by none, as LD1R to LD4R are: 5.
  pub stack_always : i.governing ≡ None → report_of r ≡ report_with 5 0 0 0
  stack_always none = stack_fails_lem (checks_always l d.accepted.allowed i i.shape (means_in_range w i d.reads).shape none)

-- A load that is past the stack rule reads through an SP that is a multiple of 16, if SP is its base and it reads at all.
pub stack_read : (l : Lent) (w : ℕ) (b : Bench) (i : Insn) → Ready l w b i → i.base ≡ 31 → (e : ℕ) → Active l i e → scalar b.scalars 31 % 16 ≡ 0
stack_read l w b i r sp e h = let d = r.defined in r.stack sp (active_checks l d.accepted.allowed i i.shape d.long e h)
