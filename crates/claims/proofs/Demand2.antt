-- Demand 2: a step does what Arm's pages say. Which words decode is in Words.
use Prim.Native.Nat.{◌%◌, ◌*◌, ◌+◌, ◌/◌, ◌<◌, ◌^◌, ◌≤◌, ℕ}
use Rattle.std.specs.Prelude.{Option}
use Rattle.ground.specs.Sizes.{bytes_of}
use Rattle.memory.specs.Addresses.{wrap, wrapℤ}
use Rattle.steps.specs.Answers.{number_of}
use Rattle.steps.specs.Benches.{Bench, Lent}
use Rattle.steps.specs.Demand1.{AllReadable, Ready}
use Rattle.steps.specs.Demand2.{Done, Leaves, destination, lane_in}
use Rattle.steps.specs.Lanes.{asked, element_at, governing_bytes}
use Rattle.steps.specs.Plans.{plan_of}
use Rattle.steps.specs.Said.{K, LaneActive, N, Q, copies, lane_bytes, m, offs}
use Rattle.steps.specs.Step.{StepPromise}
use Rattle.steps.specs.Terms.{scalar, signed4}
use Rattle.steps.specs.declared.StepResult.{StepResult}
use Rattle.words.specs.declared.Insn.{Insn}
use Rattle.words.specs.declared.Offset.{Offset}
use Rattle.words.specs.declared.Offset.TheVariants.{Imm, Reg}
use Rattle.words.specs.declared.Shape.TheVariants.{Block, ByElement, Contiguous, Replicate}
use lib.IntN.{◌*ℤ◌, ◌+ℤ◌, pos}
use lib.ListN.{length}
use mathlib.Core.Bool.{Bool, false, true}
use mathlib.Core.List.{List}
use mathlib.Core.Logic.{◌↔◌}
use mathlib.Core.Path.{◌≡◌}

-- Those loads run, and nothing else does.
pub demand_2_runs : (l : Lent) (w : ℕ) (b : Bench) (r : StepResult) (l₁ : Lent) (b₁ : Bench) (promise : StepPromise l w b r l₁ b₁)
    → (number_of r.answer ≡ 0) ↔ ((i : Insn) × Ready l w b i × AllReadable l b i)
demand_2_runs = Rattle.steps.proofs.Demand2.demand_2_runs

-- So, where it ran, the word is such a load, and that is what it leaves.
pub demand_2_promise : (l : Lent) (w : ℕ) (b : Bench) (r : StepResult) (l₁ : Lent) (b₁ : Bench) (promise : StepPromise l w b r l₁ b₁)
    → number_of r.answer ≡ 0 → Done l w b l₁ b₁
demand_2_promise = Rattle.steps.proofs.Demand2.demand_2_promise

-- A load that is ready and can read every byte of its active elements leaves what document 01 says: each lane its extended
-- number or zero in every destination, the base, PC, and everything else as it was.
pub demand_2 : (l : Lent) (w : ℕ) (b : Bench) (r : StepResult) (l₁ : Lent) (b₁ : Bench) (promise : StepPromise l w b r l₁ b₁) → (i : Insn)
    → Ready l w b i → AllReadable l b i → Leaves l b i l₁ b₁
demand_2 = Rattle.steps.proofs.Demand2.demand_2

-- These words leave nothing open: a bench of which they hold is the one that the step leaves.
pub demand_2_determined : (l : Lent) (w : ℕ) (b : Bench) (r : StepResult) (l₁ : Lent) (b₁ : Bench) (promise : StepPromise l w b r l₁ b₁) → (l₂ : Lent)
    (b₂ : Bench) → Done l w b l₂ b₂ → (l₂ ≡ l₁) × (b₂ ≡ b₁)
demand_2_determined = Rattle.steps.proofs.Demand2.demand_2_determined

-- Its count is the number of reads in the definition.
pub demand_2_count : (l : Lent) (w : ℕ) (b : Bench) (r : StepResult) (l₁ : Lent) (b₁ : Bench) (promise : StepPromise l w b r l₁ b₁) → (i : Insn)
    → Ready l w b i → AllReadable l b i → let p = plan_of l.settings.vl b.scalars i in r.count ≡ length (asked p (governing_bytes l p))
demand_2_count = Rattle.steps.proofs.Demand2.demand_2_count

-- Of LD1R to LD4R it is the number of registers.
pub replicate_count : (l : Lent) (w : ℕ) (b : Bench) (r : StepResult) (l₁ : Lent) (b₁ : Bench) (promise : StepPromise l w b r l₁ b₁) → (i : Insn)
    → Ready l w b i → AllReadable l b i → (q : Bool) (back : Option ℕ) → i.shape ≡ Replicate q back → r.count ≡ i.registers
replicate_count = Rattle.steps.proofs.Demand2.replicate_count

-- "registers t, t+1 and on, 31 followed by 0": register t + j modulo 32,
pub destination_is : (i : Insn) → i.target < 32 → (j : ℕ) → destination i j ≡ (i.target + j) % 32
destination_is = Rattle.steps.proofs.Places.destination_is

-- so that no register is a destination twice.
pub destinations_apart : (i : Insn) → i.target < 32 → (j k : ℕ) → j < k → k < 32 → destination i j ≡ destination i k → ⊥
destinations_apart = Rattle.steps.proofs.Places.destinations_apart

-- Before read e of LD1R to LD4R, page 004's offset is e reads on, so that after the last it is "the sum of the reads".
pub offs_sum : (i : Insn) (e : ℕ) → e * m i ≡ offs i e
offs_sum = Rattle.steps.proofs.Places.offs_sum

-- An inactive lane becomes zero: of LD1,
pub inactive_zero : (l : Lent) (w : ℕ) (b : Bench) (r : StepResult) (l₁ : Lent) (b₁ : Bench) (promise : StepPromise l w b r l₁ b₁) (i : Insn)
    (ready : Ready l w b i) (all : AllReadable l b i) (j : ℕ) (there : j < i.registers) (k : ℕ) (inside : k < N l i) → (o : Offset) → i.shape ≡ Contiguous o → (LaneActive l i k → ⊥)
    → lane_in l b₁.vectors (destination i j) (lane_bytes i) k ≡ 0
inactive_zero = Rattle.steps.proofs.Demand2.inactive_zero

-- of LD1R by element,
pub element_inactive_zero : (l : Lent) (w : ℕ) (b : Bench) (r : StepResult) (l₁ : Lent) (b₁ : Bench) (promise : StepPromise l w b r l₁ b₁) (i : Insn)
    (ready : Ready l w b i) (all : AllReadable l b i) (j : ℕ) (there : j < i.registers) (k : ℕ) (inside : k < N l i) → (imm6 : ℕ) → i.shape ≡ ByElement imm6 → (LaneActive l i k → ⊥)
    → lane_in l b₁.vectors (destination i j) (lane_bytes i) k ≡ 0
element_inactive_zero = Rattle.steps.proofs.Demand2.element_inactive_zero

-- of a block load, where it is one of the block's own, zero in each copy;
pub block_inactive_zero : (l : Lent) (w : ℕ) (b : Bench) (r : StepResult) (l₁ : Lent) (b₁ : Bench) (promise : StepPromise l w b r l₁ b₁) (i : Insn)
    (ready : Ready l w b i) (all : AllReadable l b i) (j : ℕ) (there : j < i.registers) (k : ℕ) (inside : k < N l i) → (wide : Bool) (o : Offset) → i.shape ≡ Block wide o
    → (LaneActive l i (k % K wide i) → ⊥) → lane_in l b₁.vectors (destination i j) (lane_bytes i) k ≡ 0
block_inactive_zero = Rattle.steps.proofs.Demand2.block_inactive_zero

-- and so do the bytes that a block leaves over,
pub left_over_zero : (l : Lent) (w : ℕ) (b : Bench) (r : StepResult) (l₁ : Lent) (b₁ : Bench) (promise : StepPromise l w b r l₁ b₁) (i : Insn)
    (ready : Ready l w b i) (all : AllReadable l b i) (j : ℕ) (there : j < i.registers) (k : ℕ) (inside : k < N l i) → (wide : Bool) (o : Offset) → i.shape ≡ Block wide o
    → copies l wide ≤ k / K wide i → lane_in l b₁.vectors (destination i j) (lane_bytes i) k ≡ 0
left_over_zero = Rattle.steps.proofs.Demand2.left_over_zero

-- and, of LD1R to LD4R, "the rest of the Z register".
pub rest_zero : (l : Lent) (w : ℕ) (b : Bench) (r : StepResult) (l₁ : Lent) (b₁ : Bench) (promise : StepPromise l w b r l₁ b₁) (i : Insn)
    (ready : Ready l w b i) (all : AllReadable l b i) (j : ℕ) (there : j < i.registers) (k : ℕ) (inside : k < N l i) → (q : Bool) (back : Option ℕ) → i.shape ≡ Replicate q back
    → 8 * 2 ^ Q q ≤ k * lane_bytes i → lane_in l b₁.vectors (destination i j) (lane_bytes i) k ≡ 0
rest_zero = Rattle.steps.proofs.Demand2.rest_zero

-- imm4 is a whole number from -8 to 7.
pub imm4_signed : (v : ℕ) → v < 16 → signed4 v +ℤ pos 8 ≡ pos ((v + 8) % 16)
imm4_signed = Rattle.steps.proofs.Demand2.imm4_signed

-- base + (imm4 × N + e) × m
pub ld1_immediate : (l : Lent) (x : List ℕ) (i : Insn) → (imm4 : ℕ) → i.shape ≡ Contiguous (Imm imm4) → (e : ℕ)
    → element_at (plan_of l.settings.vl x i) e
    ≡ wrapℤ (pos (scalar x i.base) +ℤ (signed4 imm4 *ℤ pos (l.settings.vl / (8 * bytes_of i.element.lane)) +ℤ pos e) *ℤ pos
    (bytes_of i.element.memory))
ld1_immediate = Rattle.steps.proofs.Demand2.ld1_immediate

-- base + (Xm + e) × m
pub ld1_scalar : (l : Lent) (x : List ℕ) (i : Insn) → (rm : ℕ) → i.shape ≡ Contiguous (Reg rm) → (e : ℕ) → element_at (plan_of l.settings.vl x i) e
    ≡ wrap (scalar x i.base + (scalar x rm + e) * bytes_of i.element.memory)
ld1_scalar = Rattle.steps.proofs.Demand2.ld1_scalar

-- base + imm4 × 16 + e × m
pub ld1rq_immediate : (l : Lent) (x : List ℕ) (i : Insn) → (imm4 : ℕ) → i.shape ≡ Block false (Imm imm4) → (e : ℕ)
    → element_at (plan_of l.settings.vl x i) e ≡ wrapℤ (pos (scalar x i.base) +ℤ signed4 imm4 *ℤ pos 16 +ℤ pos (e * bytes_of i.element.memory))
ld1rq_immediate = Rattle.steps.proofs.Demand2.ld1rq_immediate

-- base + imm4 × 32 + e × m
pub ld1ro_immediate : (l : Lent) (x : List ℕ) (i : Insn) → (imm4 : ℕ) → i.shape ≡ Block true (Imm imm4) → (e : ℕ)
    → element_at (plan_of l.settings.vl x i) e ≡ wrapℤ (pos (scalar x i.base) +ℤ signed4 imm4 *ℤ pos 32 +ℤ pos (e * bytes_of i.element.memory))
ld1ro_immediate = Rattle.steps.proofs.Demand2.ld1ro_immediate

-- LD1RQ and LD1RO, scalar: base + (Xm + e) × m
pub block_scalar : (l : Lent) (x : List ℕ) (i : Insn) → (wide : Bool) (rm : ℕ) → i.shape ≡ Block wide (Reg rm) → (e : ℕ)
    → element_at (plan_of l.settings.vl x i) e ≡ wrap (scalar x i.base + (scalar x rm + e) * bytes_of i.element.memory)
block_scalar = Rattle.steps.proofs.Demand2.block_scalar

-- one read at base + imm6 × m
pub ld1r_by_element : (l : Lent) (x : List ℕ) (i : Insn) → (imm6 : ℕ) → i.shape ≡ ByElement imm6 → element_at (plan_of l.settings.vl x i) 0
    ≡ wrap (scalar x i.base + imm6 * bytes_of i.element.memory)
ld1r_by_element = Rattle.steps.proofs.Demand2.ld1r_by_element

-- LD1R to LD4R: base + e × m, from the base itself on
pub replicated : (l : Lent) (x : List ℕ) (i : Insn) → (q : Bool) (back : Option ℕ) → i.shape ≡ Replicate q back → (e : ℕ)
    → element_at (plan_of l.settings.vl x i) e ≡ wrap (scalar x i.base + e * bytes_of i.element.memory)
replicated = Rattle.steps.proofs.Demand2.replicated
