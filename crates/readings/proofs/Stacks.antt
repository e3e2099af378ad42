-- The premises of the stack rule's laws can be met, and each law is used with these and no other: LD1RQD {Z0.D}, P0/Z, [SP] with SP = 8 and one lane active,
-- which is none of the block's, with SP = 8 and none, and with SP = 4,096, where it reads; and LD1R {V0.16B}, [SP] with SP = 8.
use Rattle.std.proofs.Common.{◌≡◌, ℕ, zero, suc, ◌*◌, ◌%◌, ◌^◌, ◌<◌, true, false, List, [], ◌∷◌, refl, ap, arith, lit<, lit≤}
use Rattle.ground.specs.Sizes.{size_of}
use Rattle.ground.specs.declared.Size.TheVariants.{B8, B64}
use Rattle.words.specs.Dtypes.{dtypes, dtype_of}
use Rattle.words.specs.Families.{scalar_of, families, read_of}
use Rattle.words.proofs.Decodes.{insn_means}
use Rattle.memory.specs.Areas.{is_area_accepted, share_none, are_areas_accepted}
use Rattle.steps.specs.Insns.{Insn, Replicate, Block, Imm, Some, None, Ok}
use Rattle.steps.specs.Answers.{Report, report_with, report_of}
use Rattle.steps.specs.Benches.{Lent, Bench, is_accepted}
use Rattle.steps.specs.Terms.{scalar}
use Rattle.steps.specs.Step.{StepPromise}
use Rattle.steps.specs.Said.{LaneActive}
use Rattle.steps.specs.Demand1.{On, Defined}
use Rattle.steps.specs.declared.StepResult.{StepResult}
use Rattle.steps.proofs.Accepts.{accepted_exactly}
use Rattle.steps.proofs.Stacks.{stack_only, stack_anywhere, stack_always, stack_read}
use Rattle.readings.proofs.Cases.{only, ◌≔◌, sp, empty, page, all_on, SetUp, set_up_with, lent_by, bench_by, eight}

-- both loads
abbrev ld1rqd : Insn
ld1rqd =
    record { element = record { memory = B64; lane = B64; signed = false }; base = 31; target = 0; registers = 1; governing = Some 0; shape = Block false (Imm 0) }

abbrev ld1r : Insn
ld1r = record { element = record { memory = B8; lane = B8; signed = false }; base = 31; target = 0; registers = 1; governing = None; shape = Replicate true None }

-- a bench of VL 256: P0, a byte for each lane of 64 bits, and SP
abbrev pub stack_bench : List ℕ → ℕ → SetUp
stack_bench bytes v = set_up_with (all_on 256) (only 256 0 bytes) (page eight) empty (sp ≔ v ∷ [])

-- lane 2 alone, which is no lane of the block; every bit but the lanes' first; lane 0
abbrev pub past : List ℕ
past = 0 ∷ 0 ∷ 1 ∷ 0 ∷ []

abbrev pub none : List ℕ
none = 0xFE ∷ 0xFE ∷ 0xFE ∷ 0xFE ∷ []

abbrev pub own : List ℕ
own = 1 ∷ 0 ∷ 0 ∷ 0 ∷ []

defined : (w : ℕ) (i : Insn) (u : SetUp) → w < 2 ^ 32 → read_of w ≡ Ok i → is_accepted (lent_by u) (bench_by u) ≡ true → u.settings ≡ all_on 256
    → On (lent_by u) i → Defined (lent_by u) w (bench_by u) i
defined w i u small reads taken settings on =
    record {
      accepted = (accepted_exactly (lent_by u) (bench_by u)).0 taken;
      reads = insn_means w small i reads;
      f64mm = λ _. rw settings;
      on = on;
      long = λ _. rw settings (lit≤ tt);
    }

none_active : (v e : ℕ) → e * 64 < 256 → LaneActive (lent_by (stack_bench none v)) ld1rqd e → ⊥
none_active v zero h a = omega arith
none_active v (suc zero) h a = omega arith
none_active v (suc (suc zero)) h a = omega arith
none_active v (suc (suc (suc zero))) h a = omega arith
none_active v (suc (suc (suc (suc e)))) h a = omega arith

-- what any outcome tells that meets the promise of such a step
abbrev pub Tells : ℕ → SetUp → Report → Type 0
Tells w u t = (r : StepResult) (l₁ : Lent) (b₁ : Bench) → StepPromise (lent_by u) w (bench_by u) r l₁ b₁ → report_of r ≡ t

pub stacks_used : Tells 0xA58023E0 (stack_bench past 8) (report_with 5 0 0 0)
    × Tells 0xA58023E0 (stack_bench none 8) (report_with 0 0 0 0)
    × Tells 0x4D40C3E0 (stack_bench none 8) (report_with 5 0 0 0)
    × (scalar (bench_by (stack_bench own 4096)).scalars 31 % 16 ≡ 0)
unfolding size_of dtypes dtype_of scalar_of families read_of is_area_accepted share_none are_areas_accepted is_accepted
stacks_used =
    let small : 0xA58023E0 < 2 ^ 32 = lit< tt in (
      λ r l₁ b₁ p.
          (stack_anywhere _ _ _ r l₁ b₁ p ld1rqd (defined _ ld1rqd (stack_bench past 8) small refl refl refl refl) refl (λ h. omega arith) 0 refl).0 2 (lit< tt) refl,
      λ r l₁ b₁ p.
          (stack_anywhere _ _ _ r l₁ b₁ p ld1rqd (defined _ ld1rqd (stack_bench none 8) small refl refl refl refl) refl (λ h. omega arith) 0 refl).1 (none_active 8),
      λ r l₁ b₁ p.
          stack_always _ _ _ r l₁ b₁ p ld1r (defined _ ld1r (stack_bench none 8) (lit< tt) refl refl refl refl) refl (λ h. omega arith) refl,
      stack_read _ _ _ ld1rqd (record { defined = defined 0xA58023E0 ld1rqd (stack_bench own 4096) small refl refl refl refl; stack = λ _ _. refl })
          refl 0 (lit< tt, refl),
    )

-- and the first, which answers 5, is a load with SP as base
pub only_used : (r : StepResult) (l₁ : Lent) (b₁ : Bench) → StepPromise (lent_by (stack_bench past 8)) 0xA58023E0 (bench_by (stack_bench past 8)) r l₁ b₁
    → (i : Insn) × (i.base ≡ 31)
only_used r l₁ b₁ p = let f = stack_only _ _ _ r l₁ b₁ p (ap (λ (t : Report). t.number) (stacks_used.0 r l₁ b₁ p)) in (f.0, f.2)
