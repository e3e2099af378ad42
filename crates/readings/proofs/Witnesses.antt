-- Each premise of a demand can be met. A row below is a load, a bench, a destination and a lane for which all premises of a theorem of demand 2 hold together: a family a
-- row, and with it demand-1-counted, demand-2, -count and -determined; its shape is the premise of its address formula. Benches that earn
-- any other answer than "ran" stand in Refusals.
--
-- No witness is needed of a premise that a theorem has met: StepPromise has an outcome for any input that its types can hold (`promise_met`); `Ready` and
-- `AllReadable` together are exactly "it ran" (`demand_2_runs`); `Given` is exactly the report (`demand_1`); `Leaves` is what the step leaves (`demand_2`),
-- and nothing else (`demand_2_determined`). The pairs of demand 3 stand in Pairs.
use Rattle.std.proofs.Common.{◌≡◌, ℕ, zero, suc, ◌-◌, ◌*◌, ◌/◌, ◌%◌, ◌^◌, ◌<◌, ◌≤◌, Bool, true, false, eqb, ltb, List, [], ◌∷◌, length, replicate, sym, refl, ap, ◌∙◌, subst, arith, ltb-true, eqb-true}
use Rattle.ground.specs.Choices.{all_of}
use Rattle.ground.specs.Sizes.{size_of}
use Rattle.ground.specs.declared.Size.TheVariants.{B8, B64}
use Rattle.ground.proofs.Laws.{all_of_lem, never, ◌&◌}
use Rattle.words.specs.Dtypes.{dtypes, dtype_of}
use Rattle.words.specs.Families.{scalar_of, families, read_of}
use Rattle.memory.specs.Addresses.{wrapℤ, plus_of, moved_of}
use Rattle.memory.specs.Areas.{is_area_accepted, share_none, are_areas_accepted, covers, place_of}
use Rattle.memory.specs.Bytes.{judged, look_of}
use Rattle.memory.specs.Elements.{Reading, reading_of}
use Rattle.steps.specs.Insns.{Insn, Shape, Replicate, ByElement, Contiguous, Block, Offset, Imm, Reg, Option, Some, None, Ok}
use Rattle.steps.specs.Benches.{Lent, Bench, InTypes, is_accepted}
use Rattle.steps.specs.Terms.{scalar, signed4}
use Rattle.steps.specs.Plans.{spread_of, plan_of}
use Rattle.steps.specs.Lanes.{governing_bytes, bit_of, is_active, wanted, asked, lane_takes, checks_stack, element_at}
use Rattle.steps.specs.Outcomes.{Outcome, answers_in, survey_of, outcome_of}
use Rattle.steps.specs.Step.{stack_fails, refusals, planned_load, planned_of, prepared_of, step_of, StepPromise}
use Rattle.steps.specs.Said.{lane_bytes, N, Q, K, copies, LaneActive, Active, lies}
use Rattle.steps.specs.Answers.{Report}
use Rattle.steps.specs.Demand1 as G
use Rattle.steps.specs.Demand1.{Ready, AllReadable, Counted, element_limit}
use Rattle.steps.specs.Demand2.{destination, lane_in, Leaves, Done}
use Rattle.steps.specs.declared.StepResult.{StepResult}
use Rattle.steps.proofs.Demand1.{demand_1_promise, demand_1_counted}
use Rattle.steps.proofs.Demand2.{demand_2, demand_2_promise, demand_2_runs, demand_2_determined, demand_2_count}
use Rattle.steps.proofs.Demand2.{ld1_immediate, ld1_scalar, ld1rq_immediate, ld1ro_immediate, block_scalar, ld1r_by_element, replicated}
use Rattle.steps.specs.declared.Plan.{Plan}
use Rattle.steps.proofs.Demand3.{demand_3_faults, demand_3_apart}
use Rattle.steps.proofs.Places.{offs_sum}
use Rattle.steps.proofs.Promise.{promise_met}
use Rattle.steps.proofs.Touches.{ran_as}
use Rattle.steps.proofs.Demand2.{inactive_zero, element_inactive_zero, block_inactive_zero, left_over_zero, rest_zero}
use Rattle.readings.proofs.Cases.{only, ◌≔◌, empty, page, all_on, SetUp, set_up_with, lent_by, bench_by}
use Rattle.readings.proofs.Cases.{rising}
use Rattle.readings.proofs.Tests.{type_tests, in_types}
use Rattle.readings.proofs.Tables.{EachOf}

-- the theorems of demand 2 by which a lane becomes zero, and the premise of each beside "it ran", "j is one of its destinations" and "k is one
-- of its lanes"
pub data Law : Type 0 where
  inactive element_inactive block_inactive left_over rest : Law

abbrev pub Premise : Law → Lent → Insn → ℕ → Type 0
Premise inactive l i k = (o : Offset) × (i.shape ≡ Contiguous o) × (LaneActive l i k → ⊥)
Premise element_inactive l i k = (imm6 : ℕ) × (i.shape ≡ ByElement imm6) × (LaneActive l i k → ⊥)
Premise block_inactive l i k = (wide : Bool) × (o : Offset) × (i.shape ≡ Block wide o) × (LaneActive l i (k % K wide i) → ⊥)
Premise left_over l i k = (wide : Bool) × (o : Offset) × (i.shape ≡ Block wide o) × (copies l wide ≤ k / K wide i)
Premise rest l i k = (q : Bool) × (back : Option ℕ) × (i.shape ≡ Replicate q back) × (8 * 2 ^ Q q ≤ k * lane_bytes i)

pub record Witness : Type 0 where
  pub law : Law
  pub word : ℕ
  pub load : Insn
  pub set_up : SetUp
  pub destination : ℕ
  pub lane : ℕ

-- all premises hold together
pub record Met (t : Witness) : Type 0 where
  pub ready : Ready (lent_by t.set_up) t.word (bench_by t.set_up) t.load
  pub readable : AllReadable (lent_by t.set_up) (bench_by t.set_up) t.load
  pub came : InTypes (lent_by t.set_up) t.word (bench_by t.set_up)
  pub there : t.destination < t.load.registers
  pub inside : t.lane < N (lent_by t.set_up) t.load
  pub premise : Premise t.law (lent_by t.set_up) t.load t.lane

-- what is computed of a row: it can come in, its step runs, and destination and lane are among its own
abbrev tests : Witness → List Bool
tests t =
    all_of (type_tests (lent_by t.set_up) t.word (bench_by t.set_up))
    ∷ eqb (step_of (lent_by t.set_up) t.word (bench_by t.set_up)).report.number 0
    ∷ ltb t.destination t.load.registers
    ∷ ltb t.lane (N (lent_by t.set_up) t.load)
    ∷ []

met : (t : Witness) → read_of t.word ≡ Ok t.load → all_of (tests t) ≡ true → Premise t.law (lent_by t.set_up) t.load t.lane → Met t
met t reads h premise =
    let c = all_of_lem (tests t) h in
    let came = in_types (lent_by t.set_up) t.word (bench_by t.set_up) (c 0) in
    let r = ran_as (lent_by t.set_up) t.word (bench_by t.set_up) came.word t.load reads (eqb-true _ _ (c 1)) in
    record { ready = r.0; readable = r.1; came = came; there = ltb-true _ _ (c 2); inside = ltb-true _ _ (c 3); premise = premise }

-- a load of doublewords into lanes of 64 bits by X0 to Z0, governed by P0; and LD1R to LD4R of bytes, by the number of registers
abbrev doubles : Shape → Insn
doubles s = record { element = record { memory = B64; lane = B64; signed = false }; base = 0; target = 0; registers = 1; governing = Some 0; shape = s }

abbrev bytes : ℕ → Shape → Insn
bytes n s = record { element = record { memory = B8; lane = B8; signed = false }; base = 0; target = 0; registers = n; governing = None; shape = s }

-- X0 at 4,096, X1 zero, 32 readable bytes, and lane 0 alone active in P0
abbrev lane0 : ℕ → SetUp
lane0 vl = set_up_with (all_on vl) (only vl 0 (1 ∷ replicate (vl / 64 - 1) 0)) (page (rising 1 32)) empty (0 ≔ 4096 ∷ 1 ≔ 0 ∷ [])

abbrev row_of : ℕ → Law → ℕ → Insn → ℕ → ℕ → Witness
row_of j law w i vl k = record { law = law; word = w; load = i; set_up = lane0 vl; destination = j; lane = k }

-- .. of the first destination
abbrev row : Law → ℕ → Insn → ℕ → ℕ → Witness
row = row_of 0

abbrev pub table : List Witness
table =
    -- LD1R {V0.16B}, [X0] and LD1R {V0.8B}, [X0], #1
    row rest 0x4D40C000 (bytes 1 (Replicate true None)) 256 16
    ∷ row rest 0x0DDFC000 (bytes 1 (Replicate false (Some 31))) 128 8
    -- LD2R {V0.16B, V1.16B}, [X0], its second register, and LD4R {V0.8B-V3.8B}, [X0], #4, its last
    ∷ row_of 1 rest 0x4D60C000 (bytes 2 (Replicate true None)) 256 16
    ∷ row_of 3 rest 0x0DFFE000 (bytes 4 (Replicate false (Some 31))) 128 8
    -- LD1RD {Z0.D}, P0/Z, [X0]
    ∷ row element_inactive 0x85C0E000 (doubles (ByElement 0)) 128 1
    -- LD1D {Z0.D}, P0/Z, [X0] and [X0, X1, LSL #3]
    ∷ row inactive 0xA5E0A000 (doubles (Contiguous (Imm 0))) 128 1
    ∷ row inactive 0xA5E14000 (doubles (Contiguous (Reg 1))) 128 1
    -- LD1RQD {Z0.D}, P0/Z, [X0], a lane of the copy, and [X0, X1, LSL #3]
    ∷ row block_inactive 0xA5802000 (doubles (Block false (Imm 0))) 256 3
    ∷ row block_inactive 0xA5810000 (doubles (Block false (Reg 1))) 128 1
    -- LD1ROD {Z0.D}, P0/Z, [X0], [X0, X1, LSL #3], and at VL 384, where one block leaves 16 bytes over
    ∷ row block_inactive 0xA5A02000 (doubles (Block true (Imm 0))) 256 1
    ∷ row block_inactive 0xA5A10000 (doubles (Block true (Reg 1))) 256 1
    ∷ row left_over 0xA5A02000 (doubles (Block true (Imm 0))) 384 4
    ∷ []

-- a bit that computes to 0 is not 1
clear : ◌≡◌ {A = ℕ} 0 1 → ⊥
clear h = omega arith

pub witnesses : EachOf Met table
unfolding size_of dtypes dtype_of scalar_of families read_of moved_of is_area_accepted share_none are_areas_accepted covers place_of judged look_of reading_of
    is_accepted signed4 spread_of governing_bytes bit_of is_active wanted asked lane_takes element_at answers_in survey_of outcome_of checks_stack stack_fails
    refusals planned_load planned_of prepared_of step_of
witnesses =
    met _ refl refl (true, None, refl, omega arith)
    & met _ refl refl (false, Some 31, refl, omega arith)
    & met _ refl refl (true, None, refl, omega arith)
    & met _ refl refl (false, Some 31, refl, omega arith)
    & met _ refl refl (0, refl, clear)
    & met _ refl refl (Imm 0, refl, clear)
    & met _ refl refl (Reg 1, refl, clear)
    & met _ refl refl (false, Imm 0, refl, clear)
    & met _ refl refl (false, Reg 1, refl, clear)
    & met _ refl refl (true, Imm 0, refl, clear)
    & met _ refl refl (true, Reg 1, refl, clear)
    & met _ refl refl (true, Imm 0, refl, omega arith)
    & tt

-- What the theorems say of a witness. Each is used with the premises above and no other, so that a theorem with one more would not pass here.
module _ (t : Witness) (h : Met t) where
  abbrev l : Lent
  l = lent_by t.set_up

  abbrev b : Bench
  b = bench_by t.set_up

  abbrev after : Outcome
  after = step_of l t.word b

  -- the result that meets the promise
  abbrev result : StepResult
  result = (promise_met l t.word b h.came).0

  abbrev promise : StepPromise l t.word b result after.lent after.bench
  promise = (promise_met l t.word b h.came).1

  abbrev i : Insn
  i = t.load

  -- the lane is zero
  abbrev Zero : Type 0
  Zero = lane_in l after.bench.vectors (destination i t.destination) (lane_bytes i) t.lane ≡ 0

  zeroed : (law : Law) → Premise law l i t.lane → Zero
  zeroed inactive p = inactive_zero l _ b _ _ _ promise i h.ready h.readable t.destination h.there t.lane h.inside p.0 p.1 p.2
  zeroed element_inactive p = element_inactive_zero l _ b _ _ _ promise i h.ready h.readable t.destination h.there t.lane h.inside p.0 p.1 p.2
  zeroed block_inactive p = block_inactive_zero l _ b _ _ _ promise i h.ready h.readable t.destination h.there t.lane h.inside p.0 p.1 p.2 p.3
  zeroed left_over p = left_over_zero l _ b _ _ _ promise i h.ready h.readable t.destination h.there t.lane h.inside p.0 p.1 p.2 p.3
  zeroed rest p = rest_zero l _ b _ _ _ promise i h.ready h.readable t.destination h.there t.lane h.inside p.0 p.1 p.2 p.3

  -- what document 01 says it leaves is what the step leaves, and nothing else
  abbrev Left : Type 0
  Left = Leaves l b i after.lent after.bench
      × ((l₁ : Lent) (b₁ : Bench) → Leaves l b i l₁ b₁ → (l₁ ≡ after.lent) × (b₁ ≡ after.bench))

  left : Left
  left = (
    demand_2 l _ b _ _ _ promise i h.ready h.readable,
    λ l₁ b₁ q. demand_2_determined l _ b _ _ _ promise l₁ b₁ (i, h.ready, h.readable, q),
  )

  -- its count is that of the active elements, and the number of reads
  abbrev Counts : Type 0
  Counts =
      let p = plan_of l.settings.vl b.scalars i in
      Counted (Active l i) element_limit result.count × (result.count ≡ length (asked p (governing_bytes l p)))

  counts : Counts
  counts =
      let c = demand_1_counted l t.word b i h.ready element_limit in
      let row = ((demand_1_promise l _ b _ _ _ promise).0 _).0 (G.ran i h.ready h.readable c.1) in (
        subst (Counted (Active l i) element_limit) (sym (ap (λ (q : Report). q.count) row)) c.1,
        demand_2_count l _ b _ _ _ promise i h.ready h.readable,
      )

  -- .. and it ran, so that it is done
  done : Done l t.word b after.lent after.bench
  done = demand_2_promise l _ b _ _ _ promise ((demand_2_runs l _ b _ _ _ promise).1 (i, h.ready, h.readable))

  abbrev Said : Type 0
  Said = Zero × Left × Counts × Done l t.word b after.lent after.bench

pub theorems_used : (t : Witness) (h : Met t) → Said t h
theorems_used t h = (zeroed t h t.law h.premise, left t h, counts t h, done t h)

-- The address formulas, each at the loads of the table that have its shape: the plan has element e where document 01 says, whatever the bench.
abbrev Lies : Lent → List ℕ → Insn → ℕ → Type 0
Lies l x i n = element_at (plan_of l.settings.vl x i) n ≡ wrapℤ (lies l x i n)

pub formulas_used : (l : Lent) (x : List ℕ) (e : ℕ)
    → Lies l x (bytes 1 (Replicate true None)) 0 × Lies l x (bytes 4 (Replicate false (Some 31))) e × Lies l x (doubles (ByElement 0)) 0
    × Lies l x (doubles (Contiguous (Imm 0))) e × Lies l x (doubles (Contiguous (Reg 1))) e
    × Lies l x (doubles (Block false (Imm 0))) e × Lies l x (doubles (Block true (Imm 0))) e
    × Lies l x (doubles (Block false (Reg 1))) e × Lies l x (doubles (Block true (Reg 1))) e
formulas_used l x e = (
  replicated l x (bytes 1 (Replicate true None)) true None refl 0,
  replicated l x (bytes 4 (Replicate false (Some 31))) false (Some 31) refl e ∙ ap (plus_of (scalar x 0)) (offs_sum (bytes 4 (Replicate false (Some 31))) e),
  ld1r_by_element l x (doubles (ByElement 0)) 0 refl,
  ld1_immediate l x (doubles (Contiguous (Imm 0))) 0 refl e,
  ld1_scalar l x (doubles (Contiguous (Reg 1))) 1 refl e,
  ld1rq_immediate l x (doubles (Block false (Imm 0))) 0 refl e,
  ld1ro_immediate l x (doubles (Block true (Imm 0))) 0 refl e,
  block_scalar l x (doubles (Block false (Reg 1))) false 1 refl e,
  block_scalar l x (doubles (Block true (Reg 1))) true 1 refl e,
)

-- Over any answers of memory: LD1D with lane 0 alone active asks for element 0. So it tells the same of answers that hold other values, and leaves the same
-- of answers that differ at element 1.
abbrev lane_plan : Plan
lane_plan = plan_of 128 (bench_by (lane0 128)).scalars (doubles (Contiguous (Imm 0)))

abbrev zeros : ℕ → Reading
zeros e = Ok 0

abbrev ones : ℕ → Reading
ones e = Ok 1

abbrev mixed : ℕ → Reading
mixed zero = Ok 0
mixed (suc e) = Ok 1

pub faults_met : let pred = governing_bytes (lent_by (lane0 128)) lane_plan in survey_of zeros lane_plan pred ≡ survey_of ones lane_plan pred
faults_met = demand_3_faults zeros ones lane_plan (governing_bytes (lent_by (lane0 128)) lane_plan) (λ e h t. refl)

mixed_asked : (e : ℕ) → e < lane_plan.elements → wanted lane_plan (governing_bytes (lent_by (lane0 128)) lane_plan) e ≡ true → zeros e ≡ mixed e
unfolding spread_of governing_bytes bit_of is_active wanted
mixed_asked zero h t = refl
mixed_asked (suc zero) h t = never t refl
mixed_asked (suc (suc e)) h t = absurd (omega arith)

pub apart_met : let l = lent_by (lane0 128) in let b = bench_by (lane0 128) in outcome_of zeros l b lane_plan ≡ outcome_of mixed l b lane_plan
unfolding spread_of
apart_met = demand_3_apart zeros mixed (lent_by (lane0 128)) (bench_by (lane0 128)) lane_plan (omega arith) mixed_asked
