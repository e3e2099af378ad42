-- A load that is ready, and whose active elements can all be read, leaves what the scope of work says.
use Rattle.std.specs.Prelude.{if◌then◌else◌, Ok, Err}
use mathlib.Core.Path.{◌≡◌, refl, sym, ap, ◌∙◌}
use mathlib.Core.Bool.{Bool, true, false}
use Prim.Native.Nat.{ℕ, ◌-◌, ◌%◌, ◌^◌, ◌≤◌, ◌<◌}
use native.Mathlib.Nat.{zero-add, zero-mod}
use native.Mathlib.Omega.{arith}
use lib.ListN.{length, get_or}
use Rattle.ground.proofs.Laws.{off, little_cong, little_below}
use Rattle.steps.specs.Insns.{Insn}
use Rattle.words.specs.Ranges.{InsnInRange}
use Rattle.words.proofs.Ranges.{means_in_range}
use Rattle.memory.specs.Addresses.{plus_of}
use Rattle.memory.specs.Areas.{Areas}
use Rattle.memory.specs.Bytes.{read_right, judged, look_of}
use Rattle.memory.specs.Said.{AreasAccepted}
use Rattle.memory.specs.Troubles.{FindsByte, byte_found}
use Rattle.memory.specs.declared.Fault.TheVariants.{Denied}
use Rattle.memory.specs.Elements.{Reading}
use Rattle.memory.proofs.Looks.{looked}
use Rattle.memory.proofs.Elements.{value_exactly}
use Rattle.steps.specs.Benches.{Lent, Bench, areas_in}
use Rattle.steps.specs.Answers.{Report}
use Rattle.steps.specs.Plans.{plan_of}
use Rattle.steps.specs.Lanes.{governing_bytes, asked, lane_takes, destinations_in, destination_of, element_at}
use Rattle.steps.specs.Outcomes.{Outcome, answers_of, extended, lane_value, bench_after, outcome_of}
use Rattle.steps.specs.Step.{step_of}
use Rattle.steps.specs.Said.{m, lane_bytes, N, Active, byte_at, CanRead}
use Rattle.steps.specs.Demand2.{Contains, ElementValue, destination, Takes, lane_in, Leaves}
use Rattle.steps.specs.Demand1.{Ready, AllReadable}
use Rattle.steps.specs.declared.Plan.{Plan}
use Rattle.steps.proofs.Fields.{destinations_all, adds_back, back_adds}
use Rattle.steps.proofs.Places.{byte_lies, destination_is}
use Rattle.steps.proofs.Actives.{takes_there, there_takes, takes_active}
use Rattle.steps.proofs.Faults.{below_all, can_read, answer_is}
use Rattle.steps.proofs.Surveys.{survey_clear}
use Rattle.steps.proofs.Gives.{ready_goes}
use Rattle.steps.proofs.Results.{extends_lane, small, kept_length, kept_others, lane_is, scalars_length, counter, written_back, kept_scalar}

-- the byte that a load finds is the one that the area contains
found : (s : Areas) (accepted : AreasAccepted s) (a v : ℕ) → CanRead s a → Contains s a v → byte_found (look_of s a) ≡ v
unfolding judged
found s accepted a v c (r, o, h, e, k) = go (read_right r.rights (a - r.start)) (looked s accepted a o h) ((can_read s accepted a).1 c)
  where
    go : (t : Bool) → look_of s a ≡ (if t then Ok (get_or r.bytes (a - r.start) 0) else Err Denied) → FindsByte (look_of s) a → byte_found (look_of s a) ≡ v
    go true p q = ap byte_found p ∙ sym e
    go false p q = let d = q.1 in let z : ◌≡◌ {A = ℕ} 0 1 = cc in absurd (omega arith)

module _ (l : Lent) (w : ℕ) (b : Bench) (i : Insn) (ready : Ready l w b i) (all : AllReadable l b i) where
  abbrev plan : Plan
  plan = plan_of l.settings.vl b.scalars i

  abbrev answer : ℕ → Reading
  answer = answers_of l b plan

  -- an active element is read as its value
  read_as : (e v : ℕ) → Active l i e → ElementValue l b i e v → answer e ≡ Ok v
  read_as e v q h =
      let accepted = ready.defined.accepted.areas in
      let look = look_of (areas_in l b) in
      let lies : (j : ℕ) → plus_of (element_at plan e) j ≡ byte_at l b.scalars i e j = λ j. byte_lies l b.scalars i e j q in
      answer_is l b accepted i e q
      ∙ (value_exactly look (element_at plan e) (m i) (below_all plan e) v).1 (
        λ j k. rw (lies j) ((can_read (areas_in l b) accepted _).1 (all e q j k)),
        h.value ∙ little_cong h.byte (λ j. byte_found (look (plus_of (element_at plan e) j))) 0 0 (m i)
            (λ j k. rw (zero-add j, lies j) (sym (found (areas_in l b) accepted _ (h.byte j) (all e q j k) (h.contained j k)))),
      )

  -- .. which fits its size in memory
  value_below : (e v : ℕ) → ElementValue l b i e v → v < 256 ^ m i
  value_below e v h = rw h.value (little_below h.byte 0 (m i) (λ j g. rw zero-add (h.contained j g).4))

  fine : InsnInRange i
  fine = means_in_range w i ready.defined.reads

  abbrev after : Bench
  after = bench_after answer l b plan

  as_many : destinations_in plan ≡ i.registers
  as_many = destinations_all l.settings.vl b.scalars i i.shape fine.shape

  among : (j : ℕ) → j < i.registers → j < destinations_in plan
  among j h = rw as_many h

  few : destinations_in plan ≤ 32
  few = rw as_many (omega (arith, fine.few))

  -- a destination of the scope's is the plan's
  destined : (j : ℕ) → destination i j ≡ destination_of plan j
  unfolding destination_of
  destined j = destination_is i fine.target j

  -- the number in lane k of destination j, in the scope's words
  lane_said : (j k : ℕ) → j < i.registers → k < N l i
      → lane_in l after.vectors (destination i j) (lane_bytes i) k ≡ lane_value answer plan (governing_bytes l plan) j k % 256 ^ lane_bytes i
  unfolding bench_after
  lane_said j k d h = rw (destined j) (lane_is answer l b.vectors plan ready.defined.accepted.vectors (destinations_in plan) j (among j d) few k h)

  value_said : (j k e v : ℕ) → k < N l i → Takes l i j k e → answer e ≡ Ok v
      → lane_value answer plan (governing_bytes l plan) j k ≡ extended i.element.signed (m i) (lane_bytes i) v
  unfolding lane_value
  value_said j k e v h t r =
      let a = ready.defined.accepted in
      let q = takes_there l b.scalars a.allowed i i.shape fine.shape ready.defined.long j k e h t in
      rw (q.0, q.1, r)

  nothing_said : (j k : ℕ) → k < N l i → ((e : ℕ) → Takes l i j k e → ⊥) → lane_value answer plan (governing_bytes l plan) j k ≡ 0
  unfolding lane_value
  nothing_said j k h none =
      let a = ready.defined.accepted in
      rw (off (lane_takes plan (governing_bytes l plan) k)
      (λ t. none _ (there_takes l b.scalars a.allowed i i.shape fine.shape ready.defined.long j k h t)))

  pub ran_leaves : Leaves l b i l after
  unfolding bench_after
  ran_leaves =
      let a = ready.defined.accepted in
      let base = fine.base in
      record {
        lane = λ j k e v d h t c.
            let q = takes_active l b.scalars a.allowed i i.shape j k e d h t in
            rw (lane_said j k d h, value_said j k e v h t (read_as e v q c))
            (extends_lane (m i) (lane_bytes i) v fine.narrower (value_below e v c) i.element.signed);
        zero = λ j k d h none. rw (lane_said j k d h, nothing_said j k h none) (zero-mod _);
        bytes = λ r d k h. rw (d.2, destined d.0) (small answer l b.vectors plan a.vectors (destinations_in plan) d.0 (among d.0 d.1) few k h);
        registers = λ r none. kept_others answer l b.vectors plan a.vectors (destinations_in plan) r (λ j h e. none (j, rw (← as_many) h, e ∙ sym (destined j)));
        vectors = kept_length answer l b.vectors plan a.vectors (destinations_in plan);
        base = λ v d. written_back plan b.scalars a.scalars base d.added (adds_back l.settings.vl b.scalars i i.shape d.added d.adds) ∙ sym d.sum;
        pc = counter plan b.scalars a.scalars base;
        others = λ n pc h. kept_scalar plan b.scalars a.scalars base n pc
            (λ y t e. h _ (record { added = y; adds = back_adds l.settings.vl b.scalars i i.shape y t; sum = refl }) e);
        scalars = scalars_length plan b.scalars a.scalars base;
        ram = refl;
        lent = refl;
      }

  -- and it runs: its bench afterwards is that one
  pub ran_bench : (step_of l w b).bench ≡ after
  unfolding outcome_of
  ran_bench =
      let d = ready.defined in
      let clear = ap (λ (r : Report). r.number) (survey_clear l b i d.accepted d.long all) in
      ap (λ (o : Outcome). o.bench) (ready_goes l w b i ready) ∙ rw clear

  -- the count is the number of the definition's reads
  pub ran_count : (step_of l w b).report.count ≡ length (asked plan (governing_bytes l plan))
  unfolding outcome_of asked
  ran_count =
      let d = ready.defined in
      ap (λ (o : Outcome). o.report.count) (ready_goes l w b i ready) ∙ ap (λ (r : Report). r.count) (survey_clear l b i d.accepted d.long all)
