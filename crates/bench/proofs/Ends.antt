-- How an accepted set-up ends, from what the functions of the step found: at the stack rule, at a bad byte, or with the load done.
use Rattle.std.proofs.Common.{if◌then◌else◌, ◌≡◌, ℕ, ◌*◌, ◌/◌, ◌≤◌, Bool, true, false, ◌&&◌, eqb, List, Option, None, Some, Ok, Err, length, sym, refl, ap, ◌∙◌, arith, length-drop, length-take, eq-eqb, ne_eqb}
use Rattle.ground.proofs.Laws.{never}
use Rattle.memory.specs.Areas.{Areas, are_areas_accepted}
use Rattle.steps.proofs.Numbers.{fault_number_lem}
use Rattle.steps.specs.Benches.{Lent, Bench, InTypes, areas_in, are_files_accepted, is_accepted}
use Rattle.steps.specs.Answers.{number_of, report_of}
use Rattle.steps.specs.Lanes.{predicate_of, governing_bytes}
use Rattle.steps.specs.Outcomes.{answers_in, answers_of, scalars_after, bench_after, outcome_of}
use Rattle.steps.specs.Step.{Planned, stack_fails, planned_of, prepared_of, step_of, StepPromise}
use Rattle.words.specs.Ranges.{Governed}
use Rattle.steps.specs.Inside.{GovernedIn}
use Rattle.steps.specs.declared.Rule.{Rule}
use Rattle.steps.specs.declared.Rule.TheVariants.{Always, LaneBit, ElementBit}
use Rattle.steps.specs.declared.Answer.{Answer}
use Rattle.steps.specs.declared.Answer.TheVariants.{Ran, SetUp, Outside, Undefined, SwitchedOff, Stack, Faulted}
use Rattle.steps.specs.declared.Plan.{Plan}
use Rattle.steps.specs.declared.StepResult.{StepResult}
use Rattle.steps.proofs.Accepts.{length_exactly, accepted_exactly}
use Rattle.steps.specs.Said.{Accepted}
use Rattle.plans.specs.Prepares.{planned_for}
use Rattle.plans.proofs.Prepares.{allowed_planned}
use Rattle.bench.specs.Lends.{bench_of}
use Rattle.bench.specs.Inside.{stacked, EndsAs}
use Rattle.bench.specs.Inside.Quick.{is_always}
use Rattle.bench.specs.Inside.Roads.{Targeted}
use Rattle.bench.proofs.Small.{slot}

-- where the rule asks bits, a predicate decides over a register of n bytes
module _ (n k : ℕ) (file : List ℕ) (whole : length file ≡ 16 * k) (few : n ≤ 8 * k) where
  governs : (g : Option ℕ) → Governed g → n ≤ 8 * length (predicate_of k file g)
  governs None h = absurd h
  governs (Some g) h = simp (length-take, length-drop) (omega (arith, slot g 8 k h))

  pub decided : (r : Rule) (g : Option ℕ) → GovernedIn r g → is_always r ≡ false → n ≤ 8 * length (predicate_of k file g)
  decided Always g h a = never refl a
  decided LaneBit g h a = governs g h
  decided ElementBit g h a = governs g h

-- every answer but `Ran` has a number other than 0
not_ran : (a : Answer) → (a ≡ Ran → ⊥) → number_of a ≡ 0 → ⊥
not_ran Ran h e = h refl
not_ran SetUp h e = absurd (omega arith)
not_ran Outside h e = absurd (omega arith)
not_ran Undefined h e = absurd (omega arith)
not_ran SwitchedOff h e = absurd (omega arith)
not_ran Stack h e = absurd (omega arith)
not_ran (Faulted f a k) h e = absurd (omega (arith, fault_number_lem f))

-- a plan, from what its load left
module _ (l : Lent) (b : Bench) (p : Plan) (pred : List ℕ) (e : pred ≡ governing_bytes l p) where
  pub at_stack_lem : stack_fails b.scalars p pred ≡ true → EndsAs (stacked p) l b (record { count = 0; answer = Stack }) b
  unfolding EndsAs stacked
  at_stack_lem h = rw (rw e at h) refl

  module _ (h : stack_fails b.scalars p pred ≡ false) (r : StepResult) (z : List ℕ)
      (t : Targeted (answers_of l b p) p pred (l.settings.vl / 8) b.vectors r z) where
    pub faulted : (number_of r.answer ≡ 0 → ⊥) → EndsAs (stacked p) l b r (bench_of z b.scalars b.ram)
    unfolding EndsAs stacked outcome_of
    faulted ne =
        let kept : z ≡ b.vectors = rw (ne_eqb _ 0 ne) at t.vectors in
        rw (kept, rw e at h) (rw (← (rw e at t.report), ne_eqb _ 0 ne))

    pub ran : number_of r.answer ≡ 0 → (x : List ℕ) → x ≡ scalars_after p b.scalars → EndsAs (stacked p) l b r (bench_of z x b.ram)
    unfolding EndsAs stacked outcome_of bench_after
    ran q x written =
        let filled = rw (eq-eqb _ 0 q) at t.vectors in
        rw (rw e at h) (rw (← (rw e at t.report), eq-eqb _ 0 q, filled, written, e))

  -- .. in areas that were made of what is lent, and of an answer that is matched and not numbered
  module _ (h : stack_fails b.scalars p pred ≡ false) (m : Areas) (lent : m ≡ areas_in l b) (r : StepResult) (z : List ℕ)
      (t : Targeted (answers_in m p) p pred (l.settings.vl / 8) b.vectors r z) where
    in_lent : Targeted (answers_of l b p) p pred (l.settings.vl / 8) b.vectors r z
    in_lent = rw lent at t

    pub faulted_in : (r.answer ≡ Ran → ⊥) → EndsAs (stacked p) l b r (bench_of z b.scalars b.ram)
    faulted_in ne = faulted h r z in_lent (not_ran r.answer ne)

    pub ran_in : r.answer ≡ Ran → (x : List ℕ) → x ≡ scalars_after p b.scalars → EndsAs (stacked p) l b r (bench_of z x b.ram)
    ran_in q = ran h r z in_lent (rw q refl)

either : (t : Bool) (b : Bench) → b ≡ (if t then b else b)
either true b = refl
either false b = refl

-- a set-up, by the tests of its files and of its areas
module _ (l : Lent) (b : Bench) (files : Bool) (e : files ≡ are_files_accepted l.settings.vl (length b.vectors) (length l.predicates) (length b.scalars)) where
  pub not_files : files ≡ false → is_accepted l b ≡ false
  unfolding is_accepted
  not_files h = rw (sym e ∙ h)

  module _ (m : Areas) (lent : m ≡ areas_in l b) (areas : Bool) (q : areas ≡ are_areas_accepted m) where
    both : is_accepted l b ≡ (files && areas)
    unfolding is_accepted
    both = rw (e, q, lent)

    pub not_areas : files ≡ true → areas ≡ false → is_accepted l b ≡ false
    not_areas h k = both ∙ rw (h, k)

    pub accepts : files ≡ true → areas ≡ true → Accepted l b
    accepts h k = (accepted_exactly l b).0 (both ∙ rw (h, k))

-- a word: the answer that stops it, or its plan
module _ (l : Lent) (b : Bench) (w : ℕ) where
  abbrev Word : StepResult → Bench → Type 0
  Word r after = EndsAs (λ l b. prepared_of l b.scalars w) l b r after

  -- an accepted length is allowed
  pub prepares : Accepted l b → (q : Planned) → q ≡ planned_for l.settings b.scalars w → planned_of l.settings b.scalars w ≡ q
  prepares h q e = sym (e ∙ allowed_planned l.settings b.scalars w ((length_exactly _).1 h.allowed))

  pub stops : (a : Answer) → planned_of l.settings b.scalars w ≡ Err a → Word (record { count = 0; answer = a }) b
  unfolding EndsAs prepared_of
  stops a h =
      rw h (ap (λ (after : Bench). record { report = report_of (record { count = 0; answer = a }); lent = l; bench = after })
      (either (eqb (number_of a) 0) b))

  pub goes : (p : Plan) → planned_of l.settings b.scalars w ≡ Ok p → (r : StepResult) (after : Bench) → EndsAs (stacked p) l b r after → Word r after
  unfolding EndsAs stacked prepared_of
  goes p h r after e = rw h e

  -- a step: "1", or the word
  pub steps : InTypes l w b → Accepted l b → (r : StepResult) (after : Bench) → Word r after → StepPromise l w b r l after
  unfolding EndsAs step_of
  steps t h r after e = record { came = t; ends = rw ((accepted_exactly l b).1 h) e }

  pub set_up : InTypes l w b → is_accepted l b ≡ false → StepPromise l w b (record { count = 0; answer = SetUp }) l b
  unfolding step_of
  set_up t h = record { came = t; ends = rw h refl }
