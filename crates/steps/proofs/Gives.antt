-- Each answer is given exactly when the scope of work says: from the definition's tests and its walk to the table's rows, and back.
use Rattle.std.specs.Prelude.{if◌then◌else◌}
use mathlib.Core.Path.{◌≡◌, refl, sym, ap, subst, ◌∙◌}
use mathlib.Core.Bool.{Bool, true, false, not, ◌&&◌}
use mathlib.Core.Logic.{◌↔◌, ◌⊎◌, inl, inr, ⊎_elim}
use Prim.Native.Nat.{ℕ, ◌+◌, ◌-◌, ◌%◌, ◌^◌, ◌≤◌, ◌<◌}
use native.Mathlib.Nat.{zero-add, sub-zero}
use native.Mathlib.Omega.{arith}
use lib.Dec.{ltb, eqb}
use borrow.Author.Tests.{eqb-true, eqb-false, ltb-true, ltb-false, lt-ltb, not-true, not-false}
use Rattle.ground.proofs.Laws.{true_or_false, never, off, and_other, and_left, and_right, if_cases}
use Rattle.words.specs.Families.{read_of}
use Rattle.words.proofs.Decodes.{means_read, outside_exactly, undefined_means, insn_means}
use Rattle.words.specs.Layouts.{Means}
use Rattle.words.proofs.Ranges.{means_in_range}
use Rattle.steps.specs.Insns.{Insn, Decoded, Outside, Undefined, Ok, Err}
use Rattle.memory.specs.declared.Fault.{Fault}
use Rattle.memory.specs.declared.Fault.TheVariants.{Nowhere, Denied}
use Rattle.steps.specs.Benches.{Lent, Bench, is_accepted}
use Rattle.steps.specs.Answers.{fault_number, Report, report_with, refusal_report, report_of}
use Rattle.steps.specs.Terms.{scalar}
use Rattle.steps.specs.Plans.{plan_of}
use Rattle.steps.specs.Lanes.{governing_bytes}
use Rattle.steps.specs.Outcomes.{Outcome, answers_of, survey_of, outcome_of}
use Rattle.steps.specs.Step.{is_wide, switched_on, stack_fails, Planned, Prepared, Stop, Go, refusals}
use Rattle.steps.specs.Step.{planned_load, planned_by, planned_of, at_stack, prepared_of, carried_out, step_of}
use Rattle.steps.specs.Demand1 as S
use Rattle.steps.specs.Said.{Accepted, Active, Checks, byte_at}
use Rattle.steps.specs.Demand1.{FirstBad, Counted, Wide, On, Defined, Ready, AllReadable, element_limit, Given}
use Rattle.steps.specs.declared.Plan.{Plan}
use Rattle.steps.proofs.Fields.{elements_few}
use Rattle.steps.proofs.Accepts.{accepted_exactly}
use Rattle.steps.proofs.Walks.{many, walk_clear, walk_stopped, clear_or_stopped}
use Rattle.steps.proofs.Counts.{counted_most, counted_once}
use Rattle.steps.proofs.Faults.{IsBad}
use Rattle.steps.proofs.Unique.{answer_of, result_of}
use Rattle.steps.proofs.Tests.{wide_exactly, on_exactly, stack_exactly}
use Rattle.steps.proofs.Surveys.{want, answer, elements, asks, counts, counts_all, survey_is, all_readable, survey_clear, first_stops, stops_first}

module _ (l : Lent) (w : ℕ) (b : Bench) where
  abbrev plan : Insn → Plan
  plan i = plan_of l.settings.vl b.scalars i

  -- the row of the table that the definition's report is
  abbrev Says : Prepared → Type 0
  Says p = Given l w b (carried_out l b p).report

  faulted : (i : Insn) → Ready l w b i → (t : Fault) (e k n : ℕ) → FirstBad (IsBad t) l b i e k → Counted (Active l i) e n
      → Given l w b (report_with (fault_number t) n e (byte_at l b.scalars i e k))
  faulted i ready Nowhere e k n f c = S.no_memory i e k ready f c
  faulted i ready Denied e k n f c = S.denied i e k ready f c

  -- it loads few registers
  few_registers : (i : Insn) → Ready l w b i → i.registers ≤ 4
  few_registers i ready = (means_in_range w i ready.defined.reads).few

  carried : (i : Insn) → Ready l w b i → Says (Go (plan i))
  unfolding outcome_of
  carried i ready =
      ⊎_elim
      (λ c. subst (Given l w b)
      (sym (survey_is l b i a long ∙ walk_clear (want l b i a long) (answer l b i a long) 0 0 _ c ∙ ap (λ (n : ℕ). report_with 0 n 0 0) (zero-add _)))
      (S.ran i ready (all_readable l b i a long c) (counts_all l b i a long (few_registers i ready))))
      (λ s.
      let f = stops_first l b i a long s in
      let t = s.to in
      let n : 0 + many (want l b i a long) 0 (s.element - 0) ≡ many (want l b i a long) 0 s.element = rw (zero-add, sub-zero) in
      let step_given : survey_of (answer l b i a long) (plan i) (governing_bytes l (plan i)) ≡ report_with (fault_number s.kind)
      (many (want l b i a long) 0 s.element)
      s.element (byte_at l b.scalars i s.element f.0) =
      survey_is l b i a long ∙ walk_stopped (want l b i a long) (answer l b i a long) 0 0 (elements l b i a long) s
      ∙ (λ j. report_with (fault_number s.kind) (n j) s.element (f.2 j)) in
      subst (Given l w b) (sym step_given) (faulted i ready s.kind s.element f.0 _ f.1 (counts l b i a long s.element (omega arith))))
      (clear_or_stopped (want l b i a long) (answer l b i a long) 0 (elements l b i a long))
    where
      a : Accepted l b
      a = ready.defined.accepted

      long : Wide i → 256 ≤ l.settings.vl
      long = ready.defined.long

  -- a load is refused by a row of the table, or is ready and goes on
  abbrev Way : Insn → Prepared → Type 0
  Way i p = (Ready l w b i × (p ≡ Go (plan i))) ⊎ ((r : Report) × Given l w b r × (p ≡ Stop r))

  -- what is planned, at the stack rule
  abbrev stacked : Planned → Prepared
  stacked q = at_stack l b.scalars q

  abbrev of_load : Insn → Prepared
  of_load i = stacked (planned_load l.settings b.scalars i)

  pub ways : Accepted l b → (i : Insn) → Means w (Ok i) → Way i (of_load i)
  unfolding planned_load refusals
  ways a i reads =
      if_cases (λ q. Way i (stacked q)) (is_wide i.shape && not l.settings.f64mm) _ _
      (λ t. inr (
        _,
        S.no_f64mm i a reads ((wide_exactly i.shape).0 (and_left (is_wide i.shape) _ t))
            (not-true _ (and_right (is_wide i.shape) _ t)),
        refl,
      ))
      (λ t.
      let has : Wide i → l.settings.f64mm ≡ true = λ v. not-false _ (and_other (is_wide i.shape) _ t ((wide_exactly i.shape).1 v)) in
      if_cases (λ q. Way i (stacked q)) (not (switched_on l.settings i.shape)) _ _
      (λ u. inr (_, S.switched_off i a reads has (λ o. never ((on_exactly l i.shape).1 o) (not-true _ u)), refl))
      (λ u.
      let on : On l i = (on_exactly l i.shape).0 (not-false _ u) in
      if_cases (λ q. Way i (stacked q)) (is_wide i.shape && ltb l.settings.vl 256) _ _
      (λ v. let q = (wide_exactly i.shape).0 (and_left (is_wide i.shape) _ v) in inr
      (_, S.short i a reads q (has q) on (ltb-true _ _ (and_right (is_wide i.shape) _ v)), refl))
      (λ v.
      let long : Wide i → 256 ≤ l.settings.vl = λ q. ltb-false _ _ (and_other (is_wide i.shape) _ v ((wide_exactly i.shape).1 q)) in
      let d : Defined l w b i = record { accepted = a; reads = reads; f64mm = has; on = on; long = long } in
      if_cases (Way i) (stack_fails b.scalars (plan i) (governing_bytes l (plan i))) _ _
      (λ f. let r = (stack_exactly l b a i).0 f in inr (_, S.stack i d r.0 r.1 r.2, refl))
      (λ f. inl (
        record {
          defined = d;
          stack = λ h c. ⊎_elim (λ z. eqb-true _ 0 z) (λ z. never ((stack_exactly l b a i).1 (h, c, eqb-false _ 0 z)) f)
              (true_or_false (eqb (scalar b.scalars 31 % 16) 0));
        },
        refl,
      ))
      )))

  load : Accepted l b → (i : Insn) → Means w (Ok i) → Says (of_load i)
  load a i reads = ⊎_elim (λ h. subst Says (sym h.1) (carried i h.0)) (λ h. subst Says (sym h.2) h.1) (ways a i reads)

  decoded : w < 2 ^ 32 → Accepted l b → (d : Decoded) → read_of w ≡ d → Says (stacked (planned_by l.settings b.scalars d))
  decoded small a (Err Outside) e = S.outside a ((outside_exactly w small).0 e)
  decoded small a (Err Undefined) e = S.undefined a (undefined_means w small e)
  decoded small a (Ok i) e = load a i (insn_means w small i e)

  pub step_given : w < 2 ^ 32 → Given l w b (step_of l w b).report
  unfolding step_of prepared_of planned_of
  step_given small =
      if_cases (λ (o : Outcome). Given l w b o.report) (is_accepted l b) _ _
      (λ t. decoded small ((accepted_exactly l b).0 t) (read_of w) refl)
      (λ f. S.set_up (λ a. never ((accepted_exactly l b).1 a) f))

  -- and back: each row of the table is what the definition reports
  evaluated : (d : Decoded) → Accepted l b → read_of w ≡ d → step_of l w b ≡ carried_out l b (stacked (planned_by l.settings b.scalars d))
  unfolding step_of prepared_of planned_of
  evaluated d a e = rw ((accepted_exactly l b).1 a, e)

  loads : (i : Insn) → Accepted l b → Means w (Ok i) → (step_of l w b).report ≡ (carried_out l b (of_load i)).report
  loads i a e = ap (λ (o : Outcome). o.report) (evaluated (Ok i) a (means_read w (Ok i) e))

  f64mm_fine : (i : Insn) → (Wide i → l.settings.f64mm ≡ true) → (is_wide i.shape && not l.settings.f64mm) ≡ false
  f64mm_fine i h = off _ (λ t. never (h ((wide_exactly i.shape).0 (and_left (is_wide i.shape) _ t))) (not-true _ (and_right (is_wide i.shape) _ t)))

  length_fine : (i : Insn) → (Wide i → 256 ≤ l.settings.vl) → (is_wide i.shape && ltb l.settings.vl 256) ≡ false
  length_fine i h =
      off _ (λ t. let k = h ((wide_exactly i.shape).0 (and_left (is_wide i.shape) _ t)) in let g = ltb-true l.settings.vl 256
      (and_right (is_wide i.shape) _ t) in omega arith)

  -- a defined load comes to the stack rule
  defined : (i : Insn) (d : Defined l w b i)
      → of_load i ≡ (if stack_fails b.scalars (plan i) (governing_bytes l (plan i)) then Stop (refusal_report 5) else Go (plan i))
  unfolding planned_load refusals
  defined i d = rw (f64mm_fine i d.f64mm, (on_exactly l i.shape).1 d.on, length_fine i d.long)

  -- .. and goes on, or stops, by it
  at_stack_lem : (i : Insn) → Defined l w b i → (t : Bool) → stack_fails b.scalars (plan i) (governing_bytes l (plan i)) ≡ t
      → of_load i ≡ (if t then Stop (refusal_report 5) else Go (plan i))
  at_stack_lem i d t h = defined i d ∙ rw h

  pub ready_plan : (i : Insn) → Ready l w b i → of_load i ≡ Go (plan i)
  ready_plan i r =
      let d = r.defined in
      at_stack_lem i d false (off (stack_fails b.scalars (plan i) (governing_bytes l (plan i)))
      (λ t. let s = (stack_exactly l b d.accepted i).0 t in s.2 (r.stack s.0 s.1)))

  pub ready_goes : (i : Insn) (r : Ready l w b i) → step_of l w b ≡ carried_out l b (Go (plan i))
  ready_goes i r = evaluated (Ok i) r.defined.accepted (means_read w (Ok i) r.defined.reads) ∙ ap (carried_out l b) (ready_plan i r)

  told_by : (o : Outcome) (r : Report) → step_of l w b ≡ o → o.report ≡ r → (step_of l w b).report ≡ r
  told_by o r e h = ap (λ (v : Outcome). v.report) e ∙ h

  surveyed : (i : Insn) (r : Ready l w b i) (q : Report) → survey_of (answers_of l b (plan i)) (plan i) (governing_bytes l (plan i)) ≡ q → (step_of l w b).report ≡ q
  unfolding outcome_of
  surveyed i r q h = told_by _ q (ready_goes i r) h

  stopped : (i : Insn) (r : Ready l w b i) (t : Fault) (e k n : ℕ) → FirstBad (IsBad t) l b i e k → Counted (Active l i) e n
      → (step_of l w b).report ≡ report_with (fault_number t) n e (byte_at l b.scalars i e k)
  stopped i r t e k n f c =
      let a = r.defined.accepted in
      let long = r.defined.long in
      let s = first_stops l b i a long t e k f in
      let h = ((asks l b i a long e).1 f.active).0 in
      let m : 0 + many (want l b i a long) 0 (e - 0) ≡ n = zero-add _ ∙ rw sub-zero (counted_once (Active l i) (counts l b i a long e (omega arith)) c) in
      surveyed i r _ (survey_is l b i a long ∙ walk_stopped (want l b i a long) (answer l b i a long) 0 0 (elements l b i a long) s
      ∙ (λ j. report_with (fault_number t) (m j) e (byte_at l b.scalars i e k)))

  pub meant : w < 2 ^ 32 → (r : Report) → Given l w b r → (step_of l w b).report ≡ r
  unfolding step_of planned_load refusals
  meant small r (S.ran i ready all c) =
      let a = ready.defined.accepted in
      let long = ready.defined.long in
      surveyed i ready _ (survey_clear l b i a long all ∙ ap (λ (n : ℕ). report_with 0 n 0 0) (counted_once (Active l i) (counts_all l b i a long (few_registers i ready)) c))
  meant small r (S.set_up refused) = rw (off (is_accepted l b) (λ t. refused ((accepted_exactly l b).0 t)))
  meant small r (S.outside a e) = told_by _ _ (evaluated (Err Outside) a ((outside_exactly w small).1 e)) refl
  meant small r (S.undefined a e) = told_by _ _ (evaluated (Err Undefined) a (means_read w (Err Undefined) e)) refl
  meant small r (S.no_f64mm i a e v f) = loads i a e ∙ rw ((wide_exactly i.shape).1 v, f)
  meant small r (S.switched_off i a e has o) =
      loads i a e ∙ rw (f64mm_fine i has, off (switched_on l.settings i.shape) (λ t. o ((on_exactly l i.shape).0 t)))
  meant small r (S.short i a e v has on s) =
      loads i a e ∙ rw (f64mm_fine i (λ _. has), (on_exactly l i.shape).1 on, (wide_exactly i.shape).1 v, lt-ltb _ _ s)
  meant small r (S.stack i d h c z) =
      loads i d.accepted d.reads
      ∙ ap (λ (p : Prepared). (carried_out l b p).report) (at_stack_lem i d true ((stack_exactly l b d.accepted i).1 (h, c, z)))
  meant small r (S.no_memory i e k ready f c) = stopped i ready Nowhere e k _ f c
  meant small r (S.denied i e k ready f c) = stopped i ready Denied e k _ f c

  pub given_exactly : w < 2 ^ 32 → (r : Report) → Given l w b r ↔ ((step_of l w b).report ≡ r)
  given_exactly small r = (meant small r, λ e. subst (Given l w b) e (step_given small))

  -- 0 is given for a load that is ready and can read all it asks for, 5 for one whose base, SP, fails, and neither for anything else
  abbrev pub Runs : Type 0
  Runs = (i : Insn) × Ready l w b i × AllReadable l b i

  abbrev pub Fails : Type 0
  Fails = (i : Insn) × Defined l w b i × (i.base ≡ 31) × Checks l i × (scalar b.scalars 31 % 16 ≡ 0 → ⊥)

  pub row_of : (r : Report) → Given l w b r → (r.number ≡ 0 → Runs) × (r.number ≡ 5 → Fails)
  row_of r (S.ran i ready all c) = (λ z. (i, ready, all), λ z. absurd (omega arith))
  row_of r (S.set_up a) = (λ z. absurd (omega arith), λ z. absurd (omega arith))
  row_of r (S.outside a e) = (λ z. absurd (omega arith), λ z. absurd (omega arith))
  row_of r (S.undefined a e) = (λ z. absurd (omega arith), λ z. absurd (omega arith))
  row_of r (S.no_f64mm i a e v f) = (λ z. absurd (omega arith), λ z. absurd (omega arith))
  row_of r (S.switched_off i a e has o) = (λ z. absurd (omega arith), λ z. absurd (omega arith))
  row_of r (S.short i a e v has on s) = (λ z. absurd (omega arith), λ z. absurd (omega arith))
  row_of r (S.stack i d h c q) = (λ z. absurd (omega arith), λ z. (i, d, h, c, q))
  row_of r (S.no_memory i e k ready f c) = (λ z. absurd (omega arith), λ z. absurd (omega arith))
  row_of r (S.denied i e k ready f c) = (λ z. absurd (omega arith), λ z. absurd (omega arith))

  pub ran_only : w < 2 ^ 32 → (step_of l w b).report.number ≡ 0 → (i : Insn) × Ready l w b i × AllReadable l b i
  ran_only small = (row_of _ (step_given small)).0

  pub runs : (i : Insn) → Ready l w b i → AllReadable l b i → (step_of l w b).report.number ≡ 0
  runs i ready all = ap (λ (r : Report). r.number) (surveyed i ready _ (survey_clear l b i ready.defined.accepted ready.defined.long all))

  -- every report is a result's
  met_of : (r : Report) → Given l w b r → report_of (result_of r) ≡ r
  unfolding result_of answer_of
  met_of r (S.ran i ready all c) = refl
  met_of r (S.set_up a) = refl
  met_of r (S.outside a e) = refl
  met_of r (S.undefined a e) = refl
  met_of r (S.no_f64mm i a e v f) = refl
  met_of r (S.switched_off i a e has o) = refl
  met_of r (S.short i a e v has on s) = refl
  met_of r (S.stack i d h c q) = refl
  met_of r (S.no_memory i e k ready f c) = refl
  met_of r (S.denied i e k ready f c) = refl

  pub met : w < 2 ^ 32 → report_of (result_of (step_of l w b).report) ≡ (step_of l w b).report
  met small = met_of _ (step_given small)

  -- no count is over 256
  fault_few : (i : Insn) → Ready l w b i → (e n : ℕ) → Active l i e → Counted (Active l i) e n → n ≤ element_limit
  fault_few i r e n q c =
      let a = r.defined.accepted in
      let h = ((asks l b i a r.defined.long e).1 q).0 in
      omega (arith, counted_most (Active l i) c, elements_few l.settings.vl b.scalars i i.shape (few_registers i r) a.allowed.largest, h)

  few_of : (r : Report) → Given l w b r → r.count ≤ element_limit
  few_of r (S.ran i ready all c) = counted_most (Active l i) c
  few_of r (S.set_up a) = omega arith
  few_of r (S.outside a e) = omega arith
  few_of r (S.undefined a e) = omega arith
  few_of r (S.no_f64mm i a e v f) = omega arith
  few_of r (S.switched_off i a e has o) = omega arith
  few_of r (S.short i a e v has on s) = omega arith
  few_of r (S.stack i d h c q) = omega arith
  few_of r (S.no_memory i e k ready f c) = fault_few i ready e _ f.active c
  few_of r (S.denied i e k ready f c) = fault_few i ready e _ f.active c

  pub counts_few : w < 2 ^ 32 → (step_of l w b).report.count ≤ element_limit
  counts_few small = few_of _ (step_given small)
