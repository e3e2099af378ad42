-- Two accepted set-ups that agree as demand 3 says: the same answer, count, element and address; and with equal bytes of the active
-- elements, the same registers afterwards.
use Rattle.std.specs.Prelude.{if◌then◌else◌}
use mathlib.Core.Path.{◌≡◌, refl, sym, ap, subst, ◌∙◌}
use mathlib.Core.Bool.{Bool, true, false}
use mathlib.Core.List.{List, []}
use mathlib.Core.Logic.{⊎_elim}
use Prim.Native.Nat.{ℕ, ◌/◌, ◌^◌, ◌<◌}
use native.Mathlib.Omega.{arith}
use lib.Dec.{eqb}
use Rattle.ground.specs.Sizes.{bytes_of}
use Rattle.words.specs.Families.{read_of}
use Rattle.words.proofs.Decodes.{insn_means}
use Rattle.words.proofs.Ranges.{means_in_range}
use Rattle.steps.specs.Insns.{Insn, Decoded, Outside, Undefined, Ok, Err}
use Rattle.memory.specs.Areas.{Areas}
use Rattle.memory.specs.Bytes.{look_of}
use Rattle.memory.specs.Said.{SamePlaces}
use Rattle.memory.specs.Troubles.{trouble_of}
use Rattle.memory.specs.declared.Map.{Map}
use Rattle.memory.proofs.Alike.{same_trouble, same_look}
use Rattle.memory.proofs.Elements.{reading_cong, reading_bad_cong}
use Rattle.steps.specs.Benches.{Lent, Bench, areas_in}
use Rattle.steps.specs.Answers.{Report, refusal_report}
use Rattle.steps.specs.Plans.{plan_of}
use Rattle.steps.specs.Lanes.{governing_bytes, wanted, destinations_in, element_at}
use Rattle.steps.specs.Outcomes.{Outcome, answers_in, answers_of, survey_of, vectors_after, scalars_after, bench_after, outcome_of}
use Rattle.steps.specs.Step.{Planned, Prepared, Stop, Go, planned_by, planned_of, at_stack, prepared_of, carried_out, step_of}
use Rattle.steps.specs.Said.{Accepted}
use Rattle.steps.specs.Demand1.{Ready}
use Rattle.steps.specs.Demand3.{Same, SameRights, SameBytes}
use Rattle.steps.specs.declared.Settings.{Settings}
use Rattle.steps.specs.declared.Plan.{Plan}
use Rattle.steps.proofs.Accepts.{accepted_exactly}
use Rattle.steps.proofs.Faults.{below_all}
use Rattle.steps.proofs.Plans.{plan_in_range}
use Rattle.steps.proofs.Depends.{same_survey, same_vectors}
use Rattle.steps.proofs.Gives.{ways}
use Rattle.steps.proofs.Touches.{touched_by}

module _ (l : Lent) (b : Bench) (l' : Lent) (b' : Bench) (accepted : Accepted l b) (accepted' : Accepted l' b') (same : Same l b l' b') where
  abbrev s : Areas
  s = areas_in l b

  abbrev s' : Areas
  s' = areas_in l' b'

  -- what a word is about to do is the same: it looks at the settings, the predicates and the scalars alone
  abbrev seen : Settings → List ℕ → Lent
  seen t p = record { settings = t; predicates = p; map = l.map; flash = []; flash_rights = []; ram_rights = [] }

  same_governing : (p : Plan) → governing_bytes l p ≡ governing_bytes l' p
  unfolding governing_bytes
  same_governing p = rw (same.settings, same.predicates)

  same_stacked : (q : Planned) → at_stack l b.scalars q ≡ at_stack l' b'.scalars q
  unfolding governing_bytes
  same_stacked (Err a) = refl
  same_stacked (Ok p) = λ j. at_stack (seen (same.settings j) (same.predicates j)) (same.scalars j) (Ok p)

  same_prepared : (w : ℕ) → prepared_of l b.scalars w ≡ prepared_of l' b'.scalars w
  unfolding prepared_of
  same_prepared w = same_stacked (planned_of l.settings b.scalars w) ∙ (λ j. at_stack l' b'.scalars (planned_of (same.settings j) (same.scalars j) w))

  places : SamePlaces s s'
  places =
      record {
        flash_start = ap (λ (t : Map). t.flash.0) same.map;
        flash_length = same.flash;
        ram_start = ap (λ (t : Map). t.ram.0) same.map;
        ram_length = same.ram;
      }

  -- a load with its plan: what memory says of the elements asked for
  module _ (w : ℕ) (i : Insn) (ready : Ready l w b i) (rights : SameRights l w b l' b') where
    abbrev p : Plan
    p = plan_of l.settings.vl b.scalars i

    abbrev Wanted : ℕ → Type 0
    Wanted e = (e < p.elements) × (wanted p (governing_bytes l p) e ≡ true)

    same_troubles : (e : ℕ) → Wanted e → trouble_of (answers_of l b p e) ≡ trouble_of (answers_of l' b' p e)
    unfolding answers_in
    same_troubles e h =
        reading_bad_cong (look_of s) (look_of s') (element_at p e) (bytes_of p.size) (below_all p e)
        (λ k q. same_trouble s s' accepted.areas accepted'.areas places _ (rights _ (touched_by l w b i ready e k h q)) _)

    same_answers : SameBytes l w b l' b' → (e : ℕ) → Wanted e → answers_of l b p e ≡ answers_of l' b' p e
    unfolding answers_in
    same_answers bytes e h =
        reading_cong (look_of s) (look_of s') (element_at p e) (bytes_of p.size) (below_all p e)
        (λ k q. let t = touched_by l w b i ready e k h q in same_look s s' accepted.areas accepted'.areas places _ (rights _ t) (bytes _ t))

    surveys : survey_of (answers_of l b p) p (governing_bytes l p) ≡ survey_of (answers_of l' b' p) p (governing_bytes l' p)
    surveys =
        same_survey (answers_of l b p) (answers_of l' b' p) p (governing_bytes l p) (λ e k t. same_troubles e (k, t))
        ∙ ap (survey_of (answers_of l' b' p) p) (same_governing p)

    some : 0 < p.elements
    some =
        let fine = means_in_range w i ready.defined.reads in (plan_in_range l.settings.vl b.scalars accepted.allowed i fine i.shape
        fine.shape).some

    afters : SameBytes l w b l' b' → Same l (bench_after (answers_of l b p) l b p) l' (bench_after (answers_of l' b' p) l' b' p)
    unfolding bench_after
    afters bytes =
        let n = l.settings.vl / 8 in
        record {
          settings = same.settings;
          predicates = same.predicates;
          map = same.map;
          flash = same.flash;
          ram = same.ram;
          vectors =
              same_vectors (answers_of l b p) (answers_of l' b' p) p (governing_bytes l p) some (λ e k t. same_answers bytes e (k, t)) n b.vectors (destinations_in p) (omega arith)
              ∙ (λ j. vectors_after (answers_of l' b' p) p (same_governing p j) ((same.settings j).vl / 8) (same.vectors j) (destinations_in p));
          scalars = ap (scalars_after p) same.scalars;
        }

  pick : (t : Bool) {x y x' y' : Bench} → Same l x l' x' → Same l y l' y' → Same l (if t then x else y) l' (if t then x' else y')
  pick true p q = p
  pick false p q = q

  end : {r r' : Report} {x x' : Bench} → r ≡ r' → Same l x l' x' → Same l (if eqb r.number 0 then x else b) l' (if eqb r'.number 0 then x' else b')
  end {r} {r'} {x} {x'} h p =
      subst (λ (q : Report). Same l (if eqb r.number 0 then x else b) l' (if eqb q.number 0 then x' else b')) h (pick (eqb r.number 0) p same)

  module _ (w : ℕ) (small : w < 2 ^ 32) (rights : SameRights l w b l' b') where
    -- a fact of the outcomes, from that of a refusal and that of a load's
    outcomes : (P : Outcome → Outcome → Type 0)
        → ((r : Report) → P (carried_out l b (Stop r)) (carried_out l' b' (Stop r)))
        → ((i : Insn) → Ready l w b i → let q = plan_of l.settings.vl b.scalars i in P (carried_out l b (Go q)) (carried_out l' b' (Go q)))
        → P (step_of l w b) (step_of l' w b')
    outcomes P stop go = rw (stepped l b accepted, stepped l' b' accepted', ← same_prepared w) (unfold prepared_of in unfold planned_of in each (read_of w) refl)
      where
        stepped : (l : Lent) (b : Bench) → Accepted l b → step_of l w b ≡ carried_out l b (prepared_of l b.scalars w)
        stepped l b a = unfold step_of in rw ((accepted_exactly l b).1 a)

        P₂ : Prepared → Type 0
        P₂ q = P (carried_out l b q) (carried_out l' b' q)

        each : (d : Decoded) → read_of w ≡ d → P₂ (at_stack l b.scalars (planned_by l.settings b.scalars d))
        each (Err Outside) e = stop (refusal_report 2)
        each (Err Undefined) e = stop (refusal_report 3)
        each (Ok i) e =
            ⊎_elim (λ h. subst P₂ (sym h.1) (go i h.0)) (λ h. subst P₂ (sym h.2) (stop h.0))
            (ways l w b accepted i (insn_means w small i e))

    pub same_report : (step_of l w b).report ≡ (step_of l' w b').report
    unfolding outcome_of
    same_report = outcomes (λ o o'. o.report ≡ o'.report) (λ r. refl) (λ i ready. surveys w i ready rights)

    pub same_after : SameBytes l w b l' b' → Same (step_of l w b).lent (step_of l w b).bench (step_of l' w b').lent (step_of l' w b').bench
    unfolding outcome_of
    same_after bytes = outcomes (λ o o'. Same o.lent o.bench o'.lent o'.bench) (λ r. pick (eqb r.number 0) same same)
        (λ i ready. end (surveys w i ready rights) (afters w i ready rights bytes))
