-- The walk of a load that is ready, in the scope of work's words: clear where every byte of every active element can be read, and else
-- stopped at the first bad byte; with the count of the active elements before it.
use mathlib.Core.Path.{◌≡◌, refl, ap, ◌∙◌}
use mathlib.Core.Bool.{Bool, true}
use mathlib.Core.Logic.{◌↔◌}
use Prim.Native.Nat.{ℕ, ◌+◌, ◌-◌, ◌≤◌, ◌<◌}
use native.Mathlib.Nat.{zero-add}
use native.Mathlib.Omega.{arith}
use mathlib.Core.Logic.{⊎_elim}
use lib.Dec.{leb}
use borrow.Author.Tests.{leb-true, leb-false}
use Rattle.ground.proofs.Laws.{true_or_false}
use Rattle.steps.specs.Insns.{Insn}
use Rattle.ground.specs.Lists.{up_from}
use Rattle.memory.specs.Elements.{Reading}
use Rattle.memory.specs.declared.Fault.{Fault}
use Rattle.steps.specs.Benches.{Lent, Bench}
use Rattle.steps.specs.Answers.{report_with}
use Rattle.steps.specs.Plans.{plan_of}
use Rattle.steps.specs.Lanes.{governing_bytes, wanted, asked}
use Rattle.steps.specs.Outcomes.{walk, answers_of, survey_of}
use Rattle.steps.specs.Said.{Accepted, Active, byte_at}
use Rattle.steps.specs.Demand1.{FirstBad, Counted, Wide, AllReadable, element_limit}
use Rattle.steps.specs.declared.Plan.{Plan}
use Rattle.steps.proofs.Fields.{elements_few}
use Rattle.steps.proofs.Actives.{active_exactly}
use Rattle.steps.proofs.Walks.{many, Clear, Stopped, walk_clear}
use Rattle.steps.proofs.Counts.{many_counted, counted_on}
use Rattle.steps.proofs.Faults.{IsBad, good_exactly, bad_exactly_at}

module _ (l : Lent) (b : Bench) (i : Insn) (a : Accepted l b) (long : Wide i → 256 ≤ l.settings.vl) where
  abbrev plan : Plan
  plan = plan_of l.settings.vl b.scalars i

  abbrev pub want : ℕ → Bool
  want = wanted plan (governing_bytes l plan)

  abbrev pub answer : ℕ → Reading
  answer = answers_of l b plan

  abbrev pub elements : ℕ
  elements = plan.elements

  pub asks : (e : ℕ) → ((e < elements) × (want e ≡ true)) ↔ Active l i e
  asks = active_exactly l b.scalars a.allowed i i.shape long

  pub counts : (e : ℕ) → e ≤ elements → Counted (Active l i) e (many want 0 e)
  counts e h = many_counted want (Active l i) e (λ f k. (λ t. (asks f).0 (omega arith, t), λ q. ((asks f).1 q).1))

  counts_beyond : (k : ℕ) → Counted (Active l i) (elements + k) (many want 0 elements)
  counts_beyond k = counted_on (Active l i) elements _ k (λ f h q. let g = ((asks f).1 q).0 in omega arith) (counts elements (omega arith))

  pub counts_all : i.registers ≤ 4 → Counted (Active l i) element_limit (many want 0 elements)
  counts_all few =
      let n : elements + (element_limit - elements) ≡ element_limit = let k = elements_few l.settings.vl b.scalars i i.shape few
      a.allowed.largest in omega arith in
      rw n at (counts_beyond (element_limit - elements))

  pub count_exists : (e : ℕ) → (n : ℕ) × Counted (Active l i) e n
  count_exists e =
      ⊎_elim
      (λ t. (_, counts e (leb-true e elements t)))
      (λ t.
      let h = leb-false e elements t in
      let n : elements + (e - elements) ≡ e = omega arith in
      (_, rw n at (counts_beyond (e - elements))))
      (true_or_false (leb e elements))

  pub survey_is : survey_of answer plan (governing_bytes l plan) ≡ walk answer 0 (up_from want 0 elements)
  unfolding survey_of asked
  survey_is = refl

  pub all_clear : AllReadable l b i → Clear want answer 0 (0 + elements)
  all_clear h f g k t = let q = (asks f).0 (omega arith, t) in (good_exactly l b a.areas i f q).1 (h f q)

  pub all_readable : Clear want answer 0 (0 + elements) → AllReadable l b i
  all_readable c e q = let t = (asks e).1 q in let k = t.0 in (good_exactly l b a.areas i e q).0 (c e (omega arith) (omega arith) t.1)

  pub survey_clear : AllReadable l b i → survey_of answer plan (governing_bytes l plan) ≡ report_with 0 (many want 0 elements) 0 0
  survey_clear h = survey_is ∙ walk_clear want answer 0 0 _ (all_clear h) ∙ ap (λ (n : ℕ). report_with 0 n 0 0) (zero-add _)

  -- the first bad byte of the scope's table is what stops the walk
  abbrev pub first_stops : (t : Fault) (e k : ℕ) → FirstBad (IsBad t) l b i e k → Stopped want answer 0 elements
  first_stops t e k f =
      let q = (asks e).1 f.active in
      let h = q.0 in
      record {
        element = e;
        from = omega arith;
        to = omega arith;
        asked = q.1;
        clear = λ g u v s. let r = (asks g).0 (omega arith, s) in (good_exactly l b a.areas i g r).1 (f.before g v r);
        kind = t;
        at = byte_at l b.scalars i e k;
        trouble = (bad_exactly_at l b a.areas i e f.active t _).1 (k, f.within, f.bad, refl, f.below);
      }

  pub stops_first : (s : Stopped want answer 0 elements)
      → (k : ℕ) × FirstBad (IsBad s.kind) l b i s.element k × (s.at ≡ byte_at l b.scalars i s.element k)
  stops_first s =
      let t = s.to in
      let q = (asks s.element).0 (omega arith, s.asked) in
      let r = (bad_exactly_at l b a.areas i s.element q s.kind s.at).0 s.trouble in (
        r.0,
        record {
          active = q;
          within = r.1;
          bad = r.2;
          before = λ f v g. let u = (asks f).1 g in (good_exactly l b a.areas i f g).0 (s.clear f (omega arith) v u.1);
          below = r.4;
        },
        r.3,
      )
