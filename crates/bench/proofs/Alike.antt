-- A load over a stretch that has all its elements: every element is found, and where the answers are memory's so is the end.
use Rattle.std.proofs.Common.{if◌then◌else◌, ◌≡◌, ℕ, ◌+◌, ◌-◌, ◌*◌, ◌%◌, ◌<◌, false, eqb, List, ◌++◌, take, drop, sym, refl, ap, ◌∙◌, le_refl, zero-add, arith}
use Rattle.ground.specs.Lists.{replaced}
use Rattle.ground.proofs.Fills.{back_in}
use Rattle.ground.proofs.Laws.{never}
use Rattle.memory.specs.Troubles.{trouble_of}
use Rattle.memory.specs.Elements.{Reading}
use Rattle.steps.specs.Answers.{number_of, report_with, report_of}
use Rattle.steps.specs.Lanes.{wanted, asked, destinations_by, destinations_in, destination_of}
use Rattle.steps.specs.Outcomes.{survey_of, register_of, vectors_after}
use Rattle.steps.specs.declared.Answer.TheVariants.{Ran}
use Rattle.steps.specs.declared.Plan.{Plan}
use Rattle.steps.specs.declared.Rule.{Rule}
use Rattle.steps.specs.declared.Rule.TheVariants.{Always, LaneBit, ElementBit}
use Rattle.steps.specs.declared.StepResult.{StepResult}
use Rattle.steps.proofs.Counts.{many_all}
use Rattle.steps.proofs.Depends.{same_survey, same_vectors}
use Rattle.steps.proofs.Walks.{many, walk_clear}
use Rattle.bench.specs.Inside.Quick.{answers_from, is_always, FillIn, FillOut, ReplicatesIn, ReplicatesOut}
use Rattle.bench.specs.Inside.Roads.{Targeted}

-- a load that reads every element of a stretch
module _ (p : Plan) (pred s : List ℕ) where
  all_read : {count : ℕ} → count ≡ many (wanted p pred) 0 p.elements → {r : StepResult} → r ≡ record { count = count; answer = Ran }
      → report_of r ≡ survey_of (answers_from s p) p pred
  unfolding survey_of asked answers_from
  all_read c e =
      ap report_of e
      ∙ ap (λ (k : ℕ). report_with 0 k 0 0) (c ∙ sym (zero-add _))
      ∙ sym (walk_clear (wanted p pred) (answers_from s p) 0 0 p.elements (λ _ _ _ _. refl))

  -- where the rule asks bits there is one destination, a register that is lent out of the vector file
  one_destination : (r : Rule) → is_always r ≡ false → destinations_by r p.elements ≡ 1
  one_destination Always h = never refl h
  one_destination LaneBit h = refl
  one_destination ElementBit h = refl

  pub one_filled : (z : List ℕ) (n : ℕ) → FillIn p pred s n → {ys : List ℕ} {count : ℕ} → FillOut p pred s n ys count
      → {r : StepResult} → r ≡ record { count = count; answer = Ran }
      → (let a = p.target * n in Targeted (answers_from s p) p pred n z r (take a z ++ (ys ++ drop (a + n - a) (drop a z))))
  unfolding vectors_after destinations_in destination_of
  one_filled z n f {ys} out e =
      let target = f.fit.sound.target in
      let first : (p.target + 0) % 32 ≡ p.target = omega arith in
      let written : vectors_after (answers_from s p) p pred n z 1 ≡ replaced z (p.target * n) n (register_of (answers_from s p) p pred 0 n) = rw first in
      record {
        report = all_read out.count e;
        vectors = rw e (back_in z ys _ (p.target * n) n out.bytes
            ∙ sym (ap (vectors_after (answers_from s p) p pred n z) (one_destination p.rule f.asks) ∙ written));
      }

  -- LD1R to LD4R: each element has a destination, and is read
  pub each_filled : (z : List ℕ) (n : ℕ) → ReplicatesIn p s n → {z' : List ℕ} → ReplicatesOut p s n z z'
      → {r : StepResult} → r ≡ record { count = p.elements; answer = Ran } → Targeted (answers_from s p) p pred n z r z'
  unfolding wanted destinations_in
  each_filled z n f out e =
      record {
        report = all_read (sym (many_all (wanted p pred) p.elements (λ _. rw f.always))) e;
        vectors = rw e (out pred ∙ sym (ap (λ (q : Rule). vectors_after (answers_from s p) p pred n z (destinations_by q p.elements)) f.always));
      }

-- so it is over any answers that the stretch gives too
pub alike : (answer : ℕ → Reading) (p : Plan) (pred s z : List ℕ) (n : ℕ) → 0 < p.elements → ((e : ℕ) → e < p.elements → answer e ≡ answers_from s p e)
    → {r : StepResult} {z' : List ℕ} → Targeted (answers_from s p) p pred n z r z' → Targeted answer p pred n z r z'
alike answer p pred s z n some same {r} t =
    record {
      report = t.report ∙ sym (same_survey answer (answers_from s p) p pred (λ k l w. ap trouble_of (same k l)));
      vectors = t.vectors
          ∙ ap (λ (v : List ℕ). if eqb (number_of r.answer) 0 then v else z)
          (sym (same_vectors answer (answers_from s p) p pred some (λ k l w. same k l) n z (destinations_in p) (le_refl _)));
    }
