-- A load that ran and read nothing leaves zeros: a lane takes an element only where it is asked for.
use Rattle.std.proofs.Common.{◌≡◌, ℕ, ◌/◌, ◌<◌, true, ltb, List, length, sym, ap, ◌∙◌, ⊎_elim, zero-le, zero-add, arith}
use native.Mathlib.Nat.{zero-div}
use Rattle.ground.specs.Sizes.{bytes_of}
use Rattle.ground.proofs.Fills.{is_listed}
use Rattle.ground.proofs.Laws.{never, off, any_of}
use Rattle.memory.specs.Elements.{Reading}
use Rattle.steps.specs.Answers.{Report}
use Rattle.steps.specs.Lanes.{wanted, asked, lane_takes, lane_element, destinations_in}
use Rattle.steps.specs.Outcomes.{survey_of, lane_value, register_byte, register_of}
use Rattle.steps.specs.declared.Plan.{Plan}
use Rattle.steps.proofs.Depends.{takes_wanted}
use Rattle.steps.proofs.Numbers.{fault_number_lem}
use Rattle.steps.proofs.Walks.{many, walk_clear, walk_stopped, clear_or_stopped}
use Rattle.bench.specs.Inside.{Zeroed}
use Rattle.bench.specs.Inside.Roads.{RanWith}
use Rattle.bench.proofs.Many.{any_many}

module _ (answer : ℕ → Reading) (p : Plan) (pred : List ℕ) (some : 0 < p.elements) (r : RanWith (survey_of answer p pred) 0) where
  none_many : many (wanted p pred) 0 p.elements ≡ 0
  unfolding survey_of asked
  none_many =
      ⊎_elim
      (λ c. sym (zero-add _) ∙ sym (ap (λ (s : Report). s.count) (walk_clear (wanted p pred) answer 0 0 p.elements c)) ∙ r.counted)
      (λ s.
      let ran = sym (ap (λ (t : Report). t.number) (walk_stopped (wanted p pred) answer 0 0 p.elements s)) ∙ r.number in
      absurd (omega (arith, (fault_number_lem s.kind).0, ran)))
      (clear_or_stopped (wanted p pred) answer 0 p.elements)

  none_wanted : (e : ℕ) → e < p.elements → wanted p pred e ≡ true → ⊥
  none_wanted e h t = never (any_of (wanted p pred) p.elements e h t) (sym (any_many (wanted p pred) p.elements) ∙ ap (ltb 0) none_many)

  none_lane : (j l : ℕ) → j < destinations_in p → lane_value answer p pred j l ≡ 0
  unfolding lane_value
  none_lane j l h = rw (off (lane_takes p pred l) (λ t. let w = takes_wanted answer answer p pred some j l h t in none_wanted (lane_element p j l) w.0 w.1))

  -- zeros over a whole destination
  pub nothing_read : (j : ℕ) → j < destinations_in p → {dst dst' : List ℕ} → Zeroed dst dst' 0 → dst' ≡ register_of answer p pred j (length dst)
  unfolding register_of register_byte
  nothing_read j there {dst} {dst'} z =
      is_listed _ dst' (length dst) z.long (λ i h. z.zero i zero-le h ∙ sym (rw (none_lane j (i / bytes_of p.lane) there, zero-div)))
