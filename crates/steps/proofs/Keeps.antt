-- What a step never changes, and what any answer but 0 leaves.
use mathlib.Core.Path.{◌≡◌, refl}
use Prim.Native.Nat.{ℕ}
use borrow.Author.Tests.{ne_eqb}
use Rattle.ground.proofs.Laws.{if_cases}
use Rattle.steps.specs.Benches.{Lent, Bench, is_accepted}
use Rattle.steps.specs.Outcomes.{Outcome, outcome_of}
use Rattle.steps.specs.Step.{Prepared, Stop, Go, prepared_of, carried_out, step_of}

module _ (l : Lent) (w : ℕ) (b : Bench) where
  -- "An answer other than 0 changes no byte or number of the bench."
  abbrev Kept : Outcome → Type 0
  Kept o = (o.report.number ≡ 0 → ⊥) → (o.lent ≡ l) × (o.bench ≡ b)

  kept_by : (p : Prepared) → Kept (carried_out l b p)
  unfolding outcome_of
  kept_by (Stop r) h = (refl, rw (ne_eqb r.number 0 h))
  kept_by (Go p) h = (refl, rw (ne_eqb _ 0 h))

  pub kept : Kept (step_of l w b)
  unfolding step_of
  kept = if_cases Kept (is_accepted l b) _ _ (λ _. kept_by (prepared_of l b.scalars w)) (λ _ h. (refl, refl))

  -- what is lent for reading is never changed
  lent_by : (p : Prepared) → (carried_out l b p).lent ≡ l
  unfolding outcome_of
  lent_by (Stop r) = refl
  lent_by (Go p) = refl

  pub lent_kept : (step_of l w b).lent ≡ l
  unfolding step_of
  lent_kept = if_cases (λ (o : Outcome). o.lent ≡ l) (is_accepted l b) _ _ (λ _. lent_by (prepared_of l b.scalars w)) (λ _. refl)
