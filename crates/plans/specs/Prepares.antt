-- What a word is about to do, for any settings: a vector length that is not allowed earns 1, as a set-up with it does.
use Rattle.std.specs.Prelude.{if◌then◌else◌, ℕ, ◌≡◌, List}
use Rattle.steps.specs.Benches.{is_length_allowed}
use Rattle.steps.specs.Insns.{Err}
use Rattle.steps.specs.Step.{Planned, planned_of}
use Rattle.steps.specs.declared.Settings.{Settings}
use Rattle.steps.specs.declared.Answer.TheVariants.{SetUp}

unfoldable pub planned_for : Settings → List ℕ → ℕ → Planned
planned_for s x w = if is_length_allowed s.vl then planned_of s x w else Err SetUp

-- what `prepare` promises: what the word is about to do
abbrev pub PreparePromise : Settings → List ℕ → ℕ → Planned → Type 0
PreparePromise s x w r = r ≡ planned_for s x w
