-- No two results, and no two benches left, meet what a host is promised.
use mathlib.Core.Path.{◌≡◌, sym, ap, ◌∙◌}
use Prim.Native.Nat.{ℕ}
use Rattle.steps.specs.Answers.{Report, report_of}
use Rattle.steps.specs.Benches.{Lent, Bench}
use Rattle.steps.proofs.Promise.{promise_unique}
use Rattle.hosts.specs.Hosts.{HostPromise}
use Rattle.hosts.specs.declared.StepNumbers.{StepNumbers}

abbrev told_by : Report → StepNumbers
told_by r = record { number = r.number; count = r.count; element = r.element; address = r.address }

pub host_unique : (l : Lent) (w : ℕ) (b : Bench) (t t' : StepNumbers) (l₁ l₂ : Lent) (b₁ b₂ : Bench)
    → HostPromise l w b t l₁ b₁ → HostPromise l w b t' l₂ b₂ → (t ≡ t') × (l₁ ≡ l₂) × (b₁ ≡ b₂)
host_unique l w b t t' l₁ l₂ b₁ b₂ p q =
    let e = promise_unique l w b p.result q.result l₁ l₂ b₁ b₂ p.step q.step in
    (ap told_by (p.told ∙ ap report_of e.0 ∙ sym q.told), e.1, e.2)
