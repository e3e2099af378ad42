-- `put_outcome` meets its contract: z and x lie one behind the other, and the report before them.
use Rattle.std.proofs.Common.{◌≡◌, ℕ, ◌+◌, ◌-◌, ◌*◌, ◌≤◌, List, ◌++◌, length, take, drop, refl, sym, ap, ◌∙◌, append_assoc, arith, length-take, drop_at}
use Rattle.ground.specs.Lists.{replaced}
use Rattle.ground.proofs.Fills.{part_length, back_in, replaced_next}
use Rattle.steps.specs.Answers.{report_of}
use Rattle.steps.specs.Benches.{lent_of}
use Rattle.steps.specs.Step.{StepPromise}
use Rattle.steps.specs.declared.StepResult.{StepResult}
use Rattle.bench.specs.Lends.{bench_of}
use Rattle.cases.specs.Outcomes.{eights, report_bytes, outcome_bytes}
use Rattle.cases.specs.Inside.{bench_by, step_length, step_by}
use Rattle.cases.specs.declared.parts.Parts.{Parts}
use Rattle.cases.proofs.parts.put_outcome.Goals as goal

-- two parts put in one behind the other, from place 25 on
behind : (out : List ℕ) (n m : ℕ) (z xs : List ℕ) → length z ≡ n → 25 + n + m ≤ length out
    → drop 25 (replaced (replaced out 25 n z) (25 + n) m xs) ≡ (z ++ xs) ++ drop (25 + n + m) out
unfolding replaced
behind out n m z xs size fits =
    let first : length (take 25 out) ≡ 25 = simp length-take (omega arith) in
    let at : 25 + (n + m) ≡ 25 + n + m = omega arith in
    ap (drop 25) (replaced_next out 25 n m z xs (omega arith) size)
    ∙ drop_at (take 25 out) ((z ++ xs) ++ drop (25 + (n + m)) out) 25 first
    ∙ ap (λ (k : ℕ). (z ++ xs) ++ drop k out) at

-- .. as they are lent and come back
layers : (out z xs ys : List ℕ) (n m : ℕ) → xs ≡ ys
    → (let low = take 25 out ++ (z ++ drop (25 + n - 25) (drop 25 out)) in take (25 + n) low ++ (xs ++ drop (25 + n + m - (25 + n)) (drop (25 + n) low)))
    ≡ replaced (replaced out 25 n z) (25 + n) m ys
layers out z xs ys n m e = back_in _ xs ys (25 + n) m e ∙ ap (λ (l : List ℕ). replaced l (25 + n) m ys) (back_in out z z 25 n refl)

-- the outcome: the report, and behind it what the step left
as_outcome : (w : ℕ) (p : Parts) (out : List ℕ) (r : StepResult) {z x : List ℕ}
    → (let l = lent_of p.lent in StepPromise l w (bench_by p) r l (bench_of z x p.ram.now))
    → report_bytes (report_of r) ++ ((z ++ eights x) ++ drop (step_length p) out) ≡ step_by w p out
unfolding outcome_bytes
as_outcome w p out r {z} {x} h = rw (← h.ends) (sym (append_assoc (report_bytes (report_of r)) (z ++ eights x) (drop (step_length p) out)))

pub returns : goal.returns
returns c =
    let step = c.stepped-result in
    let out = c.args.out.now in
    let n = length c.args.parts.vectors.now in
    let m = 8 * length c.args.x.now in
    let z = step.new.z in
    let x = step.new.x in
    let room : 25 + n + m ≤ length out = omega (arith, c.requires.0, c.requires.1) in
    let size : length z ≡ n = step.auto.z ∙ part_length out 25 n (omega arith) in
    let far : 25 + n + m ≡ step_length c.args.parts = ap (λ (k : ℕ). 25 + n + k) c.requires.0 in
    rw c.from.ensures at c.put_report.ensures
    ∙ ap (λ (l : List ℕ). report_bytes (report_of step.result) ++ drop 25 l) (layers out z _ (eights x) n m c.put_numbers.ensures)
    ∙ ap (λ (l : List ℕ). report_bytes (report_of step.result) ++ l)
    (behind out n m z (eights x) size room ∙ ap (λ (k : ℕ). (z ++ eights x) ++ drop k out) far)
    ∙ as_outcome c.args.word c.args.parts out step.result step.ensures
