-- `put_window` meets its contract: the length of what is behind it, and the report before that.
use Rattle.std.proofs.Common.{◌≡◌, ℕ, ◌≤◌, List, [], ◌∷◌, ◌++◌, length, take, drop, replicate, sym, ap, ◌∙◌, append_assoc, arith, length-take, length-drop, drop_at}
use Rattle.ground.specs.Lists.{replaced}
use Rattle.ground.proofs.Fills.{back_in}
use Rattle.steps.specs.Answers.{Report}
use Rattle.cases.specs.Outcomes.{eights, report_bytes, window_bytes}
use Rattle.cases.proofs.outcomes.put_window.Goals as goal

-- eight bytes put in from place 25 on, seen from there
behind : (out ys : List ℕ) → 33 ≤ length out → drop 25 (replaced out 25 8 ys) ≡ ys ++ drop 33 out
unfolding replaced
behind out ys h = let first : length (take 25 out) ≡ 25 = simp length-take (omega arith) in drop_at (take 25 out) (ys ++ drop 33 out) 25 first

as_window : (r : Report) (out : List ℕ) {ys : List ℕ} → ys ≡ eights (0 ∷ []) → 33 ≤ length out
    → report_bytes r ++ drop 25 (take 25 out ++ (ys ++ drop 8 (drop 25 out))) ≡ window_bytes r ++ drop 33 out
unfolding window_bytes
as_window r out {ys} e h =
    ap (λ (l : List ℕ). report_bytes r ++ drop 25 l) (back_in out ys (eights (0 ∷ [])) 25 8 e)
    ∙ ap (λ (l : List ℕ). report_bytes r ++ l) (behind out (eights (0 ∷ [])) h)
    ∙ sym (append_assoc (report_bytes r) (eights (0 ∷ [])) (drop 33 out))

pub returns : goal.returns
unfolding eights
returns c =
    let out = c.args.out.now in
    let eight : length (take 8 (drop 25 out)) ≡ 8 = simp (length-take, length-drop) (omega arith) in
    c.put_report.ensures ∙ as_window _ out (c.fill.ensures.after (λ y h. h) ∙ ap (λ (n : ℕ). replicate n 0) eight) c.requires
