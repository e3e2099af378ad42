-- `put_report` meets its contract: three numbers from place 1 on, and the answer's number before them.
use Rattle.std.proofs.Common.{ℕ, List, set, refl, ap, ◌∙◌, arith}
use Rattle.ground.proofs.Fills.{back_in, first_set}
use Rattle.cases.specs.Outcomes.{report_bytes}
use Rattle.cases.proofs.outcomes.put_report.Goals as goal

pub returns : goal.returns
unfolding report_bytes
returns c =
    let dst = c.args.dst.now in
    let ys = c.put_numbers.new.dst in
    ap (λ (l : List ℕ). set l 0 c.args.told.number) (back_in dst ys ys 1 24 refl)
    ∙ first_set dst 24 ys c.args.told.number (omega arith)
    ∙ rw c.put_numbers.ensures
