-- In flash the length that is told is that of the part that the window hands out. It is written out, so that another length dies here.
use Rattle.std.proofs.Common.{rules, ◌≡◌, length}
use Rattle.steps.specs.Answers.{report_with}
use Rattle.cases.specs.Windows.{address_told}
use Rattle.cases.specs.Inside.{areas_by}
use Rattle.cases.proofs.Shown.{rest}
use Rattle.cases.proofs.windows.asked_address.Goals as goal

pub returns-in-Some-Flash : goal.returns-in-Some-Flash
returns-in-Some-Flash c =
    let told : report_with 1 c.in-Some-Flash.k (length c.window_beside-part.result.now) 0 ≡ address_told (areas_by c.args.parts) c.args.n = search (rules, rest) in
    told
