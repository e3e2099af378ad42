-- `same` meets its contract: what is compared is the text.
use Rattle.std.proofs.Common.{◌≡◌, length, rules}
use Rattle.texts.proofs.Texts.{all_there}
use Rattle.texts.proofs.Text.same.Goals as goal

pub returns : goal.returns
returns c =
    let size : length c.args.self.bytes ≡ 128 = search rules in
    rw (all_there c.args.self size c.min.ensures) at c.eq.ensures
