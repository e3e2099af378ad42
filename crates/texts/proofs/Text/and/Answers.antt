-- `and` meets its contract: what has room is copied behind the text.
use Rattle.texts.proofs.Texts.{put_behind}
use Rattle.texts.proofs.Text.and.Goals as goal

pub returns : goal.returns
returns c = put_behind c.args.self c.args.s.now c.min-k.ensures c.copy_from_slice.ensures.after
