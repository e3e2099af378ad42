-- The library's sum of an unsigned number and a signed one is the address d bytes on, or back.
use Rattle.std.proofs.Common.{◌∙◌}
use Rattle.memory.proofs.Moves.{moved_signed}
use Rattle.memory.proofs.Address.moved.Goals as goal

pub returns : goal.returns
returns c = c.wrapping_add_signed.ensures ∙ moved_signed _ c.args.d c.ranges.d
