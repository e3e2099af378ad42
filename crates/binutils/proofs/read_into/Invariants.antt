-- What came lies in the room.
use Rattle.std.proofs.Common.{◌≤◌, length}
use Rattle.binutils.proofs.read_into.Given as goal

abbrev pub invariant-loop : goal.invariant-loop
invariant-loop g l = l.came ≤ length l.room
