-- What is read lies in the buffer.
use Rattle.std.proofs.Common.{◌≤◌, length}
use Rattle.qemu.proofs.main.Given as goal

abbrev pub invariant-loop-number : goal.invariant-loop-number
invariant-loop-number l = l.read ≤ length l.stream
