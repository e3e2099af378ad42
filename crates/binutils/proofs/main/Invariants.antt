-- What is read lies in the window.
use Rattle.std.proofs.Common.{◌≤◌, length}
use Rattle.binutils.proofs.main.Given as goal

abbrev pub invariant-loop-number : goal.invariant-loop-number
invariant-loop-number l = l.read ≤ length l.window
