-- What is read so far, with what the rest reads above it, is what the whole reads.
use Rattle.memory.specs.Areas.{areas_of}
use Rattle.memory.specs.Bytes.{look_of}
use Rattle.memory.proofs.Turns.{SoFar}
use Rattle.memory.proofs.Areas.element.Given as goal

abbrev pub invariant-loop-i : goal.invariant-loop-i
invariant-loop-i l = SoFar (look_of (areas_of l.self)) l.a.0 l.i-end l.value l.i
