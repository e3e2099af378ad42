-- The chunks so far are filled, and those of their lanes that are on are counted.
use Rattle.std.proofs.Common.{◌≡◌, ◌*◌, ◌/◌, length}
use Rattle.ground.specs.Sizes.{bytes_of}
use Rattle.ground.proofs.Fills.{Filled}
use Rattle.steps.specs.Lanes.{bit_of}
use Rattle.steps.proofs.Walks.{many}
use Rattle.bench.specs.Inside.Quick.{byte_from}
use Rattle.bench.proofs.chunks.Widening.chunks.Given as goal

abbrev pub invariant-loop-c : goal.invariant-loop-c
invariant-loop-c l =
    (l.lanes_on ≡ many (λ k. bit_of l.bits (k * bytes_of l.self.width)) 0 (l.c * (8 / bytes_of l.self.width)))
    × Filled (byte_from l.stretch 0 l.bits l.self.stride l.self.signed (bytes_of l.self.size) (bytes_of l.self.width)) 8 (length l.fn.dst) l.dst l.c
