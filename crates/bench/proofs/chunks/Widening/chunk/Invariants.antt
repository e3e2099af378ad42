-- The lanes so far are filled, and those that are on are counted.
use Rattle.std.proofs.Common.{◌≡◌, ◌*◌, [], ◌∷◌}
use Rattle.ground.specs.Sizes.{bytes_of}
use Rattle.ground.proofs.Fills.{Filled}
use Rattle.steps.specs.Lanes.{bit_of}
use Rattle.steps.proofs.Walks.{many}
use Rattle.bench.specs.Inside.Quick.{byte_from}
use Rattle.bench.proofs.chunks.Widening.chunk.Given as goal

abbrev pub invariant-loop-l : goal.invariant-loop-l
invariant-loop-l l =
    (l.lanes_on ≡ many (λ k. bit_of (l.byte ∷ []) (k * bytes_of l.self.width)) 0 l.l)
    × Filled (byte_from l.stretch l.from (l.byte ∷ []) l.self.stride l.self.signed (bytes_of l.self.size) (bytes_of l.self.width))
    (bytes_of l.self.width) 8 l.dst l.l
