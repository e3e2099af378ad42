-- A chunk none of whose bits is 1 is zero; and one lane more is filled and counted.
use Rattle.std.proofs.Common.{◌+◌, ◌*◌, ◌≤◌, [], ◌∷◌, le_trans, le_of_eq, arith}
use mir.Facts.{Fits-below}
use Rattle.ground.specs.Sizes.{bytes_of}
use Rattle.steps.specs.Lanes.{bit_of}
use Rattle.bench.proofs.Small.{slot, chunk_whole}
use Rattle.bench.proofs.Many.{many_next, next_most, one_is}
use Rattle.bench.proofs.Lanes.{chunk_off, lane_turn}
use Rattle.bench.proofs.chunks.Widening.chunk.Goals as goal

pub returns-then-byte-eq0 : goal.returns-then-byte-eq0
returns-then-byte-eq0 c =
    rw c.if-byte-eq0.true (chunk_off _ _ _ _ _ _ _ (chunk_whole c.args.self.width) c.requires.room c.zeros.ensures)

pub overflow_add-lanes_on : goal.overflow_add-lanes_on
overflow_add-lanes_on c =
    let most = next_most (λ k. bit_of (c.args.byte ∷ []) (k * bytes_of c.args.self.width)) c.loop-l.l c.bit_is_set-on.result in
    rw (c.loop-l.invariant.0, c.from-lanes_on.ensures, one_is) (Fits-below {n = 9} tt (omega (arith, most)))

pub loop-l-preserved : goal.loop-l-preserved
loop-l-preserved c =
    let w = c.bytes-width.ensures in
    let on = rw w at c.bit_is_set-on.ensures in
    let room : c.loop-l.l * bytes_of c.args.self.width + bytes_of c.args.self.width ≤ 8 =
    le_trans (slot c.loop-l.l _ _ (rw w at c.loop-l-test.true)) (le_of_eq (chunk_whole c.args.self.width)) in (
      rw (c.loop-l.invariant.0, c.from-lanes_on.ensures, one_is, on) (many_next (λ k. bit_of (c.args.byte ∷ []) (k * bytes_of c.args.self.width)) c.loop-l.l),
      rw w (lane_turn _ _ _ _ _ _ _ c.loop-l.invariant.1 room _ on _ c.lane-v.ensures _ (rw w at c.put.ensures)),
    )
