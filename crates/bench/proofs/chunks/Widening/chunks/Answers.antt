-- One chunk more is filled, and its lanes are counted.
use Rattle.std.proofs.Common.{◌≡◌, ◌+◌, ◌*◌, ◌≤◌, length, arith, rules}
use Rattle.ground.specs.Sizes.{bytes_of}
use Rattle.ground.proofs.Sizes.{bytes_some}
use Rattle.bench.proofs.Small.{chunk_whole}
use Rattle.bench.proofs.Lanes.{chunk_in, chunk_turn, count_turn, count_most, chunk_room, chunks_filled}
use Rattle.bench.proofs.chunks.Widening.chunks.Goals as goal

pub chunk-lanes_on-requires-clause-inside : goal.chunk-lanes_on-requires-clause-inside
chunk-lanes_on-requires-clause-inside c = rw c.bytes.ensures (chunk_in c.requires c.loop-c.c c.loop-c-test.true)

pub overflow_add-lanes_on : goal.overflow_add-lanes_on
overflow_add-lanes_on c =
    let g = c.args in
    let most : c.loop-c.lanes_on + c.chunk-lanes_on.result ≤ c.loop-c.c * 8 + 8 =
    rw (c.loop-c.invariant.0, c.chunk-lanes_on.ensures.lanes_on)
    (count_most g.stretch.now g.bits.now g.self.stride g.self.signed (bytes_of g.self.size) (bytes_of g.self.width) _ c.loop-c.c (chunk_whole g.self.width) (bytes_some g.self.width)) in
    search rules

pub loop-c-preserved : goal.loop-c-preserved
loop-c-preserved c =
    let g = c.args in
    let r = c.chunk-lanes_on.ensures in (
      rw (c.loop-c.invariant.0, r.lanes_on)
          (count_turn g.stretch.now g.bits.now g.self.stride g.self.signed (bytes_of g.self.size) (bytes_of g.self.width) _ c.loop-c.c (chunk_whole g.self.width) (bytes_some g.self.width)),
      chunk_turn _ _ _ _ _ _ _ _ (chunk_whole g.self.width) (bytes_some g.self.width) c.loop-c.invariant.1 (chunk_room c.requires c.loop-c.c c.loop-c-test.true) _
          (rw c.bytes.ensures at r.filled),
    )

pub returns : goal.returns
returns c =
    let t = c.loop-c in
    let all : t.c ≡ length c.args.bits.now = omega arith in
    record { lanes_on = rw all at t.invariant.0; filled = chunks_filled _ (chunk_whole c.args.self.width) (rw all at t.invariant.1) }
