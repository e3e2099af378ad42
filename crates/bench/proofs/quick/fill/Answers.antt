-- Its own lanes, their copies and zeros are the definition's register, and the lanes that are on tell the count.
use Rattle.bench.proofs.Own.{fill_in, own_filled}
use Rattle.bench.proofs.Registers.{filled_out}
use Rattle.bench.proofs.quick.fill.Goals as goal

pub returns : goal.returns
returns c =
    let f = fill_in c.args.lanes c.requires.asks c.requires.lengths in
    let own = c.own_of-own.ensures in
    filled_out f own.0 c.bytes.ensures (own_filled f own.0 own.1 c.fill-lanes_on.ensures) c.blocks-2.ensures c.zeros.ensures c.counted.ensures
