-- Chunks of the element and zeros are the definition's register.
use Rattle.bench.proofs.Repeats.{replicate_in, replicated_out}
use Rattle.bench.proofs.quick.Replicas.replicate.Goals as goal

pub returns : goal.returns
returns c =
    let f = replicate_in c.args.self c.requires.0 c.requires.1 in
    replicated_out f _ (rw f.size at c.spread-chunk.ensures) c.repeat.ensures c.zeros.ensures
