-- An address whose distance is so short lies in the area, and the two rights that are tested are those of its pages.
use Rattle.std.proofs.Common.{◌+◌, ◌-◌, ◌/◌, ◌%◌, ◌^◌, get_or, arith, rules}
use Rattle.memory.specs.Areas.{page_bytes, area_of}
use Rattle.bench.proofs.Together.{both_ones, stretch_within}
use Rattle.bench.proofs.stretches.in_area.Goals as goal

pub returns-then-readable : goal.returns-then-readable
returns-then-readable c =
    let r = area_of c.args.area in
    let at = (c.args.a.0 + (2 ^ 64 - r.start)) % 2 ^ 64 in
    let ones = both_ones (get_or r.rights (at / page_bytes) 0 % 2) (get_or r.rights ((at + c.args.n - 1) / page_bytes) 0 % 2) (search rules) in
    stretch_within r c.args.a.0 c.args.n at c.requires.n_in_page.1 (omega arith) (omega arith) ones.0 ones.1
