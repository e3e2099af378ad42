-- A word that fits the row of LD1RO immediate is what the row says.
use Rattle.std.proofs.Common.{◌≡◌, sym, arith, lit<}
use Rattle.ground.specs.Pieces.{bits}
use Rattle.words.specs.Families.{families}
use Rattle.words.proofs.Apart.{row_reads}
use Rattle.words.proofs.read.Goals as goal

pub returns-in-82-eq1-2 : goal.returns-in-82-eq1-2
unfolding families
returns-in-82-eq1-2 c =
    let w = c.args.word in
    let top : bits w 31 25 ≡ 82 = omega arith in
    let middle : bits w 22 20 ≡ 2 = omega arith in
    let low : bits w 15 13 ≡ 1 = omega arith in
    rw (c.block-in-82-eq1-2.ensures, c.bits-2.ensures) (sym (row_reads w 7 (lit< tt) (rw (top, middle, low))))
