-- One chunk, and another behind it.
use Rattle.std.proofs.Common.{◌≡◌, ℕ, ◌+◌, ◌*◌, ◌/◌, ◌%◌, ◌^◌, ◌≤◌, List, ◌++◌, length, drop, arith, take}
use Rattle.ground.specs.Lists.{listed}
use Rattle.ground.proofs.Fills.{Filled, unfilled, digits_filled}
use Rattle.bench.proofs.chunks.repeat.Goals as goal

abbrev byte : ℕ → ℕ → ℕ
byte v i = v / 256 ^ (i % 8) % 256

once : (v : ℕ) (dst ys : List ℕ) → 8 ≤ length dst → ys ≡ listed (λ k. v / 256 ^ k % 256) 0 (length (take 8 dst))
    → Filled (byte v) 8 (length dst) (ys ++ drop 8 dst) 1
once v dst ys h e = digits_filled (unfilled (byte v) 8 dst) v (omega arith) (λ j h. let at : (0 * 8 + j) % 8 ≡ j = omega arith in rw at) _ e

pub returns-then-times-eq2 : goal.returns-then-times-eq2
returns-then-times-eq2 c =
    let first = once c.args.chunk c.args.dst.now _ (omega arith) c.put.ensures in
    rw c.if-times-eq2.true
    (digits_filled first c.args.chunk (omega (arith, c.if-times-eq2.true)) (λ j h. let at : (1 * 8 + j) % 8 ≡ j = omega arith in rw at) _
    c.put-then-times-eq2.ensures)

pub returns-else-times-eq2 : goal.returns-else-times-eq2
returns-else-times-eq2 c = let one : c.args.times ≡ 1 = omega arith in rw one (once c.args.chunk c.args.dst.now _ (omega arith) c.put.ensures)
