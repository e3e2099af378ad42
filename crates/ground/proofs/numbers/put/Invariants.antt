-- The bytes so far are written, and `rest` is what the number has above them.
use Rattle.std.proofs.Common.{◌≡◌, ℕ, ◌/◌, ◌%◌, ◌^◌, ◌<◌, get_or}
use Rattle.ground.proofs.numbers.put.Given as goal

abbrev pub invariant-loop-byte : goal.invariant-loop-byte
invariant-loop-byte l =
    (l.rest ≡ l.v / 256 ^ l.byte-index) × ((i : ℕ) → i < l.byte-index → get_or l.byte-items i 0 ≡ l.v / 256 ^ i % 256)
