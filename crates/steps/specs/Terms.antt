-- Terms that the plan and the statements of the demands share.
use Rattle.std.specs.Prelude.{if◌then◌else◌, ℕ, Bool, List, ltb, get_or, ℤ, pos, ◌-ℤ◌}

-- a field of four bits as a signed number, from -8 to 7
unfoldable pub signed4 : ℕ → ℤ
signed4 v = if ltb v 8 then pos v else pos v -ℤ pos 16

-- X0 to X30 by their numbers; 31 means SP, and 32 is PC
abbrev pub scalar : List ℕ → ℕ → ℕ
scalar x n = get_or x n 0

-- a block of 128 bits, and of 256 where it is wide, in bytes
abbrev pub block_bytes : Bool → ℕ
block_bytes wide = if wide then 32 else 16
