-- What reading an element finds, over any memory: a function from addresses to cells. `Areas::element` promises it of the two areas.
use Rattle.std.specs.Prelude.{◌≡◌, ℕ, zero, suc, ◌+◌, ◌*◌, Result, Ok, Err}
use Rattle.ground.specs.declared.Size.{Size}
use Rattle.ground.specs.Sizes.{bytes_of}
use Rattle.memory.specs.Addresses.{plus_of}
use Rattle.memory.specs.Areas.{Areas}
use Rattle.memory.specs.Bytes.{Cell, look_of}
use Rattle.memory.specs.declared.BadByte.{BadByte}
use Rattle.memory.specs.declared.Fault.{Fault}

-- what reading an element finds: its value, or the first byte that cannot be read
abbrev pub Reading : Type 0
Reading = Result ℕ BadByte

-- a byte that cannot be read, and its address
abbrev pub bad_at : Fault → ℕ → BadByte
bad_at f a = record { fault = f; at = record { 0 = a } }

-- a byte below what the bytes above it read as
abbrev pub with_low_byte : ℕ → Reading → Reading
with_low_byte b (Ok v) = Ok (b + 256 * v)
with_low_byte b (Err x) = Err x

abbrev pub on_cell : Cell → ℕ → Reading → Reading
on_cell (Ok b) a rest = with_low_byte b rest
on_cell (Err f) a rest = Err (bad_at f a)

-- n bytes upward from a: their value, lowest byte first, or the first bad byte
unfoldable pub reading_of : (ℕ → Cell) → ℕ → ℕ → Reading
reading_of look a zero = Ok 0
reading_of look a (suc n) = on_cell (look a) a (reading_of look (plus_of a 1) n)

-- what `Areas::element` promises: over the memory of the areas, as many bytes as the size has
abbrev pub ElementPromise : Areas → ℕ → Size → Reading → Type 0
ElementPromise m a s r = r ≡ reading_of (look_of m) a (bytes_of s)
