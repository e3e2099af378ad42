-- The four sizes.
use Rattle.std.specs.Prelude.{if◌then◌else◌, ℕ, ◌≡◌, eqb}
use Rattle.ground.specs.declared.Size.{Size}
use Rattle.ground.specs.declared.Size.TheVariants.{B8, B16, B32, B64}

-- a size in bytes
abbrev pub bytes_of : Size → ℕ
bytes_of B8 = 1
bytes_of B16 = 2
bytes_of B32 = 4
bytes_of B64 = 8

-- what `Size::bytes` promises: the size in bytes
abbrev pub BytesPromise : Size → ℕ → Type 0
BytesPromise s r = r ≡ bytes_of s

-- the size of 8 << n bits, for n from 0 to 3
unfoldable pub size_of : ℕ → Size
size_of n = if eqb n 0 then B8 else (if eqb n 1 then B16 else (if eqb n 2 then B32 else B64))

-- what `Size::of` promises: the size that a field names
abbrev pub SizePromise : ℕ → Size → Type 0
SizePromise field r = r ≡ size_of field
