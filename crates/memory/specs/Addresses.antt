-- "All address arithmetic is modulo 2^64, byte by byte too."
use Rattle.std.specs.Prelude.{◌≡◌, ℕ, ◌+◌, ◌-◌, ◌%◌, ◌^◌, ℤ, pos, negsuc, ◌+ℤ◌}
use Rattle.memory.specs.declared.Address.{Address}

abbrev pub wrap : ℕ → ℕ
wrap n = n % 2 ^ 64

-- the same of any whole number: -1 is 2^64 - 1
abbrev pub wrapℤ : ℤ → ℕ
wrapℤ (pos n) = wrap n
wrapℤ (negsuc n) = 2 ^ 64 - 1 - wrap n

-- the address n bytes on from a
abbrev pub plus_of : ℕ → ℕ → ℕ
plus_of a n = wrap (a + n)

-- what `Address::plus` promises
abbrev pub PlusPromise : ℕ → ℕ → Address → Type 0
PlusPromise a n r = r.0 ≡ plus_of a n

-- the address d bytes on from a, or back
unfoldable pub moved_of : ℕ → ℤ → ℕ
moved_of a d = wrapℤ (pos a +ℤ d)

-- what `Address::moved` promises
abbrev pub MovedPromise : ℕ → ℤ → Address → Type 0
MovedPromise a d r = r.0 ≡ moved_of a d
