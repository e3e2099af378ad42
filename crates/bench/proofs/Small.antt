-- Products and quotients of an element's or a lane's number that are small enough.
use Rattle.std.proofs.Common.{◌≡◌, ℕ, ◌+◌, ◌*◌, ◌/◌, ◌%◌, ◌<◌, ◌≤◌, mul-le-mul_right, suc-mul, mul-le-mul, refl, arith}
use Rattle.ground.specs.Sizes.{bytes_of}
use Rattle.ground.specs.declared.Size.{Size}
use Rattle.ground.proofs.Sizes.{bytes_few, whole_lanes}

-- 256 elements or lanes of any size are at most 2,048 bytes
pub small : (n : ℕ) (s : Size) → n ≤ 256 → n * bytes_of s ≤ 2048
small n s h = mul-le-mul h (bytes_few s)

-- no lane of w bytes is left of a register of whole 8 bytes
pub whole : (n l : ℕ) {w : ℕ} (s : Size) → w ≡ bytes_of s → n % 8 ≡ 0 → n / w ≤ l → n ≤ l * w
whole n l {w} s e h k = rw (← whole_lanes s n h, ← e) (mul-le-mul_right w k)

-- one of m parts of n bytes lies within them
pub slot : (t m n : ℕ) → t < m → t * n + n ≤ m * n
slot t m n h = omega (arith, suc-mul t n, mul-le-mul_right n h)

-- a chunk is whole lanes of every size
pub chunk_whole : (s : Size) → 8 / bytes_of s * bytes_of s ≡ 8
chunk_whole s = whole_lanes s 8 refl
