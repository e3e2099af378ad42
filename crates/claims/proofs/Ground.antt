-- What is claimed of sizes, and of numbers as bytes.
use Prim.Native.Nat.{◌%◌, ◌+◌, ◌/◌, ◌<◌, ◌^◌, ◌≤◌, ℕ}
use Rattle.ground.specs.Lists.{NumberPromise, PutPromise, little}
use Rattle.ground.specs.Sizes.{BytesPromise, SizePromise, bytes_of, size_of}
use Rattle.ground.specs.declared.Size.{Size}
use Rattle.ground.specs.declared.Size.TheVariants.{B64}
use mathlib.Core.Bool.{Bool, cond, false, true}
use mathlib.Core.List.{List}
use mathlib.Core.Path.{◌≡◌}

-- digit j of the number that digits make
pub little_digit : (f : ℕ → ℕ) (i n : ℕ) → ((j : ℕ) → j < n → f (i + j) < 256) → (j : ℕ) → j < n → little f i n / 256 ^ j % 256 ≡ f (i + j)
little_digit = Rattle.ground.proofs.Laws.little_digit

-- 8 << n bits are 1 << n bytes
pub field_bytes : (n : ℕ) → n < 4 → bytes_of (size_of n) ≡ 2 ^ n
field_bytes = Rattle.ground.proofs.Sizes.field_bytes

pub bytes_unique : (s : Size) (a b : ℕ) → BytesPromise s a → BytesPromise s b → a ≡ b
bytes_unique = Rattle.ground.proofs.Sizes.bytes_unique

pub of_unique : (n : ℕ) (s t : Size) → SizePromise n s → SizePromise n t → s ≡ t
of_unique = Rattle.ground.proofs.Sizes.of_unique

pub number_unique : (s : List ℕ) (at n a b : ℕ) → NumberPromise s at n a → NumberPromise s at n b → a ≡ b
number_unique = Rattle.ground.proofs.Unique.number_unique

-- what `put` leaves
pub put_unique : (dst : List ℕ) (v : ℕ) (a b : List ℕ) → PutPromise dst v a → PutPromise dst v b → a ≡ b
put_unique = Rattle.ground.proofs.Unique.put_unique

-- a fact of both sides of a choice, each under its test
pub if_cases {ℓ κ} : {A : Type ℓ} (P : A → Type κ) (b : Bool) (x y : A) → (b ≡ true → P x) → (b ≡ false → P y) → P (cond b x y)
if_cases = Rattle.ground.proofs.Laws.if_cases

-- a field over 3 is read as 3
pub field_past : (n : ℕ) → 3 ≤ n → size_of n ≡ B64
field_past = Rattle.ground.proofs.Sizes.field_past
