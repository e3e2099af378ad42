-- Lists made of a function of the index, what holds below a number, and numbers as bytes.
use Rattle.std.specs.Prelude.{if◌then◌else◌, ℕ, zero, suc, ◌+◌, ◌*◌, ◌/◌, ◌%◌, ◌^◌, ◌<◌, min, ◌≡◌, Bool, true, false, ◌&&◌, ◌||◌, List, [], ◌∷◌, ◌++◌, eqb, length, get_or, take, drop}

-- f i, f (i + 1) and on, n of them
abbrev pub listed : {A : Type 0} → (ℕ → A) → ℕ → ℕ → List A
listed f i zero = []
listed f i (suc n) = f i ∷ listed f (i + 1) n

-- of i, i + 1 and on, n of them, those at which f holds
abbrev pub up_from : (ℕ → Bool) → ℕ → ℕ → List ℕ
up_from f i zero = []
up_from f i (suc n) = let rest = up_from f (i + 1) n in if f i then i ∷ rest else rest

-- f holds somewhere below n
abbrev pub any_below : (ℕ → Bool) → ℕ → Bool
any_below f zero = false
any_below f (suc n) = any_below f n || f n

-- the number whose n lowest digits to the base 256 are f i, f (i + 1) and on: lowest byte first
abbrev pub little : (ℕ → ℕ) → ℕ → ℕ → ℕ
little f i zero = 0
little f i (suc n) = f i + 256 * little f (i + 1) n

-- the number that n bytes of a list make from a place on
abbrev pub bytes_at : List ℕ → ℕ → ℕ → ℕ
bytes_at s at n = little (λ j. get_or s (at + j) 0) 0 n

-- whether two lists are the same
abbrev pub alike : List ℕ → List ℕ → Bool
alike [] [] = true
alike [] (b ∷ t) = false
alike (a ∷ s) [] = false
alike (a ∷ s) (b ∷ t) = eqb a b && alike s t

-- every number of a list is below n; one that is not there counts as 0
abbrev pub EachBelow : ℕ → List ℕ → Type 0
EachBelow n s = (k : ℕ) → get_or s k 0 < n

-- what `number` promises: the number that n bytes make, of the first eight where n is more, and that it has no more bits than these
abbrev pub NumberPromise : List ℕ → ℕ → ℕ → ℕ → Type 0
NumberPromise s at n r = (r ≡ bytes_at s at (min n 8)) × (r < 2 ^ (8 * min n 8))

-- what `put` promises of the bytes that it leaves: as many as were there, each a digit of v to the base 256, lowest first
abbrev pub PutPromise : List ℕ → ℕ → List ℕ → Type 0
PutPromise dst v left = left ≡ listed (λ j. v / 256 ^ j % 256) 0 (length dst)

-- a list with n of its elements, from place a on, replaced
unfoldable pub replaced : List ℕ → ℕ → ℕ → List ℕ → List ℕ
replaced xs a n ys = take a xs ++ (ys ++ drop (a + n) xs)
