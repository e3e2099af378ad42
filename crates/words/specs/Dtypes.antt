-- The dtype table of the scope of work: memory size to lane size, and whether the sign is extended.
use Rattle.std.specs.Prelude.{ℕ, ◌≡◌, true, false, List, [], ◌∷◌, get_or}
use Rattle.ground.specs.declared.Size.{Size}
use Rattle.ground.specs.declared.Size.TheVariants.{B8, B16, B32, B64}
use Rattle.words.specs.Insns.{Dtype}

abbrev pub unsigned_row : Size → Size → Dtype
unsigned_row m l = record { memory = m; lane = l; signed = false }

abbrev pub signed_row : Size → Size → Dtype
signed_row m l = record { memory = m; lane = l; signed = true }

-- an element that is as wide in memory as in its lane
abbrev pub plain_of : Size → Dtype
plain_of size = unsigned_row size size

-- rows 0 to 15
unfoldable pub dtypes : List Dtype
dtypes =
    unsigned_row B8 B8 ∷ unsigned_row B8 B16 ∷ unsigned_row B8 B32 ∷ unsigned_row B8 B64
    ∷ signed_row B32 B64 ∷ unsigned_row B16 B16 ∷ unsigned_row B16 B32 ∷ unsigned_row B16 B64
    ∷ signed_row B16 B64 ∷ signed_row B16 B32 ∷ unsigned_row B32 B32 ∷ unsigned_row B32 B64
    ∷ signed_row B8 B64 ∷ signed_row B8 B32 ∷ signed_row B8 B16 ∷ unsigned_row B64 B64 ∷ []

-- a field of four bits names a row; there is no other number
unfoldable pub dtype_of : ℕ → Dtype
dtype_of d = get_or dtypes d (unsigned_row B64 B64)

-- what `Dtype::of` promises: the row that a field names
abbrev pub DtypePromise : ℕ → Dtype → Type 0
DtypePromise field r = r ≡ dtype_of field
