-- A line that is put together piece by piece is the whole line, and a text has room for it.
use mathlib.Core.Path.{◌≡◌, refl}
use mathlib.Core.List.{List, ◌++◌, append_assoc}
use Prim.Native.Nat.{ℕ, ◌+◌, ◌^◌, ◌≤◌, ◌<◌}
use native.Mathlib.Omega.{arith}
use lib.Dec.{lit≤}
use lib.ListN.{length, length-append}
use Rattle.texts.specs.Texts.{bytes_in, empty, and_of, decimal_of}
use Rattle.texts.specs.declared.Text.{Text}
use Rattle.texts.proofs.Texts.{and_and, says_whole, digits_most}
use Rattle.cases.specs.declared.heads.Part.{Part}
use Rattle.cases.specs.declared.heads.Part.TheVariants.{Vectors, Predicates, Scalars, Flash, FlashRights, Ram, RamRights, Blob}
use Rattle.cases.specs.declared.heads.Refusal.{Refusal}
use Rattle.cases.specs.declared.heads.Refusal.TheVariants.{Ends, Magic, Flags, Kind, Level, Long, Room}
use lib.Chars.{codes}
use Rattle.telling.specs.Lines.{line_of, over_limit, reason_of, LinePromise, RefusedPromise}

behind : (a b : List ℕ) → and_of (and_of empty a) b ≡ and_of empty (a ++ b)
behind a b = and_and empty a b refl

pub pieces : (prefix : List ℕ) (number : ℕ) (why : List ℕ)
    → and_of (and_of (and_of (and_of (and_of empty prefix) (decimal_of number)) (codes ": ")) why) (codes "\n") ≡ and_of empty (line_of prefix number why)
unfolding line_of
pieces prefix number why = rw (behind, behind, behind, behind, append_assoc, append_assoc, append_assoc)

-- a number has 20 digits at most, and beside it, the prefix and the reason a line has 3 bytes
line_length : (prefix : List ℕ) (number : ℕ) (why : List ℕ) → number < 2 ^ 64 → length prefix + length why ≤ 105 → length (line_of prefix number why) ≤ 128
unfolding line_of
line_length prefix number why small short =
    let most : 2 ^ 64 ≤ 10 ^ 20 = lit≤ tt in
    let below : number < 10 ^ 20 = omega arith in
    let few : length (decimal_of number) ≤ 20 = digits_most number 19 below in
    rw (length-append, length-append, length-append, length-append) (omega arith)

-- a line that is no longer is said whole
pub line_whole : (prefix : List ℕ) (number : ℕ) (why : List ℕ) (r : Text) → LinePromise prefix number why r → number < 2 ^ 64
    → length prefix + length why ≤ 105 → bytes_in r ≡ line_of prefix number why
line_whole prefix number why r p small short = rw p (says_whole (line_of prefix number why) (line_length prefix number why small short))

limit_short : (part : Part) → length (codes (over_limit part)) ≤ 54
limit_short Vectors = lit≤ tt
limit_short Predicates = lit≤ tt
limit_short Scalars = lit≤ tt
limit_short Flash = lit≤ tt
limit_short FlashRights = lit≤ tt
limit_short Ram = lit≤ tt
limit_short RamRights = lit≤ tt
limit_short Blob = lit≤ tt

reason_short : (why : Refusal) → length (codes (reason_of why)) ≤ 54
reason_short Ends = lit≤ tt
reason_short Magic = lit≤ tt
reason_short Flags = lit≤ tt
reason_short Kind = lit≤ tt
reason_short Level = lit≤ tt
reason_short (Long part) = limit_short part
reason_short Room = lit≤ tt

-- so is that of every refusal, behind a prefix of 51 bytes or fewer
pub refused_whole : (prefix : List ℕ) (number : ℕ) (why : Refusal) (r : Text) → RefusedPromise prefix number why r → number < 2 ^ 64
    → length prefix ≤ 51 → bytes_in r ≡ line_of prefix number (codes (reason_of why))
refused_whole prefix number why r p small short =
    line_whole prefix number (codes (reason_of why)) r p small (omega (arith, reason_short why))
