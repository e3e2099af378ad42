-- A text: what it says, with more behind it, and a number in decimal.
use Rattle.std.specs.Prelude.{if◌then◌else◌, ℕ, zero, suc, ◌+◌, ◌-◌, ◌/◌, min, ◌≡◌, Bool, List, ltb, length, take, replicate}
use Rattle.ground.specs.Lists.{alike, replaced}
use Rattle.io.specs.Digits.{last_digits}
use Rattle.texts.specs.declared.Text.{Text}

-- what a text says
abbrev pub bytes_in : Text → List ℕ
bytes_in t = take t.n t.bytes

abbrev pub empty : Text
empty = record { bytes = replicate 128 32; n = 0 }

-- a text with bytes behind it: as many of them as have room, over as many of its 128 bytes
unfoldable pub and_of : Text → List ℕ → Text
and_of t s = let k = min (length s) (128 - t.n) in record { bytes = replaced t.bytes t.n k (take k s); n = t.n + k }

-- how many decimal digits a number has that is n at most
abbrev pub places_of : ℕ → ℕ → ℕ
places_of zero v = 1
places_of (suc n) v = if ltb v 10 then 1 else suc (places_of n (v / 10))

-- a number in decimal
unfoldable pub decimal_of : ℕ → List ℕ
decimal_of v = last_digits 10 (places_of v v) v

-- what `Text::of` promises: a text of these bytes
abbrev pub TextPromise : List ℕ → Text → Type 0
TextPromise s r = r ≡ and_of empty s

-- what `Text::and` promises, and a write to a text, as `write!` makes it: the text with these bytes behind it
abbrev pub AndPromise : Text → List ℕ → Text → Type 0
AndPromise t s r = r ≡ and_of t s

-- what `Text::number` promises: the text with the number behind it, in decimal
abbrev pub DecimalPromise : Text → ℕ → Text → Type 0
DecimalPromise t v r = r ≡ and_of t (decimal_of v)

-- what `Text::same` promises: whether the text says these bytes and no other
abbrev pub SamePromise : Text → List ℕ → Bool → Type 0
SamePromise t s r = r ≡ alike (bytes_in t) s
