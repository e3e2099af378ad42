-- A word of bits: its fields, and the pieces that it is laid out of.
use Rattle.std.specs.Prelude.{ℕ, ◌+◌, ◌-◌, ◌*◌, ◌/◌, ◌%◌, ◌^◌, ◌<◌, List, [], ◌∷◌}

-- bits hi to lo of a word, as Arm writes word<hi:lo>
abbrev pub bits : ℕ → ℕ → ℕ → ℕ
bits w hi lo = w / 2 ^ lo % 2 ^ (hi - lo + 1)

-- a number in a width of bits
pub record Piece : Type 0 where
  pub width : ℕ
  pub number : ℕ

infix 100 ◌▹◌
abbrev pub ◌▹◌ : ℕ → ℕ → Piece
n ▹ v = record { width = n; number = v }

abbrev pub widths : List Piece → ℕ
widths [] = 0
widths (p ∷ ps) = p.width + widths ps

-- pieces side by side, most significant first
unfoldable pub word : List Piece → ℕ
word [] = 0
word (p ∷ ps) = p.number * 2 ^ widths ps + word ps

-- every piece fits its width
abbrev pub FitWidths : List Piece → Type 0
FitWidths [] = Unit {0}
FitWidths (p ∷ ps) = (p.number < 2 ^ p.width) × FitWidths ps
