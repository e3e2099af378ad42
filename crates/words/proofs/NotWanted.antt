-- "Not wanted: .. 128-bit lanes, prefetch": their words, as Arm's public pages lay them out, are outside, whatever their fields.
use Prim.Native.Nat.{ℕ}
use mathlib.Core.Path.{◌≡◌, refl}
use mathlib.Core.List.{List, [], ◌∷◌}
use Rattle.ground.specs.Pieces.{Piece, ◌▹◌, word, FitWidths}
use Rattle.ground.proofs.Pieces.{Placed, laid}
use Rattle.words.specs.Families.{bits_are, families, read_of}
use Rattle.words.specs.Insns.{Err, Outside}
use Rattle.words.proofs.Apart.{clashing_outside}

-- LD1W and LD1D to lanes of 128 bits: the class.Q of page 003; and PRFB, PRFH, PRFW and PRFD
pub data NotWanted : Type 0 where
  quad_immediate : (msz imm4 pg rn zt : ℕ) → NotWanted
  quad_scalar : (msz rm pg rn zt : ℕ) → NotWanted
  prefetch_immediate : (imm6 msz pg rn op : ℕ) → NotWanted
  prefetch_scalar : (msz rm pg rn op : ℕ) → NotWanted

abbrev pub not_wanted_layout : NotWanted → List Piece
not_wanted_layout (quad_immediate msz imm4 pg rn zt) =
    7 ▹ 0b1010010 ∷ 2 ▹ msz ∷ 2 ▹ 0b00 ∷ 1 ▹ 0b1 ∷ 4 ▹ imm4 ∷ 3 ▹ 0b001 ∷ 3 ▹ pg ∷ 5 ▹ rn ∷ 5 ▹ zt ∷ []
not_wanted_layout (quad_scalar msz rm pg rn zt) =
    7 ▹ 0b1010010 ∷ 2 ▹ msz ∷ 2 ▹ 0b00 ∷ 5 ▹ rm ∷ 3 ▹ 0b100 ∷ 3 ▹ pg ∷ 5 ▹ rn ∷ 5 ▹ zt ∷ []
not_wanted_layout (prefetch_immediate imm6 msz pg rn op) =
    7 ▹ 0b1000010 ∷ 2 ▹ 0b11 ∷ 1 ▹ 0b1 ∷ 6 ▹ imm6 ∷ 1 ▹ 0b0 ∷ 2 ▹ msz ∷ 3 ▹ pg ∷ 5 ▹ rn ∷ 1 ▹ 0b0 ∷ 4 ▹ op ∷ []
not_wanted_layout (prefetch_scalar msz rm pg rn op) =
    7 ▹ 0b1000010 ∷ 2 ▹ msz ∷ 2 ▹ 0b00 ∷ 5 ▹ rm ∷ 3 ▹ 0b110 ∷ 3 ▹ pg ∷ 5 ▹ rn ∷ 1 ▹ 0b0 ∷ 4 ▹ op ∷ []

pub not_wanted_outside : (x : NotWanted) → FitWidths (not_wanted_layout x) → read_of (word (not_wanted_layout x)) ≡ Err Outside
unfolding families
not_wanted_outside x fit = placed x (word (not_wanted_layout x)) (laid (not_wanted_layout x) fit)
  where
    -- each has bits that every row of the table fixes otherwise
    placed : (x : NotWanted) (w : ℕ) → Placed w (not_wanted_layout x) → read_of w ≡ Err Outside
    placed (quad_immediate msz imm4 pg rn zt) w p = clashing_outside (bits_are 31 25 0b1010010 ∷ bits_are 20 20 0b1 ∷ bits_are 15 13 0b001 ∷ []) refl w (cc)
    placed (quad_scalar msz rm pg rn zt) w p = clashing_outside (bits_are 31 25 0b1010010 ∷ bits_are 15 13 0b100 ∷ []) refl w (cc)
    placed (prefetch_immediate imm6 msz pg rn op) w p = clashing_outside (bits_are 31 25 0b1000010 ∷ bits_are 15 15 0b0 ∷ []) refl w (cc)
    placed (prefetch_scalar msz rm pg rn op) w p = clashing_outside (bits_are 31 25 0b1000010 ∷ bits_are 22 21 0b00 ∷ []) refl w (cc)
