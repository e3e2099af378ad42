-- "What does a lane hold?" The lane window's answer, for any input whatever.
use Rattle.std.specs.Prelude.{if◌then◌else◌, ℕ, ◌+◌, ◌*◌, ◌/◌, ◌≡◌, Bool, ◌||◌, List, [], ◌∷◌, leb, ltb, eqb, length, Float, Option, Some, None}
use Rattle.std.specs.Float.{Format, binary32, binary64}
use Rattle.std.specs.Float.Ieee.{of_bits, to_bits, nan_bits}
use Rattle.ground.specs.Choices.{all_of}
use Rattle.ground.specs.Lists.{bytes_at, EachBelow}
use Rattle.steps.specs.Benches.{is_length_allowed}
use Rattle.lanes.specs.declared.Kind.{Kind}
use Rattle.lanes.specs.declared.Kind.TheVariants as As
use Rattle.lanes.specs.declared.Shown.{Shown}
use Rattle.lanes.specs.declared.Shown.TheVariants.{Single, Double, Whole}

-- "whole at 8, 16, 32, 64 bits, single at 32, double at 64"
abbrev pub width_fits : Kind → ℕ → Bool
width_fits As.Whole width = ((eqb width 8 || eqb width 16) || eqb width 32) || eqb width 64
width_fits As.Single width = eqb width 32
width_fits As.Double width = eqb width 64

-- VL; the width; a file of n bytes is 32 registers of VL/8; registers 0 to 31; VL/width lanes
abbrev pub lane_tests : ℕ → ℕ → ℕ → Kind → ℕ → ℕ → List Bool
lane_tests vl n register kind width lane =
    is_length_allowed vl
    ∷ width_fits kind width
    ∷ eqb n (32 * (vl / 8))
    ∷ leb register 31
    ∷ ltb lane (vl / width)
    ∷ []

unfoldable pub lane_there : ℕ → ℕ → ℕ → Kind → ℕ → ℕ → Bool
lane_there vl n register kind width lane = all_of (lane_tests vl n register kind width lane)

-- where the lane starts: register 0 first, and in a register lane 0
abbrev pub lane_at : ℕ → ℕ → ℕ → ℕ → ℕ
lane_at vl register width lane = register * (vl / 8) + lane * (width / 8)

-- the float of a format with the given bits; a NaN, of which the language makes no float, as a whole number
abbrev pub float_case : Format → Float → Shown
float_case binary32 x = Single x
float_case binary64 x = Double x

-- .. an Option, as the window's answer is, so that `of_nan` (proofs/Patterns) says of a NaN's lane that there is one
unfoldable pub float_of : Format → ℕ → Option Shown
float_of f bits = if nan_bits f bits then Some (Whole bits) else Some (float_case f (of_bits f bits))

-- "shown as a single, a double or a whole number, as asked"
abbrev pub shown_as : Kind → ℕ → Option Shown
shown_as As.Whole bits = Some (Whole bits)
shown_as As.Single bits = float_of binary32 bits
shown_as As.Double bits = float_of binary64 bits

unfoldable pub shown_of : ℕ → List ℕ → ℕ → Kind → ℕ → ℕ → Option Shown
shown_of vl z register kind width lane =
    if lane_there vl (length z) register kind width lane
    then shown_as kind (bytes_at z (lane_at vl register width lane) (width / 8))
    else None

-- What `show` promises. Every file that can be lent is one of bytes, by its type; but in the logic it is a list of numbers, which does not say so,
-- and "exactly the lane's bits" holds of bytes alone. So the promise hands this on, and the laws of the window ask it of nobody.
pub record ShowPromise (vl : ℕ) (z : List ℕ) (register : ℕ) (kind : Kind) (width lane : ℕ) (r : Option Shown) : Type 0 where
  pub came : EachBelow 256 z
  pub shown : r ≡ shown_of vl z register kind width lane

-- the bits that are shown; 0 where there is no lane
unfoldable pub bits_of : Option Shown → ℕ
bits_of (Some (Single x)) = to_bits binary32 x
bits_of (Some (Double x)) = to_bits binary64 x
bits_of (Some (Whole n)) = n
bits_of None = 0
