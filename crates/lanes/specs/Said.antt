-- Document 01's own words on the lane window, as statements. The laws are stated in these words, and tie the definition to them.
use Rattle.std.specs.Prelude.{ℕ, ◌+◌, ◌*◌, ◌/◌, ◌%◌, ◌^◌, ◌≤◌, ◌<◌, ◌≡◌, true, false, not, List, ◌⊎◌, T, Float, length, get_or, Option, Some, None}
use Rattle.std.specs.Float.{Format, binary32, binary64}
use Rattle.std.specs.Float.Ieee.{nan_bits, is_nan, fits}
use Rattle.steps.specs.Said.{LengthAllowed}
use Rattle.lanes.specs.Lanes.{bits_of}
use Rattle.lanes.specs.declared.Kind.{Kind}
use Rattle.lanes.specs.declared.Kind.TheVariants as As
use Rattle.lanes.specs.declared.Shown.{Shown}
use Rattle.lanes.specs.declared.Shown.TheVariants.{Single, Double, Whole}

-- "whole at 8, 16, 32, 64 bits, single at 32, double at 64"
abbrev pub WidthFor : Kind → ℕ → Type 0
WidthFor As.Whole width = (width ≡ 8) ⊎ ((width ≡ 16) ⊎ ((width ≡ 32) ⊎ (width ≡ 64)))
WidthFor As.Single width = width ≡ 32
WidthFor As.Double width = width ≡ 64

-- there is such a lane: not "wrong VL, file length, register over 31, width or lane"
pub record There (vl : ℕ) (z : List ℕ) (register : ℕ) (kind : Kind) (width lane : ℕ) : Type 0 where
  pub allowed : LengthAllowed vl
  pub file : length z ≡ 32 * (vl / 8)
  pub named : register ≤ 31
  pub sized : WidthFor kind width
  pub counted : lane < vl / width

-- byte j of a lane: "32 registers of VL/8 bytes, register 0 first, lowest byte first"
abbrev pub lane_byte : ℕ → List ℕ → ℕ → ℕ → ℕ → ℕ → ℕ
lane_byte vl z register width lane j = get_or z (register * (vl / 8) + lane * (width / 8) + j) 0

-- "shown as a single, a double or a whole number, as asked"; a NaN, of which the language makes no float, as a whole number
abbrev pub AsFloat : Format → (Float → Shown) → Option Shown → Type 0
AsFloat f made r =
    (nan_bits f (bits_of r) ≡ false → (x : Float) × (r ≡ Some (made x))) × (nan_bits f (bits_of r) ≡ true → r ≡ Some (Whole (bits_of r)))

abbrev pub AsAsked : Kind → Option Shown → Type 0
AsAsked As.Whole r = r ≡ Some (Whole (bits_of r))
AsAsked As.Single r = AsFloat binary32 Single r
AsAsked As.Double r = AsFloat binary64 Double r

-- a value of its type: a float is one of its format
abbrev pub OfFormat : Option Shown → Type 0
OfFormat (Some (Single x)) = T (fits binary32 x)
OfFormat (Some (Double x)) = T (fits binary64 x)
OfFormat (Some (Whole n)) = Unit {0}
OfFormat None = Unit {0}

-- .. and no NaN
abbrev pub NoNan : Option Shown → Type 0
NoNan (Some (Single x)) = T (not (is_nan x))
NoNan (Some (Double x)) = T (not (is_nan x))
NoNan (Some (Whole n)) = Unit {0}
NoNan None = Unit {0}

-- the answer to "What does a lane hold?"
pub record LaneAnswer (vl : ℕ) (z : List ℕ) (register : ℕ) (kind : Kind) (width lane : ℕ) (r : Option Shown) : Type 0 where
  -- "Wrong ..: no such lane"
  pub none : (There vl z register kind width lane → ⊥) → r ≡ None
  pub asked : There vl z register kind width lane → AsAsked kind r
  -- "with exactly the lane's bits"
  pub bytes : There vl z register kind width lane → (j : ℕ) → j < width / 8 → bits_of r / 256 ^ j % 256 ≡ lane_byte vl z register width lane j
  pub below : There vl z register kind width lane → bits_of r < 2 ^ width
  -- what is shown as a single is a single, and what is shown as a double a double
  pub format : OfFormat r
