-- What is claimed of the lane window.
use Prim.Native.Nat.{◌%◌, ◌/◌, ◌<◌, ◌^◌, ℕ}
use Rattle.ground.specs.Lists.{EachBelow, little}
use Rattle.lanes.specs.Lanes.{ShowPromise, bits_of}
use Rattle.lanes.specs.Said.{AsAsked, LaneAnswer, NoNan, There, lane_byte}
use Rattle.lanes.specs.declared.Kind.{Kind}
use Rattle.lanes.specs.declared.Shown.{Shown}
use Rattle.std.specs.Prelude.{None, Option}
use mathlib.Core.List.{List}
use mathlib.Core.Logic.{◌↔◌}
use mathlib.Core.Path.{◌≡◌}

pub determined : (vl : ℕ) (z : List ℕ) (register : ℕ) (kind : Kind) (width lane : ℕ) → (r s : Option Shown) → LaneAnswer vl z register kind width lane r
    → LaneAnswer vl z register kind width lane s → r ≡ s
determined = Rattle.lanes.proofs.Determined.determined

-- what `show` promises is the answer, and nothing else is
pub answer_exactly : (vl : ℕ) (z : List ℕ) (register : ℕ) (kind : Kind) (width lane : ℕ) → (r : Option Shown) → ShowPromise vl z register kind width lane r
    → (s : Option Shown) → LaneAnswer vl z register kind width lane s ↔ (s ≡ r)
answer_exactly = Rattle.lanes.proofs.Determined.answer_exactly

-- any two results that meet the promise are one
pub show_unique : (vl : ℕ) (z : List ℕ) (register : ℕ) (kind : Kind) (width lane : ℕ) → (r s : Option Shown) → ShowPromise vl z register kind width lane r
    → ShowPromise vl z register kind width lane s → r ≡ s
show_unique = Rattle.lanes.proofs.Windows.show_unique

-- .. and of any file of bytes there is one
pub show_met : (vl : ℕ) (z : List ℕ) (register : ℕ) (kind : Kind) (width lane : ℕ) → EachBelow 256 z → (r : Option Shown)
    × ShowPromise vl z register kind width lane r
show_met = Rattle.lanes.proofs.Windows.show_met

-- "no such lane", exactly when it says so
pub none_exactly : (vl : ℕ) (z : List ℕ) (register : ℕ) (kind : Kind) (width lane : ℕ) (r : Option Shown) (p : ShowPromise vl z register kind width lane r)
    → (r ≡ None) ↔ (There vl z register kind width lane → ⊥)
none_exactly = Rattle.lanes.proofs.Windows.none_exactly

-- "with exactly the lane's bits": the number of its bytes, each byte, and no other bit
pub bits_exactly : (vl : ℕ) (z : List ℕ) (register : ℕ) (kind : Kind) (width lane : ℕ) (r : Option Shown) (p : ShowPromise vl z register kind width lane r)
    (t : There vl z register kind width lane) → bits_of r ≡ little (lane_byte vl z register width lane) 0 (width / 8)
bits_exactly = Rattle.lanes.proofs.Windows.bits_exactly

pub bits_below : (vl : ℕ) (z : List ℕ) (register : ℕ) (kind : Kind) (width lane : ℕ) (r : Option Shown) (p : ShowPromise vl z register kind width lane r)
    (t : There vl z register kind width lane) → bits_of r < 2 ^ width
bits_below = Rattle.lanes.proofs.Windows.bits_below

pub bytes_exactly : (vl : ℕ) (z : List ℕ) (register : ℕ) (kind : Kind) (width lane : ℕ) (r : Option Shown) (p : ShowPromise vl z register kind width lane r)
    (t : There vl z register kind width lane) → (j : ℕ) → j < width / 8 → bits_of r / 256 ^ j % 256 ≡ lane_byte vl z register width lane j
bytes_exactly = Rattle.lanes.proofs.Windows.bytes_exactly

-- "as a single, a double or a whole number, as asked"
pub as_asked : (vl : ℕ) (z : List ℕ) (register : ℕ) (kind : Kind) (width lane : ℕ) (r : Option Shown) (p : ShowPromise vl z register kind width lane r)
    (t : There vl z register kind width lane) → AsAsked kind r
as_asked = Rattle.lanes.proofs.Windows.as_asked

pub window_answers : (vl : ℕ) (z : List ℕ) (register : ℕ) (kind : Kind) (width lane : ℕ) (r : Option Shown) (p : ShowPromise vl z register kind width lane r)
    → LaneAnswer vl z register kind width lane r
window_answers = Rattle.lanes.proofs.Windows.window_answers

-- a float that is shown is no NaN
pub no_nan : (vl : ℕ) (z : List ℕ) (register : ℕ) (kind : Kind) (width lane : ℕ) (r : Option Shown) (p : ShowPromise vl z register kind width lane r) → NoNan r
no_nan = Rattle.lanes.proofs.Windows.no_nan
