-- What the lane window shows, in document 01's words, over any result that meets its promise; and that the promise leaves nothing open and can be met.
use mathlib.Core.Path.{◌≡◌, refl, sym, ap, ◌∙◌}
use mathlib.Core.Bool.{not}
use Rattle.std.specs.Prelude.{Option, Some, None}
use mathlib.Core.List.{List}
use mathlib.Core.Logic.{◌↔◌}
use Prim.Native.Nat.{ℕ, ◌/◌, ◌%◌, ◌^◌, ◌<◌}
use native.Mathlib.Nat.{zero-add}
use native.Mathlib.Omega.{arith}
use lib.Dec.{T}
use lib.Ieee.{Float, Format, binary32, binary64, of_bits, nan_bits, is_nan, fits}
use lib.Ieee.Bits.{of_bits-fits, nan_bits_is}
use lib.ListN.{length}
use Rattle.ground.specs.Lists.{little, EachBelow}
use Rattle.ground.proofs.Laws.{only_one, off, if_cases, little_digit}
use Rattle.lanes.specs.Lanes.{lane_there, float_case, float_of, shown_as, shown_of, bits_of, ShowPromise}
use Rattle.lanes.specs.Said.{WidthFor, There, lane_byte, AsFloat, AsAsked, OfFormat, NoNan, LaneAnswer}
use Rattle.lanes.specs.declared.Kind.{Kind}
use Rattle.lanes.specs.declared.Kind.TheVariants as As
use Rattle.lanes.specs.declared.Shown.{Shown}
use Rattle.lanes.specs.declared.Shown.TheVariants.{Whole}
use Rattle.lanes.proofs.Patterns.{of_nan, of_float, bits_kept}
use Rattle.lanes.proofs.Tests.{there_exactly}
use Rattle.lanes.proofs.Places.{bytes, lane_fitting}

-- ---- bits that are shown, whatever lane they are of
some_of : (f : Format) (n : ℕ) → float_of f n ≡ None → ⊥
unfolding float_of
some_of f n =
    if_cases (λ s. s ≡ None → ⊥) (nan_bits f n) (Some (Whole n)) (Some (float_case f (of_bits f n))) (λ _. λ e. cc) (λ _. λ e. cc)

some : (kind : Kind) (n : ℕ) → shown_as kind n ≡ None → ⊥
some As.Whole n e = cc
some As.Single n e = some_of binary32 n e
some As.Double n e = some_of binary64 n e

kept : (kind : Kind) (width n : ℕ) → WidthFor kind width → n < 2 ^ width → bits_of (shown_as kind n) ≡ n
unfolding bits_of
kept As.Whole width n e h = refl
kept As.Single width n e h = bits_kept binary32 n (rw e at h)
kept As.Double width n e h = bits_kept binary64 n (rw e at h)

float_asked : (f : Format) (n : ℕ) → bits_of (float_of f n) ≡ n → AsFloat f (float_case f) (float_of f n)
float_asked f n k = (λ e. (of_bits f n, of_float f n (rw k at e)), λ e. rw k (of_nan f n (rw k at e)))

told_asked : (kind : Kind) (n : ℕ) → bits_of (shown_as kind n) ≡ n → AsAsked kind (shown_as kind n)
told_asked As.Whole n k = ap (λ (m : ℕ). Some (Whole m)) (sym k)
told_asked As.Single n k = float_asked binary32 n k
told_asked As.Double n k = float_asked binary64 n k

made_format : (f : Format) (x : Float) → T (fits f x) → OfFormat (Some (float_case f x))
made_format binary32 x h = h
made_format binary64 x h = h

float_format : (f : Format) (n : ℕ) → OfFormat (float_of f n)
unfolding float_of
float_format f n = if_cases OfFormat (nan_bits f n) (Some (Whole n)) (Some (float_case f (of_bits f n))) (λ _. tt) (λ _. made_format f (of_bits f n) (of_bits-fits f n))

told_format : (kind : Kind) (n : ℕ) → OfFormat (shown_as kind n)
told_format As.Whole n = tt
told_format As.Single n = float_format binary32 n
told_format As.Double n = float_format binary64 n

made_no_nan : (f : Format) (x : Float) → T (not (is_nan x)) → NoNan (Some (float_case f x))
made_no_nan binary32 x h = h
made_no_nan binary64 x h = h

float_no_nan : (f : Format) (n : ℕ) → NoNan (float_of f n)
unfolding float_of
float_no_nan f n =
    if_cases NoNan (nan_bits f n) (Some (Whole n)) (Some (float_case f (of_bits f n))) (λ _. tt) (λ e. made_no_nan f (of_bits f n) (rw (← nan_bits_is f n, e) tt))

told_no_nan : (kind : Kind) (n : ℕ) → NoNan (shown_as kind n)
told_no_nan As.Whole n = tt
told_no_nan As.Single n = float_no_nan binary32 n
told_no_nan As.Double n = float_no_nan binary64 n

-- ---- the window's answer
module _ (vl : ℕ) (z : List ℕ) (register : ℕ) (kind : Kind) (width lane : ℕ) where
  -- the number of the lane's bytes, lowest first
  abbrev bits : ℕ
  bits = little (lane_byte vl z register width lane) 0 (width / 8)

  shown_there : There vl z register kind width lane → shown_of vl z register kind width lane ≡ shown_as kind bits
  unfolding shown_of
  shown_there t = rw ((there_exactly vl z register kind width lane).1 t)

  pub shown_none : (There vl z register kind width lane → ⊥) → shown_of vl z register kind width lane ≡ None
  unfolding shown_of
  shown_none n = rw (off (lane_there vl (length z) register kind width lane) (λ h. n ((there_exactly vl z register kind width lane).0 h)))

  -- a number that is too large for a register or a width
  pub no_register : 31 < register → shown_of vl z register kind width lane ≡ None
  no_register h = shown_none (λ t. let named = t.named in omega arith)

  pub no_width : 64 < width → shown_of vl z register kind width lane ≡ None
  no_width h = shown_none (λ t. let b = bytes t in omega (arith, b.word, b.whole))

  -- any two results that meet the promise are one
  pub show_unique : (r s : Option Shown) → ShowPromise vl z register kind width lane r → ShowPromise vl z register kind width lane s → r ≡ s
  show_unique r s p q = only_one p.shown q.shown

  -- .. and of any file of bytes there is one
  pub show_met : EachBelow 256 z → (r : Option Shown) × ShowPromise vl z register kind width lane r
  show_met file = (shown_of vl z register kind width lane, record { came = file; shown = refl })

  module _ (r : Option Shown) (p : ShowPromise vl z register kind width lane r) where
    -- "no such lane", exactly when it says so
    pub none_exactly : (r ≡ None) ↔ (There vl z register kind width lane → ⊥)
    none_exactly = (λ e t. some kind bits (sym (p.shown ∙ shown_there t) ∙ e), λ n. p.shown ∙ shown_none n)

    module _ (t : There vl z register kind width lane) where
      below : bits < 2 ^ width
      below = (lane_fitting t p.came).below

      -- "with exactly the lane's bits": the number of its bytes, each byte, and no other bit
      pub bits_exactly : bits_of r ≡ little (lane_byte vl z register width lane) 0 (width / 8)
      bits_exactly = rw (p.shown ∙ shown_there t) (kept kind width bits t.sized below)

      pub bits_below : bits_of r < 2 ^ width
      bits_below = rw bits_exactly below

      pub bytes_exactly : (j : ℕ) → j < width / 8 → bits_of r / 256 ^ j % 256 ≡ lane_byte vl z register width lane j
      bytes_exactly j l =
          rw bits_exactly
          (rw zero-add at (little_digit (lane_byte vl z register width lane) 0 (width / 8) (λ k _. p.came _) j l))

      -- "as a single, a double or a whole number, as asked"
      pub as_asked : AsAsked kind r
      as_asked = rw (p.shown ∙ shown_there t) (told_asked kind bits (kept kind width bits t.sized below))

    -- a single or a double that is shown is one
    pub of_format : OfFormat r
    unfolding shown_of
    of_format =
        rw p.shown
        (if_cases OfFormat (lane_there vl (length z) register kind width lane) (shown_as kind bits) None (λ _. told_format kind bits) (λ _. tt))

    -- .. and no NaN, which comes as a whole number
    pub no_nan : NoNan r
    unfolding shown_of
    no_nan =
        rw p.shown
        (if_cases NoNan (lane_there vl (length z) register kind width lane) (shown_as kind bits) None (λ _. told_no_nan kind bits) (λ _. tt))

    pub window_answers : LaneAnswer vl z register kind width lane r
    window_answers = record { none = none_exactly.1; asked = as_asked; bytes = bytes_exactly; below = bits_below; format = of_format }
