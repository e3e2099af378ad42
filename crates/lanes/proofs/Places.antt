-- Where a lane that is there lies: within the file, so that its bytes make a number of its width.
use mathlib.Core.Bool.{true}
use mathlib.Core.List.{List}
use mathlib.Core.Path.{◌≡◌, ◌∙◌, ap}
use Prim.Native.Nat.{ℕ, ◌+◌, ◌/◌, ◌^◌, ◌≤◌, ◌<◌, min}
use native.Mathlib.Nat.{mul-le-mul_right}
use native.Mathlib.Omega.{arith}
use lib.ListN.{length, get_or}
use Rattle.ground.specs.Lists.{bytes_at, EachBelow}
use Rattle.ground.proofs.Sizes.{register_room}
use Rattle.ground.proofs.Turns.{in_bits}
use Rattle.lanes.specs.Lanes.{lane_there, lane_at}
use Rattle.lanes.specs.Said.{There}
use Rattle.lanes.specs.Inside.{Fitting}
use Rattle.lanes.specs.declared.Kind.{Kind}
use Rattle.lanes.proofs.Tests.{WholeBytes, width_exactly, in_bytes, there_exactly}

module _ {vl : ℕ} {z : List ℕ} {register : ℕ} {kind : Kind} {width lane : ℕ} (t : There vl z register kind width lane) where
  pub bytes : WholeBytes width
  bytes = in_bytes kind width t.sized

  within : lane_at vl register width lane + width / 8 ≤ length z
  within =
      let file = t.file in
      let below = register_room vl (width / 8) lane (rw bytes.whole t.counted) in
      omega (arith, below, mul-le-mul_right (vl / 8) t.named)

  pub in_word : lane_at vl register width lane < 2 ^ 64
  in_word =
      let file = t.file in
      let most = t.allowed.largest in
      let ends = within in
      omega arith

  pub lane_fitting : EachBelow 256 z → Fitting kind width (bytes_at z (lane_at vl register width lane) (width / 8))
  lane_fitting file = record {
    fits = (width_exactly kind width).1 t.sized;
    below = rw bytes.whole at (in_bits (λ j. get_or z (lane_at vl register width lane + j) 0) (λ j. file (lane_at vl register width lane + j)) (width / 8));
  }

  -- the number of its bytes, of which no lane has more than eight
  pub gathered : {at n : ℕ} → at ≡ lane_at vl register width lane → n ≡ bytes_at z at (min (width / 8) 8)
      → n ≡ bytes_at z (lane_at vl register width lane) (width / 8)
  gathered {at = at} e h =
      let few = bytes.word in
      let all : min (width / 8) 8 ≡ width / 8 = omega arith in
      h ∙ ap (bytes_at z at) all ∙ ap (λ (a : ℕ). bytes_at z a (width / 8)) e

pub reached : (vl : ℕ) (z : List ℕ) (register : ℕ) (kind : Kind) (width lane : ℕ) → lane_there vl (length z) register kind width lane ≡ true
    → lane_at vl register width lane < 2 ^ 64
reached vl z register kind width lane h = in_word ((there_exactly vl z register kind width lane).0 h)
