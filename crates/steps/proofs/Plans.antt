-- Every plan of an instruction that was read is sound, at every vector length that is accepted.
use Rattle.std.specs.Prelude.{if◌then◌else◌}
use mathlib.Core.List.{List}
use Prim.Native.Nat.{ℕ, ◌*◌, ◌/◌, ◌≤◌, ◌<◌}
use native.Mathlib.Nat.{mul-le-mul_left, le-div_iff_mul-le, div-le_self, div-mul-le_self}
use native.Mathlib.Omega.{arith}
use lib.Dec.{lit<, lit≤}
use Rattle.ground.proofs.Laws.{if_cases}
use Rattle.ground.proofs.Sizes.{bytes_some, bytes_few}
use Rattle.ground.specs.Sizes.{bytes_of}
use Rattle.ground.specs.declared.Size.{Size}
use Rattle.steps.specs.Insns.{Insn, Shape, Replicate, ByElement, Contiguous, Block}
use Rattle.words.specs.Ranges.{ShapeInRange, InsnInRange}
use Rattle.steps.specs.Terms.{block_bytes}
use Rattle.steps.specs.Plans.{Spread, lanes_of, spread_of, plan_with}
use Rattle.steps.specs.Said.{LengthAllowed}
use Rattle.steps.specs.Inside.{GovernedIn, PlanInRange}
use Rattle.steps.proofs.Fields.{elements_few, lanes_most}
use Rattle.steps.proofs.Actives.{block_some}

-- a register has a lane of each size
lane_some : (s : Size) (vl : ℕ) → 128 ≤ vl → 0 < lanes_of vl s
lane_some s vl h = let some : 0 < 8 * bytes_of s = omega (arith, bytes_some s) in (le-div_iff_mul-le some).1 (omega (arith, bytes_few s))

-- whole blocks of n bytes are no more lanes of w bytes than the register has bytes
pub blocks_few : (vl n w : ℕ) → vl ≤ 2048 → vl / (8 * n) * (n / w) ≤ 256
blocks_few vl n w h = omega (arith, mul-le-mul_left (vl / (8 * n)) (div-le_self n w), div-mul-le_self vl (8 * n))

module _ (vl : ℕ) (x : List ℕ) (allowed : LengthAllowed vl) (i : Insn) (fine : InsnInRange i) where
  -- a plan is sound where what its shape decides is in range
  sound_with : (s : Spread) → 0 < s.elements → s.elements ≤ 256 → s.filled ≤ 256 → GovernedIn s.rule i.governing → s.consulted ≤ 256
      → PlanInRange (plan_with i s)
  sound_with s some elements_few filled governed consulted =
      record {
        some = some;
        elements = elements_few;
        filled = filled;
        narrower = fine.narrower;
        governed = governed;
        consulted = consulted;
        base = fine.base;
        target = fine.target;
      }

  pub plan_in_range : (s : Shape) → ShapeInRange i s → PlanInRange (plan_with i (spread_of vl x i s))
  unfolding spread_of
  plan_in_range (Replicate q back) h =
      let n : ℕ = if q then 16 else 8 in
      let b = if_cases (λ (n : ℕ). n ≤ 16) q 16 8 (λ _. lit≤ tt) (λ _. lit≤ tt) in
      sound_with (spread_of vl x i (Replicate q back)) fine.some (let k = fine.few in omega arith) (omega (arith, div-le_self n (bytes_of i.element.lane), b)) h.2 (lit≤ tt)
  plan_in_range (ByElement imm6) h =
      let n = lanes_most i.element.lane vl allowed.largest in
      sound_with (spread_of vl x i (ByElement imm6)) (lit< tt) (lit≤ tt) n h.1 n
  plan_in_range (Contiguous o) h =
      let n = lanes_most i.element.lane vl allowed.largest in
      sound_with (spread_of vl x i (Contiguous o)) (lane_some i.element.lane vl allowed.least) n n h.1 n
  plan_in_range (Block wide o) h =
      let k = elements_few vl x i (Block wide o) fine.few allowed.largest in
      let f = blocks_few vl (block_bytes wide) (bytes_of i.element.lane) allowed.largest in
      sound_with (spread_of vl x i (Block wide o)) (block_some wide i.element.lane) k f h.1 (lanes_most i.element.lane vl allowed.largest)
