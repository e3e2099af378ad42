-- Every plan of a word is shaped so, at every vector length that is accepted.
use Rattle.std.specs.Prelude.{if◌then◌else◌}
use mathlib.Core.Path.{◌≡◌, refl, ap}
use mathlib.Core.Bool.{Bool, true, false, ◌&&◌}
use mathlib.Core.List.{List}
use mathlib.Core.Logic.{◌⊎◌, inl, inr}
use Prim.Native.Nat.{ℕ, ◌*◌, ◌/◌, ◌%◌, ◌≤◌, ◌<◌}
use native.Mathlib.Nat.{one-mul, mul_assoc, mul-le-mul_right, dvd-mul_right, pos_of_dvd_of_pos}
use native.Mathlib.Omega.{arith}
use borrow.Author.Tests.{ltb-false}
use lib.Dec.{ltb, lit≤}
use Rattle.ground.specs.Sizes.{bytes_of}
use Rattle.ground.proofs.Sizes.{whole_lanes, register_lanes}
use Rattle.words.specs.declared.Dtype.{Dtype}
use Rattle.words.specs.declared.Insn.{Insn}
use Rattle.words.specs.declared.Shape.{Shape}
use Rattle.words.specs.declared.Shape.TheVariants.{Replicate, ByElement, Contiguous, Block}
use Rattle.words.specs.Ranges.{ShapeInRange}
use Rattle.steps.specs.Insns.{Ok}
use Rattle.steps.specs.Terms.{block_bytes}
use Rattle.steps.specs.Plans.{lanes_of, spread_of, plan_with}
use Rattle.steps.specs.Said.{LengthAllowed}
use Rattle.steps.specs.Step.{is_wide, planned_of}
use Rattle.steps.specs.declared.Plan.{Plan}
use Rattle.steps.specs.declared.Settings.{Settings}
use Rattle.steps.proofs.Actives.{block_bytes_lem}
use Rattle.plans.specs.Inside.{Shaped}
use Rattle.plans.proofs.Prepares.{planned_each}

-- a factor of some is some
pub factor_some : (k w n : ℕ) → k * w ≡ n → 0 < n → 0 < k
factor_some k w n e h = pos_of_dvd_of_pos (rw e at (dvd-mul_right k w)) h

-- LD1R to LD4R fill 8 or 16 bytes of a register
replicates : (b : Bool)
    → ((◌≡◌ {A = ℕ} (if b then 16 else 8) 8) ⊎ (◌≡◌ {A = ℕ} (if b then 16 else 8) 16)) × ((if b then 16 else 8) ≤ 16)
    × (◌≡◌ {A = ℕ} ((if b then 16 else 8) % 8) 0)
replicates true = (inr refl, lit≤ tt, refl)
replicates false = (inl refl, lit≤ tt, refl)

module _ (vl : ℕ) (allowed : LengthAllowed vl) where
  -- a block goes into a register, LD1RO's into one of 256 bits
  block_in : (wide : Bool) → (wide && ltb vl 256) ≡ false
      → (vl / (8 * block_bytes wide) * block_bytes wide ≤ vl / 8) × (1 ≤ vl / (8 * block_bytes wide))
  block_in true long = let l = ltb-false vl 256 long in (omega arith, omega arith)
  block_in false long = (omega arith, omega arith)

  module _ (x : List ℕ) (i : Insn) where
    pub plan_shaped : (s : Shape) → ShapeInRange i s → (is_wide s && ltb vl 256) ≡ false → Shaped (plan_with i (spread_of vl x i s)) (vl / 8)
    unfolding spread_of
    plan_shaped (Replicate q back) h long =
        let r = replicates q in
        let n : ℕ = if q then 16 else 8 in
        let e = whole_lanes i.element.lane n r.2 in
        record {
          room = rw e (omega (arith, r.1));
          shape = (rw e r.0, ap (λ (d : Dtype). d.lane) h.1, ap (λ (d : Dtype). d.signed) h.1);
        }
    plan_shaped (ByElement imm6) h long =
        let e = register_lanes i.element.lane vl allowed.multiple in
        let some = factor_some (lanes_of vl i.element.lane) (bytes_of i.element.lane) (vl / 8) e (omega arith) in
        record { room = rw e (omega arith); shape = (refl, some, rw e (omega arith)) }
    plan_shaped (Contiguous offset) h long =
        let e = register_lanes i.element.lane vl allowed.multiple in
        record { room = rw e (omega arith); shape = (omega arith, rw e (omega arith)) }
    plan_shaped (Block wide offset) h long =
        let b = block_in wide long in
        let k = block_bytes wide / bytes_of i.element.lane in
        let e = whole_lanes i.element.lane (block_bytes wide) (block_bytes_lem wide).0 in
        record {
          room = rw (mul_assoc, e) b.0;
          shape = (omega (arith, one-mul k, mul-le-mul_right k b.1), rw e (block_bytes_lem wide).0);
        }

pub planned_shaped : (s : Settings) (x : List ℕ) → LengthAllowed s.vl → (w : ℕ) (p : Plan) → planned_of s x w ≡ Ok p → Shaped p (s.vl / 8)
planned_shaped s x allowed =
    planned_each s x (λ p. Shaped p (s.vl / 8)) (λ i h long. plan_shaped s.vl allowed x i i.shape h.shape long)
