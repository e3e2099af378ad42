-- Document 01's words leave nothing open: of any input there is one answer, and it is the one that `show` promises.
use mathlib.Core.Path.{◌≡◌, sym, ap, ◌∙◌}
use mathlib.Core.List.{List}
use mathlib.Core.Logic.{◌↔◌, ⊎_elim}
use Prim.Native.Nat.{ℕ, ◌/◌, ◌%◌, ◌^◌, ◌<◌}
use native.Mathlib.Nat.{zero-add}
use Rattle.std.specs.Prelude.{Option, Some}
use lib.Dec.{T}
use lib.Ieee.{Float, Format, binary32, binary64, of_bits, nan_bits, fits}
use lib.Ieee.Bits.{of_bits-to_bits}
use lib.ListN.{length}
use Rattle.ground.specs.Lists.{little}
use Rattle.ground.proofs.Laws.{only_one, true_or_false, never, little_self, little_cong, pow_bytes}
use Rattle.lanes.specs.Lanes.{lane_there, float_case, bits_of, ShowPromise}
use Rattle.lanes.specs.Said.{There, lane_byte, AsFloat, AsAsked, OfFormat, LaneAnswer}
use Rattle.lanes.specs.declared.Kind.{Kind}
use Rattle.lanes.specs.declared.Kind.TheVariants as As
use Rattle.lanes.specs.declared.Shown.{Shown}
use Rattle.lanes.specs.declared.Shown.TheVariants.{Whole}
use Rattle.lanes.proofs.Patterns.{case_bits}
use Rattle.lanes.proofs.Tests.{there_exactly}
use Rattle.lanes.proofs.Places.{bytes}
use Rattle.lanes.proofs.Windows.{window_answers}

format_float : (f : Format) (x : Float) → OfFormat (Some (float_case f x)) → T (fits f x)
format_float binary32 x h = h
format_float binary64 x h = h

-- a float is that of its bits
made_of : (f : Format) (r : Option Shown) (x : Float) → OfFormat r → r ≡ Some (float_case f x) → r ≡ Some (float_case f (of_bits f (bits_of r)))
made_of f r x h e =
    let back = of_bits-to_bits f x (format_float f x (rw e at h)) in
    e ∙ ap (λ (y : Float). Some (float_case f y)) (sym back ∙ ap (of_bits f) (sym (ap bits_of e ∙ case_bits f x)))

-- two results with the same bits, shown as asked, are one
module _ (r s : Option Shown) (p : OfFormat r) (q : OfFormat s) (same : bits_of r ≡ bits_of s) where
  alike_float : (f : Format) → AsFloat f (float_case f) r → AsFloat f (float_case f) s → r ≡ s
  alike_float f a b =
      ⊎_elim
      (λ e. a.1 e ∙ ap (λ (n : ℕ). Some (Whole n)) same ∙ sym (b.1 (rw same at e)))
      (λ e.
      let there = b.0 (rw same at e) in
      made_of f r (a.0 e).0 p (a.0 e).1 ∙ ap (λ (n : ℕ). Some (float_case f (of_bits f n))) same ∙ sym (made_of f s there.0 q there.1))
      (true_or_false (nan_bits f (bits_of r)))

  alike : (kind : Kind) → AsAsked kind r → AsAsked kind s → r ≡ s
  alike As.Whole a b = a ∙ ap (λ (n : ℕ). Some (Whole n)) same ∙ sym b
  alike As.Single a b = alike_float binary32 a b
  alike As.Double a b = alike_float binary64 a b

module _ (vl : ℕ) (z : List ℕ) (register : ℕ) (kind : Kind) (width lane : ℕ) where
  bits_of_lem : (r : Option Shown) → LaneAnswer vl z register kind width lane r → There vl z register kind width lane
      → bits_of r ≡ little (lane_byte vl z register width lane) 0 (width / 8)
  bits_of_lem r a t =
      let room : bits_of r < 256 ^ (width / 8) = rw (pow_bytes, (bytes t).whole) (a.below t) in
      sym (little_self (bits_of r) (width / 8) room)
      ∙ little_cong (λ j. bits_of r / 256 ^ j % 256) (lane_byte vl z register width lane) 0 0 (width / 8) (λ j l. rw zero-add (a.bytes t j l))

  pub determined : (r s : Option Shown) → LaneAnswer vl z register kind width lane r → LaneAnswer vl z register kind width lane s → r ≡ s
  determined r s a b =
      ⊎_elim
      (λ h.
      let t = (there_exactly vl z register kind width lane).0 h in
      alike r s a.format b.format (only_one (bits_of_lem r a t) (bits_of_lem s b t)) kind (a.asked t) (b.asked t))
      (λ h.
      let none : There vl z register kind width lane → ⊥ = λ t. never ((there_exactly vl z register kind width lane).1 t) h in
      only_one (a.none none) (b.none none))
      (true_or_false (lane_there vl (length z) register kind width lane))

  -- what `show` promises is the answer, and nothing else is
  pub answer_exactly : (r : Option Shown) → ShowPromise vl z register kind width lane r → (s : Option Shown) → LaneAnswer vl z register kind width lane s ↔ (s ≡ r)
  answer_exactly r p s =
      (λ a. determined s r a (window_answers vl z register kind width lane r p), λ e. rw e (window_answers vl z register kind width lane r p))
