-- Every field of a load that was read is in range, so that a caller may index its registers and tables by them.
use Prim.Native.Nat.{ℕ, ◌+◌, ◌*◌, ◌≤◌}
use mathlib.Core.Path.{refl, subst}
use mathlib.Core.Bool.{Bool, ◌||◌}
use native.Mathlib.Omega.{arith}
use lib.Dec.{eqb}
use borrow.Author.Tests.{eqb-false}
use Rattle.ground.proofs.Laws.{if_cases, first_each, ◌&◌}
use Rattle.ground.specs.Sizes.{bytes_of, size_of}
use Rattle.ground.specs.Pieces.{bits}
use Rattle.words.specs.Dtypes.{plain_of}
use Rattle.words.specs.Insns.{insn_with, Insn, Shape, Replicate, ByElement, Contiguous, Block}
use Rattle.words.specs.Insns.{Dtype, Offset, Option, Some, None, Ok, Err, Outside, Undefined}
use Rattle.words.specs.Families.{registers_of, replicate_of, sve_of, by_element_of, contiguous_of, block_of, immediate, register, scalar_of, families, choices, read_of}
use Rattle.words.specs.Ranges.{OffsetInRange, BackInRange, Governed, ShapeInRange, InsnInRange, InRange}
use Rattle.words.specs.Layouts.{Means}
use Rattle.words.proofs.DtypeRule.{never_wider}
use Rattle.words.proofs.Decodes.{means_read}

module _ (w : ℕ) where
  replicate_in : (back : Option ℕ) → BackInRange back → InRange (replicate_of back w)
  replicate_in back h =
      if_cases InRange (eqb (bits w 22 22) 0 || eqb (bits w 12 12) 1) (Err Undefined)
      (Ok (insn_with (plain_of (size_of (bits w 11 10))) None (bits w 9 5) (bits w 4 0) (registers_of w) (Replicate (eqb (bits w 30 30) 1) back))) (λ _. tt)
      (λ _. record { narrower = omega arith; base = omega arith; target = omega arith; some = omega arith; few = omega arith; shape = (h, refl, refl) })

  post_in : InRange (replicate_of (Some (bits w 20 16)) w)
  post_in = replicate_in (Some (bits w 20 16)) (omega arith)

  sve_in : (d : Dtype) (s : Shape) → bytes_of d.memory ≤ bytes_of d.lane → ShapeInRange (sve_of w d s) s → InsnInRange (sve_of w d s)
  sve_in d s n h = record { narrower = n; base = omega arith; target = omega arith; some = omega arith; few = omega arith; shape = h }

  governed : Governed (Some (bits w 12 10))
  governed = omega arith

  element_in : InsnInRange (by_element_of w)
  element_in = sve_in _ (ByElement (bits w 21 16)) (never_wider (bits w 24 23 * 4 + bits w 14 13)) (omega arith, governed, (_, omega arith, refl), refl)

  immediate_in : OffsetInRange (immediate w)
  immediate_in = omega arith

  -- a scalar form that is defined has an Rm below 31
  scalar_in : (load : Insn) → (OffsetInRange (register w) → InsnInRange load) → InRange (scalar_of w load)
  unfolding scalar_of
  scalar_in load h =
      if_cases InRange (eqb (bits w 20 16) 31) (Err Undefined) (Ok load) (λ _. tt)
      (λ t. let ne = eqb-false (bits w 20 16) 31 t in h (omega arith))

  contiguous_in : (o : Offset) → OffsetInRange o → InsnInRange (contiguous_of o w)
  contiguous_in o h = sve_in _ (Contiguous o) (never_wider (bits w 24 21)) (h, governed, (_, omega arith, refl), refl)

  block_in : (wide : Bool) (o : Offset) → OffsetInRange o → InsnInRange (block_of wide o w)
  block_in wide o h = sve_in _ (Block wide o) (omega arith) (h, governed, refl, refl)

  -- one of these says it of each row
  ruleset here = (replicate_in, post_in, element_in, immediate_in, scalar_in, contiguous_in, block_in)

  pub in_range : InRange (read_of w)
  unfolding read_of families
  in_range =
      first_each InRange (choices families w) (Err Outside)
      (search here & search here & search here & search here & search here & search here & search here & search here & search here & tt) tt

-- .. and so is that of a word that is laid out as a load
pub means_in_range : (w : ℕ) (i : Insn) → Means w (Ok i) → InsnInRange i
means_in_range w i e = subst InRange (means_read w (Ok i) e) (in_range w)
