-- The other direction of the family table: a word that is read as anything but outside is laid out as one of the nine rows is. So no row
-- of `families` takes a word that the scope of work leaves outside.
use Prim.Native.Nat.{ℕ, ◌^◌, ◌<◌}
use mathlib.Core.Path.{◌≡◌, refl}
use mathlib.Core.Bool.{true, false}
use borrow.Author.Tests.{eqb-true}
use Rattle.ground.proofs.Laws.{and_left, and_right, ◌&◌, first_each}
use Rattle.ground.specs.Pieces.{widths}
use Rattle.ground.proofs.Pieces.{Placed, placed_fit, relaid, halves}
use Rattle.words.specs.Families.{families, choices, read_of}
use Rattle.words.specs.Layouts.{Family, layout, LaidOut}
use Rattle.words.specs.Layouts.Family.{replicate_keep, replicate_post, ld1r_element, ld1_immediate, ld1_scalar, block_immediate, block_scalar}
use Rattle.words.specs.Insns.{Err, Decoded, Outside}

-- what a row's tests say of the word
ruleset met = (eqb-true, and_left, and_right)

module _ (w : ℕ) (h : w < 2 ^ 32) where
  abbrev Found : Decoded → Type 0
  Found d = (d ≡ Err Outside → ⊥) → LaidOut w

  row : (f : Family) {d : Decoded} → w < 2 ^ widths (layout f) → Placed w (layout f) → Found d
  row f l q _ = (f, placed_fit (layout f) w q, relaid (layout f) w l q)

  pub written_out : (read_of w ≡ Err Outside → ⊥) → LaidOut w
  unfolding read_of families
  written_out =
      first_each Found (choices families w) (Err Outside)
      ((λ t.
      let a = halves w 23 6 1 0b0011010 (search met) in
      let b = halves w 14 5 2 0b0000011 (search met) in
      row (replicate_keep _ _ _ _ _ _ _ _) h
      (search met & refl & a.0 & a.1 & refl & refl & b.0 & b.1 & refl & refl & refl & refl & refl & tt))
      & (λ t.
      let a = halves w 23 6 1 0b0011011 (search met) in
      row (replicate_post _ _ _ _ _ _ _ _ _) h
      (search met & refl & a.0 & a.1 & refl & refl & refl & search met & refl & refl & refl & refl & refl & tt))
      & (λ t. row (ld1r_element _ _ _ _ _ _) h (search met & refl & search met & refl & search met & refl & refl & refl & refl & tt))
      & (λ t. row (ld1_immediate _ _ _ _ _) h (search met & refl & search met & refl & search met & refl & refl & refl & tt))
      & (λ t. row (ld1_scalar _ _ _ _ _) h (search met & refl & refl & search met & refl & refl & refl & tt))
      & (λ t.
      let a = halves w 20 2 1 0b000 (search met) in
      row (block_immediate false _ _ _ _ _) h (search met & refl & a.0 & a.1 & refl & search met & refl & refl & refl & tt))
      & (λ t. row (block_scalar false _ _ _ _ _) h (search met & refl & search met & refl & search met & refl & refl & refl & tt))
      & (λ t.
      let a = halves w 20 2 1 0b010 (search met) in
      row (block_immediate true _ _ _ _ _) h (search met & refl & a.0 & a.1 & refl & search met & refl & refl & refl & tt))
      & (λ t. row (block_scalar true _ _ _ _ _) h (search met & refl & search met & refl & search met & refl & refl & refl & tt))
      & tt)
      (λ o. absurd (o refl))
