-- The family table from the writing side: for every number that fits its field, the word that a row of the scope of work lays out reads as
-- that row and with those numbers. A fixed bit, a place or a field of `families` that is wrong is refused by the clause of its row, which names
-- no other; a fixed bit that is left out, by `written_out`, and by `families_apart` where another row then fits too.
use Prim.Native.Nat.{ℕ, zero, suc, ◌+◌, ◌*◌, ◌<◌}
use mathlib.Core.Path.{◌≡◌, refl, ◌∙◌}
use mathlib.Core.Bool.{true, false}
use native.Mathlib.Omega.{arith}
use lib.Dec.{lit<}
use Rattle.ground.specs.declared.Size.{Size}
use Rattle.ground.specs.Pieces.{bits, word, FitWidths}
use Rattle.ground.proofs.Pieces.{Placed, laid, joined}
use Rattle.words.specs.Dtypes.{plain_of}
use Rattle.words.specs.Insns.{insn_with, Shape, Option, Dtype}
use Rattle.words.specs.Families.{registers_of, scalar_of, families, read_of}
use Rattle.words.specs.Layouts.{Family, layout, registers_by, means_of}
use Rattle.words.specs.Layouts.Family.{replicate_keep, replicate_post, ld1r_element, ld1_immediate, ld1_scalar, block_immediate, block_scalar}
use Rattle.words.proofs.Apart.{row_reads}

-- the parts of an instruction are where their names say
pub insn_parts : (d : Dtype) (g : Option ℕ) (rn rt n : ℕ) (s : Shape) → let i = insn_with d g rn rt n s in
    (i.element ≡ d) × (i.governing ≡ g) × (i.base ≡ rn) × (i.target ≡ rt) × (i.registers ≡ n) × (i.shape ≡ s)
insn_parts d g rn rt n s = (refl, refl, refl, refl, refl, refl)

-- .. and of an element that is as wide in memory as in its lane
pub plain_parts : (s : Size) → ((plain_of s).memory ≡ s) × ((plain_of s).lane ≡ s) × ((plain_of s).signed ≡ false)
plain_parts s = (refl, refl, refl)

-- document 02's table says how many registers as page 004's formula does
counts : (o r : ℕ) → o < 2 → r < 2 → o * 2 + r + 1 ≡ registers_by o r
counts zero zero _ _ = refl
counts zero (suc zero) _ _ = refl
counts (suc zero) zero _ _ = refl
counts (suc zero) (suc zero) _ _ = refl
counts zero (suc (suc r)) _ h = absurd (omega arith)
counts (suc zero) (suc (suc r)) _ h = absurd (omega arith)
counts (suc (suc o)) r h _ = absurd (omega arith)

counted : (w : ℕ) → registers_of w ≡ registers_by (bits w 13 13) (bits w 21 21)
counted w = counts (bits w 13 13) (bits w 21 21) (omega arith) (omega arith)

pub reads : (f : Family) → FitWidths (layout f) → read_of (word (layout f)) ≡ means_of f
unfolding families scalar_of
reads f fit = placed f (word (layout f)) (laid (layout f) fit)
  where
    placed : (f : Family) (w : ℕ) → Placed w (layout f) → read_of w ≡ means_of f
    placed (replicate_keep q l r o s size rn rt) w p = row_reads w 0 (lit< tt) (cc (joined w 23 6 1, joined w 14 5 2)) ∙ cc (counted w)
    placed (replicate_post q l r rm o s size rn rt) w p = row_reads w 1 (lit< tt) (cc (joined w 23 6 1)) ∙ cc (counted w)
    placed (ld1r_element dh imm6 dl pg rn zt) w p = row_reads w 2 (lit< tt) (cc) ∙ cc
    placed (ld1_immediate dtype imm4 pg rn zt) w p = row_reads w 3 (lit< tt) (cc) ∙ cc
    placed (ld1_scalar dtype rm pg rn zt) w p = row_reads w 4 (lit< tt) (cc) ∙ cc
    placed (block_immediate false msz imm4 pg rn zt) w p = row_reads w 5 (lit< tt) (cc (joined w 20 2 1)) ∙ cc
    placed (block_scalar false msz rm pg rn zt) w p = row_reads w 6 (lit< tt) (cc) ∙ cc
    placed (block_immediate true msz imm4 pg rn zt) w p = row_reads w 7 (lit< tt) (cc (joined w 20 2 1)) ∙ cc
    placed (block_scalar true msz rm pg rn zt) w p = row_reads w 8 (lit< tt) (cc) ∙ cc
