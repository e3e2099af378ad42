-- LD2R to LD4R came in the two rows of LD1R, which became wider: every word that document 01's own table does not leave outside is read as that has it.
use Rattle.std.specs.Prelude.{if◌then◌else◌}
use Prim.Native.Nat.{ℕ, zero, suc}
use native.Mathlib.Omega.{arith}
use mathlib.Core.Path.{◌≡◌, refl, sym, ap, ◌∙◌}
use mathlib.Core.Bool.{◌||◌}
use mathlib.Core.List.{List, [], ◌∷◌}
use lib.Dec.{eqb, lit<}
use lib.ListN.{take, drop}
use lib.Seq.{get_or-take}
use borrow.Author.Tests.{eqb-true, eq-eqb}
use Rattle.ground.specs.Pieces.{bits}
use Rattle.ground.specs.Sizes.{size_of}
use Rattle.ground.proofs.Laws.{all_of_lem}
use Rattle.ground.proofs.Pieces.{halves}
use Rattle.words.specs.Dtypes.{plain_of}
use Rattle.words.specs.Families.{bits_are, tests, fits, FamilyRow, ◌⇨◌, replicate_of, families, read_by, read_of}
use Rattle.words.specs.Insns.{insn_with, Replicate, Option, Some, None, Ok, Err, Decoded, Outside, Undefined}
use Rattle.words.proofs.Apart.{row_at, Says, families_apart, still}

-- LD1R as document 01 has it: L=0 or S=1 is undefined, and else one register is loaded
abbrev pub ld1r_of : Option ℕ → ℕ → Decoded
ld1r_of back w =
    if eqb (bits w 22 22) 0 || eqb (bits w 12 12) 1 then Err Undefined
    else Ok (insn_with (plain_of (size_of (bits w 11 10))) None (bits w 9 5) (bits w 4 0) 1 (Replicate (eqb (bits w 30 30) 1) back))

-- its two rows, with R 0 and opcode 110, and the seven others, which stand behind them; rows that came later stand behind these
abbrev pub first_table : List FamilyRow
first_table =
    ((bits_are 31 31 0b0 ∷ bits_are 29 23 0b0011010 ∷ bits_are 21 13 0b000000110 ∷ []) ⇨ ld1r_of None)
    ∷ ((bits_are 31 31 0b0 ∷ bits_are 29 23 0b0011011 ∷ bits_are 21 21 0b0 ∷ bits_are 15 13 0b110 ∷ []) ⇨ (λ w. ld1r_of (Some (bits w 20 16)) w))
    ∷ take 7 (drop 2 families)

module _ (w : ℕ) where
  -- with both bits 0, one register is counted
  one : (back : Option ℕ) → bits w 13 13 ≡ 0 → bits w 21 21 ≡ 0 → replicate_of back w ≡ ld1r_of back w
  one back o r = rw (o, r)

  -- each of its rows is in the table, wider or as it was
  said : Says w first_table families
  unfolding families
  said zero h =
      let t = all_of_lem (tests w (row_at first_table 0).bits) h.fitting in
      let a = halves w 13 8 1 _ (eqb-true _ _ (t 2)) in
      let b = halves w 14 1 7 _ a.0 in
      (0, record { there = lit< tt; fitting = rw (t 0, t 1, eq-eqb _ 0b0000011 b.1) }, one None a.1 b.0)
  said (suc zero) h =
      let t = all_of_lem (tests w (row_at first_table 1).bits) h.fitting in
      let a = halves w 13 2 1 _ (eqb-true _ _ (t 3)) in
      (1, record { there = lit< tt; fitting = rw (t 0, t 1, eq-eqb _ 0b11 a.0) }, one (Some _) a.1 (eqb-true _ _ (t 2)))
  said (suc (suc k)) h =
      let l = h.there in
      let same : row_at first_table (suc (suc k)) ≡ row_at families (suc (suc k)) = get_or-take 7 (drop 2 families) k _ (omega arith) in (
        suc (suc k),
        record { there = omega arith; fitting = ap (λ (r : FamilyRow). fits w r.bits) (sym same) ∙ h.fitting },
        ap (λ (r : FamilyRow). r.means w) (sym same),
      )

-- What document 01's table does not leave outside is read as it has it.
pub first_settled : (w : ℕ) → (read_by first_table w ≡ Err Outside → ⊥) → read_of w ≡ read_by first_table w
unfolding read_of
first_settled w inside = still w first_table families families_apart (said w) inside

-- There are such words: 4D40D000, an LD1R with S=1, is one.
pub first_takes : read_by first_table 0x4D40D000 ≡ Err Undefined
unfolding families
first_takes = refl
