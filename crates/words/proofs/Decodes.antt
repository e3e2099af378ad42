-- Which words decode, and as what: a word is outside exactly if it is laid out as no row of the scope of work is, and it is undefined, or an
-- instruction, exactly if it is laid out as a row that says so of its numbers.
use Prim.Native.Nat.{ℕ, ◌^◌, ◌<◌}
use mathlib.Core.Path.{◌≡◌, refl, sym, ap, subst, ◌∙◌}
use mathlib.Core.Logic.{◌↔◌}
use Rattle.ground.proofs.Laws.{if_cases}
use Rattle.words.specs.Families.{read_of}
use Rattle.words.specs.Layouts.{Family, undefined_in, insn_of, means_of, LaidOut, Means}
use Rattle.words.specs.Insns.{Insn, Ok, Err, Decoded, Outside, Undefined}
use Rattle.words.proofs.Layouts.{reads}
use Rattle.words.proofs.Written.{written_out}

abbrev Inside : Decoded → Type 0
Inside (Ok i) = Unit {0}
Inside (Err Outside) = ⊥
Inside (Err Undefined) = Unit {0}

-- no row says outside
inside : (f : Family) → Inside (means_of f)
inside f = if_cases Inside (undefined_in f) (Err Undefined) (Ok (insn_of f)) (λ _. tt) (λ _. tt)

read_written : (w : ℕ) (x : LaidOut w) → read_of w ≡ means_of x.0
read_written w x = ap read_of x.2 ∙ reads x.0 x.1

-- what a word is laid out as it is read as, of however many bits the number is
pub means_read : (w : ℕ) (d : Decoded) → Means w d → read_of w ≡ d
means_read w d y = read_written w y.0 ∙ y.1

module _ (w : ℕ) (small : w < 2 ^ 32) where
  pub outside_exactly : (read_of w ≡ Err Outside) ↔ (LaidOut w → ⊥)
  outside_exactly = (λ e x. subst Inside (sym (read_written w x) ∙ e) (inside x.0), go (read_of w) refl)
    where
      go : (d : Decoded) → read_of w ≡ d → (LaidOut w → ⊥) → read_of w ≡ Err Outside
      go (Err Outside) e h = e
      go (Err Undefined) e h = absurd (h (written_out w small (λ o. subst Inside (sym e ∙ o) tt)))
      go (Ok i) e h = absurd (h (written_out w small (λ o. subst Inside (sym e ∙ o) tt)))

  pub decodes_exactly : (d : Decoded) → (d ≡ Err Outside → ⊥) → (read_of w ≡ d) ↔ Means w d
  decodes_exactly d h = (λ e. let x = written_out w small (λ o. h (sym e ∙ o)) in (x, sym (read_written w x) ∙ e), means_read w d)

  -- the other way round, of an undefined word and of an instruction
  pub undefined_means : read_of w ≡ Err Undefined → Means w (Err Undefined)
  undefined_means = (decodes_exactly (Err Undefined) (λ o. subst Inside o tt)).0

  pub insn_means : (i : Insn) → read_of w ≡ Ok i → Means w (Ok i)
  insn_means i = (decodes_exactly (Ok i) (λ o. subst Inside o tt)).0
