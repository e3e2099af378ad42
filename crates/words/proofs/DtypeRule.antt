-- The dtype table against a rule that does not look at it: dh and dl are the two sizes, and where dh is the larger, both are turned round and
-- the sign is extended. A row that is wrong, or two that are swapped, are refused by `dtype_table`. No two rows are the same.
use Rattle.std.specs.Prelude.{if◌then◌else◌}
use Prim.Native.Nat.{ℕ, ◌+◌, ◌-◌, ◌*◌, ◌/◌, ◌%◌, ◌≤◌, ◌<◌}
use mathlib.Core.Path.{◌≡◌, refl, sym, ap, ◌∙◌}
use mathlib.Core.List.{List}
use native.Mathlib.Nat.{zero-add}
use lib.Dec.{leb}
use lib.ListN.{length, get_or, get_or-eq_default}
use borrow.Author.Tests.{leb-true}
use Rattle.ground.proofs.Laws.{all_at, get_or_listed}
use Rattle.ground.specs.Lists.{listed}
use mathlib.Core.Bool.{true, false}
use Rattle.ground.specs.Sizes.{bytes_of, size_of}
use Rattle.ground.specs.declared.Size.{Size}
use Rattle.ground.specs.declared.Size.TheVariants.{B8, B16, B32, B64}
use Rattle.words.specs.Dtypes.{unsigned_row, dtypes, dtype_of}
use Rattle.words.specs.Insns.{Dtype}

abbrev pub rule_of : ℕ → Dtype
rule_of d =
    if leb (d / 4) (d % 4) then record { memory = size_of (d / 4); lane = size_of (d % 4); signed = false }
    else record { memory = size_of (3 - d / 4); lane = size_of (3 - d % 4); signed = true }

pub sixteen : length dtypes ≡ 16
unfolding dtypes
sixteen = refl

-- all sixteen rows, by computation
pub dtype_table : dtypes ≡ listed rule_of 0 16
unfolding dtypes size_of
dtype_table = refl

pub dtype_rule : (d : ℕ) → d < 16 → dtype_of d ≡ rule_of d
unfolding dtype_of
dtype_rule d h = rw (dtype_table, get_or_listed rule_of 0 16 d (unsigned_row B64 B64) h, zero-add d)

-- the row of an element, from its sizes and sign alone
abbrev log_of : Size → ℕ
log_of B8 = 0
log_of B16 = 1
log_of B32 = 2
log_of B64 = 3

abbrev pub row_of : Dtype → ℕ
row_of d = if d.signed then (3 - log_of d.memory) * 4 + (3 - log_of d.lane) else log_of d.memory * 4 + log_of d.lane

row_of_undoes_rule_of : listed (λ d. row_of (rule_of d)) 0 16 ≡ listed (λ d. d) 0 16
unfolding size_of
row_of_undoes_rule_of = refl

-- so no two rows have the same: an element names its dtype
pub dtype_row : (d : ℕ) → d < 16 → row_of (dtype_of d) ≡ d
dtype_row d h =
    ap row_of (dtype_rule d h)
    ∙ ap (λ (e : ℕ). row_of (rule_of e)) (sym (zero-add d))
    ∙ (sym (get_or_listed (λ e. row_of (rule_of e)) 0 16 d 0 h)
    ∙ ap (λ (l : List ℕ). get_or l d 0) row_of_undoes_rule_of ∙ get_or_listed (λ e. e) 0 16 d 0 h ∙ zero-add d)

pub dtype_injective : (d e : ℕ) → d < 16 → e < 16 → dtype_of d ≡ dtype_of e → d ≡ e
dtype_injective d e h k same = sym (dtype_row d h) ∙ ap row_of same ∙ dtype_row e k

-- a number that no field of four bits has is read as 15
pub dtype_past : (d : ℕ) → 16 ≤ d → dtype_of d ≡ unsigned_row B64 B64
unfolding dtype_of
dtype_past d h = get_or-eq_default dtypes (unsigned_row B64 B64) (rw sixteen h)

-- what is read fits its lane, whatever the number
pub never_wider : (d : ℕ) → bytes_of (dtype_of d).memory ≤ bytes_of (dtype_of d).lane
unfolding dtype_of dtypes
never_wider d =
    leb-true (bytes_of (dtype_of d).memory) (bytes_of (dtype_of d).lane)
    (all_at (λ (r : Dtype). leb (bytes_of r.memory) (bytes_of r.lane)) dtypes (unsigned_row B64 B64) refl refl d)
