-- A case that bytes open with is within its limits, so that none is longer than the buffers of a program.
use mathlib.Core.Path.{◌≡◌, refl, sym, subst}
use mathlib.Core.Bool.{false, not}
use mathlib.Core.List.{List}
use Prim.Native.Nat.{ℕ, ◌+◌, ◌*◌, ◌≤◌}
use native.Mathlib.Omega.{arith}
use borrow.Author.Tests.{ltb-false, le-ltb, eqb-true, not-false}
use lib.Dec.{eqb, ltb, lit≤}
use lib.ListN.{length}
use Rattle.std.specs.Prelude.{Result, Ok, Err}
use Rattle.ground.specs.Lists.{bytes_at}
use Rattle.ground.proofs.Laws.{if_cases}
use Rattle.cases.specs.Parts.{kind_in, carried, head_bytes, case_bytes}
use Rattle.cases.specs.Heads.{magic, flags_in, kind_of, strange_flag, strange_kind, head_of, limited, marked_of, opened_of}
use Rattle.cases.specs.Inside.{Bounds}
use Rattle.cases.specs.Outcomes.{outcome_length}
use Rattle.cases.specs.declared.heads.Case.{Case}
use Rattle.cases.specs.declared.heads.Refusal.{Refusal}
use Rattle.cases.specs.declared.heads.Opened.{Opened}

-- such a case is taken
pub all_short : {c : Case} → Bounds c → Ok (record { case = c; whole = case_bytes c }) ≡ limited c
unfolding limited
all_short b =
    rw (le-ltb _ _ b.vectors, le-ltb _ _ b.predicates, le-ltb _ _ b.scalars, le-ltb _ _ b.flash)
    (rw (le-ltb _ _ b.flash_rights, le-ltb _ _ b.ram, le-ltb _ _ b.ram_rights, le-ltb _ _ b.blob))

-- a head has 136 bytes at most
pub head_most : (kind : ℕ) → head_bytes kind ≤ 136
unfolding head_bytes
head_most kind = if_cases (λ (n : ℕ). n ≤ 136) (eqb kind 0) 96 136 (λ _. lit≤ tt) (λ _. lit≤ tt)

-- a head that begins a case
pub record GoodHead (s : List ℕ) : Type 0 where
  pub begins : bytes_at s 0 4 ≡ magic
  pub flags : strange_flag (flags_in s) ≡ false
  pub kind : strange_kind (kind_of (flags_in s)) ≡ false
  pub level : bytes_at s 12 4 ≤ 4
  pub bounds : Bounds (head_of s)

-- a fact of every refusal, and of the case of a good head, holds of whatever bytes open with
module _ (s : List ℕ) (P : Result Opened Refusal → Type 0) (no : (why : Refusal) → P (Err why))
    (yes : GoodHead s → P (Ok (record { case = head_of s; whole = case_bytes (head_of s) }))) where
  pub opened : P (opened_of s)
  unfolding opened_of marked_of limited
  opened =
      let c = head_of s in
      if_cases P (ltb (length s) 4) _ _ (λ _. no _) (λ _.
      if_cases P (not (eqb (bytes_at s 0 4) magic)) _ _ (λ _. no _) (λ m.
      if_cases P (ltb (length s) 96) _ _ (λ _. no _) (λ _.
      if_cases P (strange_flag (flags_in s)) _ _ (λ _. no _) (λ flags.
      if_cases P (strange_kind (kind_of (flags_in s))) _ _ (λ _. no _) (λ kind.
      if_cases P (ltb 4 (bytes_at s 12 4)) _ _ (λ _. no _) (λ level.
      if_cases P (ltb (length s) (head_bytes (kind_of (flags_in s)))) _ _ (λ _. no _) (λ _.
      if_cases P (ltb 65536 c.vectors) _ _ (λ _. no _) (λ v.
      if_cases P (ltb 4096 c.predicates) _ _ (λ _. no _) (λ p.
      if_cases P (ltb 128 c.scalars) _ _ (λ _. no _) (λ x.
      if_cases P (ltb 131072 c.flash) _ _ (λ _. no _) (λ f.
      if_cases P (ltb 64 c.flash_rights) _ _ (λ _. no _) (λ fr.
      if_cases P (ltb 131072 c.ram) _ _ (λ _. no _) (λ r.
      if_cases P (ltb 64 c.ram_rights) _ _ (λ _. no _) (λ rr.
      if_cases P (ltb 65536 (carried c.question).blob) _ _ (λ _. no _) (λ b.
      yes
      (record {
        begins = eqb-true _ _ (not-false _ m);
        flags = flags;
        kind = kind;
        level = ltb-false _ _ level;
        bounds = record {
          vectors = ltb-false _ _ v;
          predicates = ltb-false _ _ p;
          scalars = ltb-false _ _ x;
          flash = ltb-false _ _ f;
          flash_rights = ltb-false _ _ fr;
          ram = ltb-false _ _ r;
          ram_rights = ltb-false _ _ rr;
          blob = ltb-false _ _ b;
        };
      }))))))))))))))))

-- so what bytes open with has as many bytes as its parts say, and no part is too long
abbrev Within : Result Opened Refusal → Type 0
Within (Err why) = Unit {0}
Within (Ok o) = (o.whole ≡ case_bytes o.case) × Bounds o.case

module _ (s : List ℕ) (o : Opened) (e : Ok o ≡ opened_of s) where
  within : Within (Ok o)
  within = subst Within (sym e) (opened s Within (λ why. tt) (λ g. (refl, g.bounds)))

  pub opened_whole : o.whole ≡ case_bytes o.case
  opened_whole = within.0

  pub opened_bounds : Bounds o.case
  opened_bounds = within.1

-- the longest case and the longest outcome
abbrev pub Longest : Result Opened Refusal → Type 0
Longest (Err why) = Unit {0}
Longest (Ok o) = (o.whole ≤ 398600) × (outcome_length o.case ≤ 66585)

outcome_most : (c : Case) → Bounds c → outcome_length c ≤ 66585
outcome_most c b =
    if_cases (λ (n : ℕ). n ≤ 66585) (eqb (kind_in c.question) 0) (25 + c.vectors + 8 * c.scalars) 33
    (λ _. omega (arith, b.vectors, b.scalars)) (λ _. lit≤ tt)

pub longest_case : (s : List ℕ) → Longest (opened_of s)
longest_case s =
    opened s Longest (λ why. tt)
    (λ g. let b = g.bounds in let h = head_most (kind_in (head_of s).question) in (omega arith, outcome_most (head_of s) b))
