-- docs/CASES.md, "A case": what lies behind the head, part by part, and the bench that it lends.
use Rattle.std.specs.Prelude.{if◌then◌else◌, ℕ, ◌+◌, ◌*◌, List, eqb, take, drop}
use Rattle.ground.specs.Lists.{listed, bytes_at}
use Rattle.memory.specs.Areas.{Areas, areas_from}
use Rattle.steps.specs.Benches.{Lent, Bench}
use Rattle.cases.specs.declared.heads.Numbers.{Numbers}
use Rattle.cases.specs.declared.heads.Question.{Question}
use Rattle.cases.specs.declared.heads.Question.TheVariants.{Step, Address, Lane}
use Rattle.cases.specs.declared.heads.Case.{Case}

-- n bytes from a place on
abbrev pub part_at : List ℕ → ℕ → ℕ → List ℕ
part_at s at n = take n (drop at s)

-- the number of a kind of question, and the numbers that it is asked with: one step has none
abbrev pub kind_in : Question → ℕ
kind_in Step = 0
kind_in (Address n) = 2
kind_in (Lane n) = 3

abbrev pub no_numbers : Numbers
no_numbers = record { a0 = 0; a1 = 0; a2 = 0; a3 = 0; blob = 0 }

abbrev pub carried : Question → Numbers
carried Step = no_numbers
carried (Address n) = n
carried (Lane n) = n

-- the bytes of a head: "a case of a kind other than 0 has, behind these lengths, four numbers of 8 bytes a0 to a3 and blob_len, 8 bytes"
unfoldable pub head_bytes : ℕ → ℕ
head_bytes kind = if eqb kind 0 then 96 else 96 + 5 * 8

-- z, p, x, flash, flash_rights, ram, ram_rights, "and behind everything the blob's bytes": each begins where the one before it ends
module _ (c : Case) where
  abbrev pub vectors_at : ℕ
  vectors_at = head_bytes (kind_in c.question)

  abbrev pub predicates_at : ℕ
  predicates_at = vectors_at + c.vectors

  abbrev pub scalars_at : ℕ
  scalars_at = predicates_at + c.predicates

  abbrev pub flash_at : ℕ
  flash_at = scalars_at + 8 * c.scalars

  abbrev pub flash_rights_at : ℕ
  flash_rights_at = flash_at + c.flash

  abbrev pub ram_at : ℕ
  ram_at = flash_rights_at + c.flash_rights

  abbrev pub ram_rights_at : ℕ
  ram_rights_at = ram_at + c.ram

  abbrev pub blob_at : ℕ
  blob_at = ram_rights_at + c.ram_rights

  -- the whole case
  abbrev pub case_bytes : ℕ
  case_bytes = blob_at + (carried c.question).blob

-- the bench that a case lends; "x is x_count numbers of 8 bytes"
module _ (s : List ℕ) (c : Case) where
  abbrev pub vectors_in : List ℕ
  vectors_in = part_at s (vectors_at c) c.vectors

  unfoldable pub lent_in : Lent
  lent_in =
      record {
        settings = c.settings;
        predicates = part_at s (predicates_at c) c.predicates;
        map = c.map;
        flash = part_at s (flash_at c) c.flash;
        flash_rights = part_at s (flash_rights_at c) c.flash_rights;
        ram_rights = part_at s (ram_rights_at c) c.ram_rights;
      }

  abbrev pub scalars_in : List ℕ
  scalars_in = listed (λ i. bytes_at s (scalars_at c + 8 * i) 8) 0 c.scalars

  unfoldable pub bench_in : Bench
  bench_in = record { vectors = vectors_in; scalars = scalars_in; ram = part_at s (ram_at c) c.ram }

  -- the two areas, which the address window asks for
  unfoldable pub areas_in : Areas
  areas_in =
      areas_from c.map (part_at s (flash_at c) c.flash) (part_at s (flash_rights_at c) c.flash_rights)
      (part_at s (ram_at c) c.ram) (part_at s (ram_rights_at c) c.ram_rights)
