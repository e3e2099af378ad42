-- What definition and statement share, said once more in document 01's words: a wrong one would be wrong on both sides alike. imm4 is
-- `imm4_signed` of Demand2, addresses are Promises of memory, numbers of bytes little-digit of ground's Laws.
use mathlib.Core.Path.{◌≡◌, refl}
use mathlib.Core.Bool.{true, false}
use mathlib.Core.List.{List}
use Prim.Native.Nat.{ℕ, ◌*◌}
use lib.ListN.{get_or}
use Rattle.steps.specs.Benches.{Lent, lent_of, Bench, areas_in}
use Rattle.steps.specs.Answers.{report_with}
use Rattle.steps.specs.Terms.{scalar, block_bytes}
use Rattle.steps.specs.declared.Lent as L

-- "33 numbers of 64 bits: X0 to X30, SP, PC": number n is the n-th, from 0
pub scalar_said : (x : List ℕ) (n : ℕ) → scalar x n ≡ get_or x n 0
scalar_said x n = refl

-- "a block of 128 or 256 bits"
pub block_said : (8 * block_bytes false ≡ 128) × (8 * block_bytes true ≡ 256)
block_said = (refl, refl)

-- an answer's number, count, element and address
pub report_parts : (n c e a : ℕ) → let r = report_with n c e a in (r.number ≡ n) × (r.count ≡ c) × (r.element ≡ e) × (r.address ≡ a)
report_parts n c e a = (refl, refl, refl, refl)

-- the areas that the statements speak of are those lent
pub lent_areas : (l : Lent) (b : Bench)
    → areas_in l b
    ≡ record {
      flash = record { start = l.map.flash.0; bytes = l.flash; rights = l.flash_rights };
      ram = record { start = l.map.ram.0; bytes = b.ram; rights = l.ram_rights };
    }
lent_areas l b = refl

-- what a caller lends is lent under its own name
pub lent_parts : (lent : L.Lent) → let l = lent_of lent in
    (l.settings ≡ lent.settings) × (l.predicates ≡ lent.predicates.now) × (l.map ≡ lent.map) × (l.flash ≡ lent.flash.now)
    × (l.flash_rights ≡ lent.flash_rights.now) × (l.ram_rights ≡ lent.ram_rights.now)
lent_parts lent = (refl, refl, refl, refl, refl, refl)
