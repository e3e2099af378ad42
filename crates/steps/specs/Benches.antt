-- "The lent bench", and which set-ups are accepted.
use Rattle.std.specs.Prelude.{ℕ, ◌*◌, ◌/◌, ◌%◌, ◌^◌, ◌<◌, ◌≡◌, Bool, List, [], ◌∷◌, leb, eqb, length}
use Rattle.ground.specs.Choices.{all_of}
use Rattle.ground.specs.Lists.{EachBelow}
use Rattle.memory.specs.Areas.{Areas, areas_from, are_areas_accepted}
use Rattle.memory.specs.declared.Map.{Map}
use Rattle.steps.specs.declared.Lent as L
use Rattle.steps.specs.declared.Settings.{Settings}

-- what no step ever changes
pub record Lent : Type 0 where
  pub settings : Settings
  pub predicates : List ℕ
  pub map : Map
  pub flash : List ℕ
  pub flash_rights : List ℕ
  pub ram_rights : List ℕ

-- .. as a caller of a step lends it
abbrev pub lent_of : L.Lent → Lent
lent_of lent =
    record {
      settings = lent.settings;
      predicates = lent.predicates.now;
      map = lent.map;
      flash = lent.flash.now;
      flash_rights = lent.flash_rights.now;
      ram_rights = lent.ram_rights.now;
    }

-- what an instruction may change: the vector file, the scalars X0 to X30, SP, PC, and RAM, which no load changes (`ram` of Leaves)
pub record Bench : Type 0 where
  pub vectors : List ℕ
  pub scalars : List ℕ
  pub ram : List ℕ

abbrev pub areas_in : Lent → Bench → Areas
areas_in l b = areas_from l.map l.flash l.flash_rights b.ram l.ram_rights

-- What comes in is what its types hold: a word of 32 bits, bytes in the files, the areas and their rights, scalars of 64 bits. A list of numbers does
-- not say so by itself. The promise of a step does, so that no law about a step has to ask its reader for it.
pub record InTypes (l : Lent) (w : ℕ) (b : Bench) : Type 0 where
  pub word : w < 2 ^ 32
  pub vectors : EachBelow 256 b.vectors
  pub predicates : EachBelow 256 l.predicates
  pub scalars : EachBelow (2 ^ 64) b.scalars
  pub flash : EachBelow 256 l.flash
  pub flash_rights : EachBelow 256 l.flash_rights
  pub ram : EachBelow 256 b.ram
  pub ram_rights : EachBelow 256 l.ram_rights

-- "a multiple of 128, 128 to 2,048"
abbrev pub length_tests : ℕ → List Bool
length_tests vl = eqb (vl % 128) 0 ∷ leb 128 vl ∷ leb vl 2048 ∷ []

abbrev pub is_length_allowed : ℕ → Bool
is_length_allowed vl = all_of (length_tests vl)

-- what `allowed` promises: whether the vector length is allowed
abbrev pub AllowedPromise : ℕ → Bool → Type 0
AllowedPromise vl r = r ≡ is_length_allowed vl

-- VL, and files of z bytes, p bytes and x numbers: 32 registers of VL/8 bytes; 16 registers of VL/64 bytes; 33 numbers
abbrev pub file_tests : ℕ → ℕ → ℕ → ℕ → List Bool
file_tests vl z p x = is_length_allowed vl ∷ eqb z (32 * (vl / 8)) ∷ eqb p (16 * (vl / 64)) ∷ eqb x 33 ∷ []

abbrev pub are_files_accepted : ℕ → ℕ → ℕ → ℕ → Bool
are_files_accepted vl z p x = all_of (file_tests vl z p x)

abbrev pub accepted_tests : Lent → Bench → List Bool
accepted_tests l b =
    are_files_accepted l.settings.vl (length b.vectors) (length l.predicates) (length b.scalars)
    ∷ are_areas_accepted (areas_in l b)
    ∷ []

unfoldable pub is_accepted : Lent → Bench → Bool
is_accepted l b = all_of (accepted_tests l b)
