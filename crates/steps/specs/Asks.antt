-- Which bytes the definition of a step asks memory for, and where it finds them, in its own words: `step_of` reads the bytes of its plan's elements and
-- nothing else. Demand 3 is stated in document 01's words; the laws of proofs/Touches say that both mean the same bytes.
use Rattle.std.specs.Prelude.{ℕ, ◌<◌, ◌≡◌, Bool, true, List, Option, Some, None, get_or}
use Rattle.ground.specs.Sizes.{bytes_of}
use Rattle.memory.specs.Addresses.{plus_of}
use Rattle.memory.specs.Areas.{Area, Areas, place_in}
use Rattle.memory.specs.Bytes.{read_right}
use Rattle.memory.specs.declared.Place.{Place}
use Rattle.memory.specs.declared.Place.TheVariants.{Flash, Ram}
use Rattle.steps.specs.Benches.{Lent, Bench, areas_in, is_accepted}
use Rattle.steps.specs.Lanes.{governing_bytes, wanted, element_at}
use Rattle.steps.specs.Step.{Go, prepared_of}
use Rattle.steps.specs.declared.Plan.{Plan}

-- the step comes to a plan, one of whose elements is asked for and has a byte at address a
pub record AsksFor (l : Lent) (w : ℕ) (b : Bench) (a : ℕ) : Type 0 where
  pub accepted : is_accepted l b ≡ true
  pub plan : Plan
  pub prepared : prepared_of l b.scalars w ≡ Go plan
  pub element : ℕ
  pub few : element < plan.elements
  pub asked : wanted plan (governing_bytes l plan) element ≡ true
  pub byte : ℕ
  pub within : byte < bytes_of plan.size
  pub lies : a ≡ plus_of (element_at plan element) byte

-- the read right of byte k of an area, and the byte
abbrev pub right_at : Area → ℕ → Bool
right_at r k = read_right r.rights k

abbrev pub number_at : Area → ℕ → ℕ
number_at r k = get_or r.bytes k 0

-- two memories agree at a place: the same is found in either's flash, or in either's RAM; where there is no byte, there is nothing to find
abbrev pub AgreeAt : {A : Type 0} → (Area → ℕ → A) → Areas → Areas → Option Place → Type 0
AgreeAt find m n (Some (Flash k)) = find m.flash k ≡ find n.flash k
AgreeAt find m n (Some (Ram k)) = find m.ram k ≡ find n.ram k
AgreeAt find m n None = Unit {0}

-- .. and at each byte that the step of the first bench asks for
abbrev pub Agree : {A : Type 0} → (Area → ℕ → A) → Lent → ℕ → Bench → Lent → Bench → Type 0
Agree find l w b l' b' = (a : ℕ) → AsksFor l w b a → AgreeAt find (areas_in l b) (areas_in l' b') (place_in (areas_in l b) a)

-- a bench with other contents and rights, and all else as it is
abbrev pub lent_with : Lent → List ℕ → List ℕ → List ℕ → Lent
lent_with l flash flash_rights ram_rights =
    record {
      settings = l.settings;
      predicates = l.predicates;
      map = l.map;
      flash = flash;
      flash_rights = flash_rights;
      ram_rights = ram_rights;
    }

abbrev pub bench_with : Bench → List ℕ → Bench
bench_with b ram = record { vectors = b.vectors; scalars = b.scalars; ram = ram }
