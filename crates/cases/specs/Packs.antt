-- docs/CASES.md from the writing side: what a case is packed from, its bytes, and the outcome that it is due. Nothing here says how a case is
-- read; proofs/Packs.antt holds the two sides to each other.
use Rattle.std.specs.Prelude.{if◌then◌else◌, ℕ, ◌+◌, ◌*◌, ◌/◌, ◌%◌, ◌^◌, ◌≤◌, ◌<◌, ◌≡◌, ◌⊎◌, Bool, eqb, length, drop, Option, None, Ok}
use mathlib.Core.List.{List, [], ◌∷◌, ◌++◌, map, flatten}
use Rattle.ground.specs.Choices.{◌⇒◌, first_of}
use Rattle.ground.specs.Lists.{listed, EachBelow}
use Rattle.memory.specs.Areas.{Areas, areas_from}
use Rattle.memory.specs.Windows.{shown_place}
use Rattle.memory.specs.declared.Map.{Map}
use Rattle.steps.specs.Benches.{Lent, Bench}
use Rattle.steps.specs.Step.{step_of}
use Rattle.lanes.specs.Lanes.{shown_of}
use Rattle.lanes.specs.declared.Kind.TheVariants.{Whole, Single, Double}
use Rattle.lanes.specs.declared.Shown.{Shown}
use Rattle.cases.specs.Outcomes.{outcome_bytes, window_bytes}
use Rattle.cases.specs.Windows.{place_report, shown_report}
use Rattle.cases.specs.Answers.{After}

-- what a case asks, and all that it lends
pub record Asked : Type 0 where
  pub word : ℕ
  pub simd : Bool
  pub sve : Bool
  pub f64mm : Bool
  pub kind : ℕ
  pub level : ℕ
  pub vl : ℕ
  pub flash_start : ℕ
  pub ram_start : ℕ
  pub a0 : ℕ
  pub a1 : ℕ
  pub a2 : ℕ
  pub a3 : ℕ
  pub z : List ℕ
  pub p : List ℕ
  pub x : List ℕ
  pub flash : List ℕ
  pub flash_rights : List ℕ
  pub ram : List ℕ
  pub ram_rights : List ℕ
  pub blob : List ℕ

-- "All numbers are little-endian": one of n bytes, lowest first
abbrev pub in_bytes : ℕ → ℕ → List ℕ
in_bytes n v = listed (λ j. v / 256 ^ j % 256) 0 n

-- "bit 0 SIMD on, bit 1 SVE on, bit 2 F64MM present; bits 8 to 15 the kind of question .. other bits zero"
abbrev pub bit_of : Bool → ℕ
bit_of t = if t then 1 else 0

abbrev pub flags_for : Asked → ℕ
flags_for q = bit_of q.simd + 2 * bit_of q.sve + 4 * bit_of q.f64mm + 256 * q.kind

-- the table, row by row: 4B 4B 4A 31; word, flags, level; vl, the two starts, and how long each part is
unfoldable pub head_parts : Asked → List (List ℕ)
head_parts q =
    (75 ∷ 75 ∷ 74 ∷ 49 ∷ [])
    ∷ in_bytes 4 q.word
    ∷ in_bytes 4 (flags_for q)
    ∷ in_bytes 4 q.level
    ∷ in_bytes 8 q.vl
    ∷ in_bytes 8 q.flash_start
    ∷ in_bytes 8 q.ram_start
    ∷ in_bytes 8 (length q.z)
    ∷ in_bytes 8 (length q.p)
    ∷ in_bytes 8 (length q.x)
    ∷ in_bytes 8 (length q.flash)
    ∷ in_bytes 8 (length q.flash_rights)
    ∷ in_bytes 8 (length q.ram)
    ∷ in_bytes 8 (length q.ram_rights)
    ∷ []

-- "A case of a kind other than 0 has, behind these lengths, four numbers of 8 bytes a0 to a3 and blob_len, 8 bytes"
abbrev pub asked_numbers : Asked → List ℕ
asked_numbers q = q.a0 ∷ q.a1 ∷ q.a2 ∷ q.a3 ∷ length q.blob ∷ []

unfoldable pub question_parts : Asked → List (List ℕ)
question_parts q = if eqb q.kind 0 then [] else map (in_bytes 8) (asked_numbers q)

-- z, p, x, flash, flash_rights, ram, ram_rights, "and behind everything the blob's bytes"; "x is x_count numbers of 8 bytes"
unfoldable pub lent_parts : Asked → List (List ℕ)
lent_parts q =
    q.z ∷ q.p ∷ flatten (map (in_bytes 8) q.x) ∷ q.flash ∷ q.flash_rights ∷ q.ram ∷ q.ram_rights ∷ q.blob ∷ []

-- the bytes of the case
unfoldable pub packed : Asked → List ℕ
packed q = flatten (head_parts q ++ (question_parts q ++ lent_parts q))

-- at most so many numbers, each below a bound
abbrev pub UpTo : ℕ → ℕ → List ℕ → Type 0
UpTo most bound s = (length s ≤ most) × EachBelow bound s

-- What can be packed: each number fits its field, each part is one of bytes and within its limit, and the level and the kind are here.
pub record Packable (q : Asked) : Type 0 where
  pub word : q.word < 2 ^ 32
  pub vl : q.vl < 2 ^ 64
  pub flash_start : q.flash_start < 2 ^ 64
  pub ram_start : q.ram_start < 2 ^ 64
  pub a0 : q.a0 < 2 ^ 64
  pub a1 : q.a1 < 2 ^ 64
  pub a2 : q.a2 < 2 ^ 64
  pub a3 : q.a3 < 2 ^ 64
  -- "z to 65,536 bytes, p to 4,096, x to 128 numbers, areas to 131,072 bytes each, rights to 64 bytes each", "a blob: 65,536"
  pub z : UpTo 65536 256 q.z
  pub p : UpTo 4096 256 q.p
  pub x : UpTo 128 (2 ^ 64) q.x
  pub flash : UpTo 131072 256 q.flash
  pub flash_rights : UpTo 64 256 q.flash_rights
  pub ram : UpTo 131072 256 q.ram
  pub ram_rights : UpTo 64 256 q.ram_rights
  pub blob : UpTo 65536 256 q.blob
  -- "0 to 4 as here": no other level's layout is
  pub level : q.level ≤ 4
  -- one step, the address window, the lane window
  pub kind : (q.kind ≡ 0) ⊎ (q.kind ≡ 2) ⊎ (q.kind ≡ 3)
  -- one step has none of the four numbers, and no blob
  pub bare : q.kind ≡ 0 → (q.a0 ≡ 0) × (q.a1 ≡ 0) × (q.a2 ≡ 0) × (q.a3 ≡ 0) × (q.blob ≡ [])

-- what the bytes of a stream begin with
abbrev pub OpensWith : List ℕ → Asked → Type 0
OpensWith s q = Packable q × ((rest : List ℕ) × (s ≡ packed q ++ rest))

-- what it lends, to a step and to the windows
module _ (q : Asked) where
  abbrev pub map_for : Map
  map_for = record { flash = record { 0 = q.flash_start }; ram = record { 0 = q.ram_start } }

  abbrev pub lent_for : Lent
  lent_for =
      record {
        settings = record { vl = q.vl; simd = q.simd; sve = q.sve; f64mm = q.f64mm };
        predicates = q.p;
        map = map_for;
        flash = q.flash;
        flash_rights = q.flash_rights;
        ram_rights = q.ram_rights;
      }

  abbrev pub bench_for : Bench
  bench_for = record { vectors = q.z; scalars = q.x; ram = q.ram }

  abbrev pub areas_for : Areas
  areas_for = areas_from map_for q.flash q.flash_rights q.ram q.ram_rights

  -- "a0 register, a1 0 whole, 1 single, 2 double, a2 width in bits, a3 lane"
  abbrev pub lane_for : Option Shown
  lane_for =
      first_of
      ((eqb q.a1 0 ⇒ shown_of q.vl q.z q.a0 Whole q.a2 q.a3)
      ∷ (eqb q.a1 1 ⇒ shown_of q.vl q.z q.a0 Single q.a2 q.a3)
      ∷ (eqb q.a1 2 ⇒ shown_of q.vl q.z q.a0 Double q.a2 q.a3)
      ∷ [])
      None

  -- the outcome that the case is due: of one step, of the address window, of the lane window
  unfoldable pub outcome_for : List ℕ
  outcome_for =
      first_of
      ((eqb q.kind 0 ⇒ outcome_bytes (step_of lent_for q.word bench_for))
      ∷ (eqb q.kind 2 ⇒ window_bytes (place_report areas_for (shown_place areas_for q.a0)))
      ∷ [])
      (window_bytes (shown_report lane_for))

  -- what is answered: as many bytes taken as the case has, and the outcome over the first bytes of what is lent for it
  abbrev pub answer_for : List ℕ → After
  answer_for out =
      record { answer = Ok (record { taken = length (packed q); given = length outcome_for }); out = outcome_for ++ drop (length outcome_for) out }
