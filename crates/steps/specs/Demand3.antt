-- Demand 3, as it is stated: what two set-ups agree on.
use Rattle.std.specs.Prelude.{ℕ, ◌-◌, ◌<◌, ◌≡◌, ◌↔◌, length, get_or}
use Rattle.steps.specs.Insns.{Insn}
use Rattle.memory.specs.Areas.{Area}
use Rattle.memory.specs.Said.{Holds, Right, Both}
use Rattle.steps.specs.Benches.{Lent, Bench, areas_in}
use Rattle.steps.specs.Said.{m, Active, byte_at}
use Rattle.steps.specs.Demand1.{Ready}

-- two set-ups with the same settings, registers, predicates, and area addresses and lengths
pub record Same (l : Lent) (b : Bench) (l' : Lent) (b' : Bench) : Type 0 where
  pub settings : l.settings ≡ l'.settings
  pub predicates : l.predicates ≡ l'.predicates
  pub map : l.map ≡ l'.map
  pub flash : length l.flash ≡ length l'.flash
  pub ram : length b.ram ≡ length b'.ram
  pub vectors : b.vectors ≡ b'.vectors
  pub scalars : b.scalars ≡ b'.scalars

-- a byte of an active element of the load that the word is lies at address a; where the step refuses before it reads, there is none
pub record Touched (l : Lent) (w : ℕ) (b : Bench) (a : ℕ) : Type 0 where
  pub load : Insn
  pub ready : Ready l w b load
  pub element : ℕ
  pub active : Active l load element
  pub byte : ℕ
  pub within : byte < m load
  pub lies : a ≡ byte_at l b.scalars load element byte

-- "the same read right on each page that holds a byte of an active element"
abbrev pub SameRights : Lent → ℕ → Bench → Lent → Bench → Type 0
SameRights l w b l' b' =
    (a : ℕ) → Touched l w b a → (r r' : Area) → Both (areas_in l b) (areas_in l' b') r r' → Holds r a → Right r a ↔ Right r' a

-- "the bytes of the active elements are equal as well"
abbrev pub SameBytes : Lent → ℕ → Bench → Lent → Bench → Type 0
SameBytes l w b l' b' =
    (a : ℕ) → Touched l w b a → (r r' : Area) → Both (areas_in l b) (areas_in l' b') r r' → Holds r a
    → get_or r.bytes (a - r.start) 0 ≡ get_or r'.bytes (a - r'.start) 0
