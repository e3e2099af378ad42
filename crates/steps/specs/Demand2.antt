-- Demand 2, as it is stated: what a load that ran leaves in the destinations, the base and PC, and all else as it was.
use Rattle.std.specs.Prelude.{if◌then◌else◌, ℕ, zero, suc, ◌+◌, ◌-◌, ◌*◌, ◌/◌, ◌%◌, ◌^◌, ◌≤◌, ◌<◌, eqb, ◌≡◌, Bool, true, false, List, length, get_or}
use Rattle.ground.specs.Lists.{little}
use Rattle.steps.specs.Insns.{Insn, Shape, Replicate, ByElement, Contiguous, Block, Some}
use Rattle.memory.specs.Addresses.{wrap}
use Rattle.memory.specs.Areas.{Area, Areas}
use Rattle.memory.specs.Said.{Holds, OneOf}
use Rattle.steps.specs.Benches.{Lent, Bench, areas_in}
use Rattle.steps.specs.Terms.{scalar}
use Rattle.steps.specs.Demand1.{Ready, AllReadable}
use Rattle.steps.specs.Said.{m, lane_bytes, N, Q, K, copies, LaneActive, offs, byte_at}

-- "31 followed by 0"
abbrev pub followed : ℕ → ℕ
followed r = if eqb r 31 then 0 else suc r

-- destination j of a load, from 0 on: "registers t, t+1 and on"
abbrev pub destination : Insn → ℕ → ℕ
destination i zero = i.target
destination i (suc j) = followed (destination i j)

-- register r is one of the destinations
abbrev pub IsDestination : Insn → ℕ → Type 0
IsDestination i r = (j : ℕ) × (j < i.registers) × (r ≡ destination i j)

-- lane k of destination j takes element e: "successive elements go to registers t, t+1 and on"; of the others, which have one destination, in a
-- block load element k mod K, where that one of the block's own lanes is active
abbrev pub TakesAs : Shape → Lent → Insn → ℕ → ℕ → ℕ → Type 0
TakesAs (Replicate q back) l i j k e = (e ≡ j) × (k * lane_bytes i < 8 * 2 ^ Q q)
TakesAs (ByElement imm6) l i j k e = (e ≡ 0) × LaneActive l i k
TakesAs (Contiguous offset) l i j k e = (e ≡ k) × LaneActive l i k
TakesAs (Block wide offset) l i j k e =
    (e ≡ k % K wide i) × (k / K wide i < copies l wide) × LaneActive l i (k % K wide i)

abbrev pub Takes : Lent → Insn → ℕ → ℕ → ℕ → Type 0
Takes l i j k e = TakesAs i.shape l i j k e

-- the number in lane k of register t, lowest byte first
abbrev pub lane_in : Lent → List ℕ → ℕ → ℕ → ℕ → ℕ
lane_in l z t lane k = little (λ j. get_or z j 0) (t * (l.settings.vl / 8) + k * lane) lane

-- x, of so many bits as a lane has, is v extended: with zeros; or as the same signed number, x - 2^lane being v - 2^bits where v is negative
abbrev pub Extends : Bool → ℕ → ℕ → ℕ → ℕ → Type 0
Extends false bits lane v x = x ≡ v
Extends true bits lane v x = (v < 2 ^ (bits - 1) → x ≡ v) × (2 ^ (bits - 1) ≤ v → x + 2 ^ bits ≡ v + 2 ^ lane)

-- the byte at an address
abbrev pub Contains : Areas → ℕ → ℕ → Type 0
Contains a x v = (r : Area) × OneOf a r × Holds r x × (v ≡ get_or r.bytes (x - r.start) 0) × (v < 256)

-- v is the value of element e: the number that its bytes in memory make, lowest byte first
pub record ElementValue (l : Lent) (b : Bench) (i : Insn) (e v : ℕ) : Type 0 where
  pub byte : ℕ → ℕ
  pub contained : (j : ℕ) → j < m i → Contains (areas_in l b) (byte_at l b.scalars i e j) (byte j)
  pub value : v ≡ little byte 0 (m i)

-- "Post-index adds the read's size when Rm = 31, else Xm as it was before the step"; of LD2R to LD4R, "the sum of the reads":
-- what `offs` has become after the last. No other shape has a case: it writes nothing back
pub data AddsAs (x : List ℕ) (i : Insn) : Shape → ℕ → Type 0 where
  size : {q : Bool} {r : ℕ} → r ≡ 31 → AddsAs x i (Replicate q (Some r)) (offs i i.registers)
  register : {q : Bool} {r : ℕ} → (r ≡ 31 → ⊥) → AddsAs x i (Replicate q (Some r)) (scalar x r)

abbrev pub Adds : List ℕ → Insn → ℕ → Type 0
Adds x i a = AddsAs x i i.shape a

-- the base is written back as v: what it was and what is added, modulo 2^64
pub record WrittenBack (x : List ℕ) (i : Insn) (v : ℕ) : Type 0 where
  pub added : ℕ
  pub adds : Adds x i added
  pub sum : v ≡ wrap (scalar x i.base + added)

-- what a load that ran leaves, and that it leaves all else as it was
pub record Leaves (l : Lent) (b : Bench) (i : Insn) (l' : Lent) (b' : Bench) : Type 0 where
  -- of each destination, a lane that takes an element holds its value, extended; any other lane is zero
  pub lane : (j k e v : ℕ) → j < i.registers → k < N l i → Takes l i j k e → ElementValue l b i e v
      → Extends i.element.signed (8 * m i) (8 * lane_bytes i) v (lane_in l b'.vectors (destination i j) (lane_bytes i) k)
  pub zero : (j k : ℕ) → j < i.registers → k < N l i → ((e : ℕ) → Takes l i j k e → ⊥)
      → lane_in l b'.vectors (destination i j) (lane_bytes i) k ≡ 0
  -- the destinations hold bytes; every register but these is as it was; and the file is as long
  pub bytes : (r : ℕ) → IsDestination i r → (k : ℕ) → k < l.settings.vl / 8 → get_or b'.vectors (r * (l.settings.vl / 8) + k) 0 < 256
  pub registers : (r : ℕ) → (IsDestination i r → ⊥) → (k : ℕ) → k < l.settings.vl / 8
      → get_or b'.vectors (r * (l.settings.vl / 8) + k) 0 ≡ get_or b.vectors (r * (l.settings.vl / 8) + k) 0
  pub vectors : length b'.vectors ≡ length b.vectors
  -- the base, where it is written back; PC; every scalar but these as it was, and as many
  pub base : (v : ℕ) → WrittenBack b.scalars i v → scalar b'.scalars i.base ≡ v
  pub pc : scalar b'.scalars 32 ≡ wrap (scalar b.scalars 32 + 4)
  pub others : (n : ℕ) → (n ≡ 32 → ⊥) → ((v : ℕ) → WrittenBack b.scalars i v → n ≡ i.base → ⊥)
      → scalar b'.scalars n ≡ scalar b.scalars n
  pub scalars : length b'.scalars ≡ length b.scalars
  -- no load changes RAM, nor what is lent to be read alone
  pub ram : b'.ram ≡ b.ram
  pub lent : l' ≡ l

-- what a step that ran leaves: `Leaves`, of a load that the word is, which could run
abbrev pub Done : Lent → ℕ → Bench → Lent → Bench → Type 0
Done l w b l' b' = (i : Insn) × Ready l w b i × AllReadable l b i × Leaves l b i l' b'
