-- Document 01's own words and formulas, of the stack rule request Two's, and where LD2R to LD4R came in page 004's, as statements about an
-- instruction and the lent bench. Nothing here uses the plan: the demands are stated in these words, and their proofs tie the plan to them.
use Rattle.std.specs.Prelude.{ℕ, zero, suc, ◌+◌, ◌*◌, ◌/◌, ◌%◌, ◌^◌, ◌≤◌, ◌<◌, ◌≡◌, Bool, true, false, List, ℤ, pos, ◌+ℤ◌, ◌*ℤ◌, length, get_or}
use Rattle.ground.specs.Sizes.{bytes_of}
use Rattle.steps.specs.Insns.{Insn, Shape, Replicate, ByElement, Contiguous, Block, Imm, Reg, Option, Some, None}
use Rattle.memory.specs.Addresses.{wrapℤ}
use Rattle.memory.specs.Areas.{Area, Areas}
use Rattle.memory.specs.Said.{Holds, Right, AreasAccepted, OneOf}
use Rattle.steps.specs.Benches.{Lent, Bench, areas_in}
use Rattle.steps.specs.Terms.{signed4, scalar, block_bytes}

-- "Vector length VL in bits: a multiple of 128, 128 to 2,048"
pub record LengthAllowed (vl : ℕ) : Type 0 where
  pub multiple : vl % 128 ≡ 0
  pub least : 128 ≤ vl
  pub largest : vl ≤ 2048

-- "The lent bench": the set-ups that do not earn 1
pub record Accepted (l : Lent) (b : Bench) : Type 0 where
  pub allowed : LengthAllowed l.settings.vl
  pub vectors : length b.vectors ≡ 32 * (l.settings.vl / 8)
  pub predicates : length l.predicates ≡ 16 * (l.settings.vl / 64)
  pub scalars : length b.scalars ≡ 33
  pub areas : AreasAccepted (areas_in l b)

-- m, as document 01 calls it: "the memory size in bytes"; and the lane size in bytes
abbrev pub m : Insn → ℕ
m i = bytes_of i.element.memory

abbrev pub lane_bytes : Insn → ℕ
lane_bytes i = bytes_of i.element.lane

-- N, as document 01 calls it: "VL divided by lane size"
abbrev pub N : Lent → Insn → ℕ
N l i = l.settings.vl / (8 * lane_bytes i)

-- Q, as the pages call it: 0 where LD1R to LD4R fill 64 bits, and 1 where they fill 128
abbrev pub Q : Bool → ℕ
Q false = 0
Q true = 1

-- K, our letter: how many lanes a block of 128 or 256 bits has; lane k takes element k mod K
abbrev pub K : Bool → Insn → ℕ
K wide i = block_bytes wide / lane_bytes i

-- "The block is repeated; bytes left over at the end are zero": so many whole blocks are in a register
abbrev pub copies : Lent → Bool → ℕ
copies l wide = l.settings.vl / (8 * block_bytes wide)

-- bit n of the governing predicate is 1: register g starts at byte g × VL/64 of the file
abbrev pub BitSet : Lent → Option ℕ → ℕ → Type 0
BitSet l None n = ⊥
BitSet l (Some g) n = get_or l.predicates (g * (l.settings.vl / 64) + n / 8) 0 / 2 ^ (n % 8) % 2 ≡ 1

-- "Lane e is active exactly if predicate bit e × (lane size / 8) is 1"
abbrev pub LaneActive : Lent → Insn → ℕ → Type 0
LaneActive l i e = BitSet l i.governing (e * lane_bytes i)

-- "some lane is active": one of all N, as the pages' AnyActiveElement(mask, esize) asks
abbrev pub SomeActive : Lent → Insn → Type 0
SomeActive l i = (e : ℕ) × (e < N l i) × LaneActive l i e

-- element e is active: "a single read is one active element with number 0: always for LD1R, and for LD1R by element exactly when some lane is
-- active". LD2R to LD4R have as many as registers, from number 0 on
abbrev pub ActiveAs : Shape → Lent → Insn → ℕ → Type 0
ActiveAs (Replicate q back) l i e = e < i.registers
ActiveAs (ByElement imm6) l i e = (e ≡ 0) × SomeActive l i
ActiveAs (Contiguous offset) l i e = (e < N l i) × LaneActive l i e
ActiveAs (Block wide offset) l i e = (e < K wide i) × LaneActive l i e

abbrev pub Active : Lent → Insn → ℕ → Type 0
Active l i e = ActiveAs i.shape l i e

-- "LD1R always checks", and so do LD2R to LD4R. "The others check only when one of the lanes they consult is active": any of them, of LD1RQ and LD1RO too
-- by request Two, "if any lane at that lane size is active anywhere in VL". Memory is read for the block's lanes only (`ActiveAs`)
abbrev pub ChecksAs : Shape → Lent → Insn → Type 0
ChecksAs (Replicate q back) l i = Unit {0}
ChecksAs (ByElement imm6) l i = SomeActive l i
ChecksAs (Contiguous offset) l i = SomeActive l i
ChecksAs (Block wide offset) l i = SomeActive l i

abbrev pub Checks : Lent → Insn → Type 0
Checks l i = ChecksAs i.shape l i

-- page 004's `offs` before read e of LD1R to LD4R: zeros, then "offs = offs + ebytes" after each read
abbrev pub offs : Insn → ℕ → ℕ
offs i zero = 0
offs i (suc e) = offs i e + m i

-- where element e lies, before it is taken modulo 2^64; of LD1R to LD4R at page 004's "address+offs"
abbrev pub lies_as : Shape → Lent → List ℕ → Insn → ℕ → ℤ
lies_as (Replicate q back) l x i e = pos (scalar x i.base) +ℤ pos (offs i e)
lies_as (ByElement imm6) l x i e = pos (scalar x i.base) +ℤ pos imm6 *ℤ pos (m i)
lies_as (Contiguous (Imm v)) l x i e = pos (scalar x i.base) +ℤ (signed4 v *ℤ pos (N l i) +ℤ pos e) *ℤ pos (m i)
lies_as (Contiguous (Reg r)) l x i e = pos (scalar x i.base) +ℤ (pos (scalar x r) +ℤ pos e) *ℤ pos (m i)
lies_as (Block wide (Imm v)) l x i e = pos (scalar x i.base) +ℤ signed4 v *ℤ pos (block_bytes wide) +ℤ pos (e * m i)
lies_as (Block wide (Reg r)) l x i e = pos (scalar x i.base) +ℤ (pos (scalar x r) +ℤ pos e) *ℤ pos (m i)

abbrev pub lies : Lent → List ℕ → Insn → ℕ → ℤ
lies l x i e = lies_as i.shape l x i e

-- the address of byte k of element e: "modulo 2^64, byte by byte too"
abbrev pub byte_at : Lent → List ℕ → Insn → ℕ → ℕ → ℕ
byte_at l x i e k = wrapℤ (lies l x i e +ℤ pos k)

-- a byte that can be read, one in neither area, and one in a page without the read right
abbrev pub CanRead : Areas → ℕ → Type 0
CanRead a x = (r : Area) × OneOf a r × Holds r x × Right r x

abbrev pub Missing : Areas → ℕ → Type 0
Missing a x = (r : Area) → OneOf a r → Holds r x → ⊥

abbrev pub Forbidden : Areas → ℕ → Type 0
Forbidden a x = (r : Area) × OneOf a r × Holds r x × (Right r x → ⊥)
