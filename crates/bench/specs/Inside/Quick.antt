-- A load whose elements lie together in a stretch: what the stretch says of them, and what the functions that fill from it promise. A
-- chunk is eight bytes of a register, over which one byte of bits decides. This file serves proofs alone, and nothing in it has to be
-- believed: the promise of `step` is StepPromise of steps.
use Rattle.std.specs.Prelude.{if◌then◌else◌, ◌≡◌, ℕ, ◌+◌, ◌*◌, ◌/◌, ◌%◌, ◌^◌, ◌<◌, ◌≤◌, Bool, true, false, List, Ok, length, nat_lt, slice_index}
use Rattle.ground.specs.Lists.{replaced, bytes_at}
use Rattle.ground.specs.Sizes.{bytes_of}
use Rattle.ground.proofs.Fills.{Filled}
use Rattle.memory.specs.Addresses.{wrap}
use Rattle.memory.specs.Elements.{Reading}
use Rattle.steps.specs.Lanes.{bit_of, wanted, destination_of}
use Rattle.steps.specs.Outcomes.{extended, register_of, vectors_after}
use Rattle.steps.specs.Inside.{PlanInRange}
use Rattle.steps.specs.declared.Plan.{Plan}
use Rattle.steps.specs.declared.Rule.{Rule}
use Rattle.steps.specs.declared.Rule.TheVariants.{Always, LaneBit, ElementBit}
use Rattle.steps.proofs.Walks.{many}
use Rattle.plans.specs.Inside.{Shaped}
use Rattle.bench.specs.declared.chunks.Widening.{Widening}

-- what a stretch that starts with element 0 says of element e
unfoldable pub answers_from : List ℕ → Plan → ℕ → Reading
answers_from s p e = Ok (bytes_at s (e * bytes_of p.size) (bytes_of p.size))

-- lanes that are filled from a stretch: lane l is on where its bit is 1, and then has the element l strides on from a place, extended to 64
-- bits; it keeps as many of these bytes as it has
module _ (s : List ℕ) (from : ℕ) (bits : List ℕ) (stride : ℕ) (signed : Bool) (size width : ℕ) where
  unfoldable pub lane_from : ℕ → ℕ
  lane_from l = if bit_of bits (l * width) then wrap (extended signed size 8 (bytes_at s (from + l * stride) size)) else 0

  unfoldable pub byte_from : ℕ → ℕ
  byte_from i = lane_from (i / width) / 256 ^ (i % width) % 256

-- the elements of so many lanes lie in the stretch, the first at a place and each a stride on
abbrev pub ElementsIn : List ℕ → ℕ → ℕ → ℕ → ℕ → Type 0
ElementsIn s from stride size lanes = (l : ℕ) → l < lanes → from + l * stride + size ≤ length s

-- what is left of n bytes of lanes of `width` bytes, with the number of those that are on
pub record LanesOut (s : List ℕ) (from : ℕ) (bits : List ℕ) (stride : ℕ) (signed : Bool) (size width n : ℕ) (dst : List ℕ) (on lanes : ℕ) : Type 0 where
  pub lanes_on : on ≡ many (λ l. bit_of bits (l * width)) 0 lanes
  pub filled : Filled (byte_from s from bits stride signed size width) width n dst lanes

-- what chunks in n bytes need of the stretch, one for each byte of bits, and what is left of these bytes with the number of lanes that are on
pub record ChunksIn (k : Widening) (s bits : List ℕ) (n : ℕ) : Type 0 where
  pub room : length bits * 8 ≤ n
  pub inside : ElementsIn s 0 k.stride (bytes_of k.size) (length bits * (8 / bytes_of k.width))

abbrev pub ChunksOut : Widening → List ℕ → List ℕ → ℕ → List ℕ → ℕ → Type 0
ChunksOut k s bits n dst on =
    LanesOut s 0 bits k.stride k.signed (bytes_of k.size) (bytes_of k.width) n dst on (length bits * (8 / bytes_of k.width))

-- the first bytes of a list, over and over, up to an end
pub record Copied (dst dst' : List ℕ) (block end : ℕ) : Type 0 where
  pub long : length dst' ≡ length dst
  pub copied : (i : ℕ) → i < end → slice_index dst' i ≡ slice_index dst (i % block)

-- by the rule: whether it is that of LD1R to LD4R; the register's own chunks, which are filled from the stretch, while the rest is copies of them and
-- zeros; how far apart their elements lie; and the count of reads, from the number of lanes that are on
abbrev pub is_always : Rule → Bool
is_always Always = true
is_always LaneBit = false
is_always ElementBit = false

abbrev pub own_of : Rule → ℕ → ℕ → ℕ → ℕ
own_of Always elements filled width = 1
own_of LaneBit elements filled width = filled * width / 8
own_of ElementBit elements filled width = elements * width / 8

abbrev pub stride_of : Rule → ℕ → ℕ
stride_of Always size = 0
stride_of LaneBit size = 0
stride_of ElementBit size = size

abbrev pub count_of : Rule → ℕ → ℕ
count_of Always on = 1
count_of LaneBit on = if nat_lt 0 on then 1 else 0
count_of ElementBit on = on

-- a plan, a register of n bytes and a predicate that belong together
pub record FillFits (p : Plan) (pred : List ℕ) (n : ℕ) : Type 0 where
  pub sound : PlanInRange p
  pub shaped : Shaped p n
  pub most : n ≤ 256
  pub whole : n % 8 ≡ 0
  pub decided : is_always p.rule ≡ false → n ≤ 8 * length pred

-- a register's own chunks, of a plan
abbrev pub own_in : Plan → ℕ
own_in p = own_of p.rule p.elements p.filled (bytes_of p.lane)

-- what a fill of the one destination from a stretch needs, where the rule asks bits, and leaves
pub record FillIn (p : Plan) (pred s : List ℕ) (n : ℕ) : Type 0 where
  pub fit : FillFits p pred n
  pub asks : is_always p.rule ≡ false
  pub long : length s ≡ p.elements * bytes_of p.size

pub record FillOut (p : Plan) (pred s : List ℕ) (n : ℕ) (dst : List ℕ) (r : ℕ) : Type 0 where
  pub count : r ≡ many (wanted p pred) 0 p.elements
  pub bytes : dst ≡ register_of (answers_from s p) p pred 0 n

-- .. when the lanes that are filled from the stretch are done, before their copies
abbrev pub OwnOut : Plan → List ℕ → List ℕ → ℕ → List ℕ → ℕ → Type 0
OwnOut p pred s n dst on =
    LanesOut s 0 pred (stride_of p.rule (bytes_of p.size)) p.signed (bytes_of p.size) (bytes_of p.lane) n dst on
    (own_in p * (8 / bytes_of p.lane))

-- a number of eight bytes that is one of w bytes over and over
abbrev pub Spread : ℕ → ℕ → ℕ → Type 0
Spread v w r = (i : ℕ) → i < 8 → r / 256 ^ i % 256 ≡ v / 256 ^ (i % w) % 256

-- what the fill of LD1R to LD4R's destinations from a stretch needs, in registers of n bytes
pub record ReplicatesIn (p : Plan) (s : List ℕ) (n : ℕ) : Type 0 where
  pub sound : PlanInRange p
  pub shaped : Shaped p n
  pub most : n ≤ 256
  pub always : p.rule ≡ Always
  pub long : length s ≡ p.elements * bytes_of p.size

-- .. with the bytes of an element and of the lanes that take it, as they were found
pub record ReplicasFound (p : Plan) (s : List ℕ) (b end : ℕ) : Type 0 where
  pub always : is_always p.rule ≡ true
  pub long : length s ≡ p.elements * bytes_of p.size
  pub size : b ≡ bytes_of p.size
  pub filled : end ≡ p.filled * b

-- .. and that of one of them, with the bytes of an element and of the lanes that take it as they were found
pub record ReplicateIn (p : Plan) (s : List ℕ) (j b end n : ℕ) : Type 0 where
  pub all : ReplicatesIn p s n
  pub there : j < p.elements
  pub size : b ≡ bytes_of p.size
  pub filled : end ≡ p.filled * b

-- no predicate is asked
abbrev pub ReplicateOut : Plan → List ℕ → ℕ → ℕ → List ℕ → Type 0
ReplicateOut p s j n dst = (pred : List ℕ) → dst ≡ register_of (answers_from s p) p pred j n

-- .. in a vector file of registers of n bytes
abbrev pub DestinationOut : Plan → List ℕ → ℕ → ℕ → List ℕ → List ℕ → Type 0
DestinationOut p s j n z z' = (pred : List ℕ) → z' ≡ replaced z (destination_of p j * n) n (register_of (answers_from s p) p pred j n)

abbrev pub ReplicatesOut : Plan → List ℕ → ℕ → List ℕ → List ℕ → Type 0
ReplicatesOut p s n z z' = (pred : List ℕ) → z' ≡ vectors_after (answers_from s p) p pred n z p.elements
