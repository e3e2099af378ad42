-- What the scope of work says of the areas, a byte and an element, as statements: the laws below `proofs/` tie the definitions to them.
use Rattle.std.specs.Prelude.{◌≡◌, ℕ, ◌+◌, ◌-◌, ◌*◌, ◌/◌, ◌%◌, ◌^◌, ◌<◌, ◌≤◌, length, slice_index}
use Rattle.memory.specs.Areas.{area_limit, page_bytes, Area, Areas}

-- an area has a byte at an address
abbrev pub Holds : Area → ℕ → Type 0
Holds r a = (r.start ≤ a) × (a < r.start + length r.bytes)

-- bit 0 of the rights byte of the address's page is 1
abbrev pub Right : Area → ℕ → Type 0
Right r a = slice_index r.rights ((a - r.start) / page_bytes) % 2 ≡ 1

-- "0 to 65,536 bytes each, and one rights byte per 4,096-byte page begun", the start a multiple of 4,096, the end at most 2^64:
-- the pages of the rights bytes reach the area's last byte, and without the last of them they do not
pub record AreaAccepted (r : Area) : Type 0 where
  pub limit : length r.bytes ≤ area_limit
  pub reached : length r.bytes ≤ page_bytes * length r.rights
  pub begun : page_bytes * length r.rights < length r.bytes + page_bytes
  pub aligned : r.start % page_bytes ≡ 0
  pub ends : r.start + length r.bytes ≤ 2 ^ 64

pub record AreasAccepted (m : Areas) : Type 0 where
  pub flash : AreaAccepted m.flash
  pub ram : AreaAccepted m.ram
  pub share_none : (a : ℕ) → Holds m.flash a → Holds m.ram a → ⊥

-- an area is one of the two
pub data OneOf (m : Areas) : Area → Type 0 where
  in_flash : OneOf m m.flash
  in_ram : OneOf m m.ram

-- two memories whose areas start at the same addresses and are as long
pub record SamePlaces (m n : Areas) : Type 0 where
  pub flash_start : m.flash.start ≡ n.flash.start
  pub flash_length : length m.flash.bytes ≡ length n.flash.bytes
  pub ram_start : m.ram.start ≡ n.ram.start
  pub ram_length : length m.ram.bytes ≡ length n.ram.bytes

-- an area of one memory and the same area of the other
pub data Both (m n : Areas) : Area → Area → Type 0 where
  flashes : Both m n m.flash n.flash
  rams : Both m n m.ram n.ram
