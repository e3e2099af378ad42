-- What a load finds at an address: a byte, or why there is none to read.
use Rattle.std.specs.Prelude.{if◌then◌else◌, ◌≡◌, ℕ, ◌/◌, ◌%◌, Bool, List, Option, None, Some, Result, Ok, Err, ◌==◌, slice_index}
use Rattle.memory.specs.Areas.{page_bytes, Areas, place_in}
use Rattle.memory.specs.declared.Place.{Place}
use Rattle.memory.specs.declared.Place.TheVariants.{Flash, Ram}
use Rattle.memory.specs.declared.Fault.{Fault}
use Rattle.memory.specs.declared.Fault.TheVariants.{Nowhere, Denied}

-- what a load finds: the byte, or why it cannot be read
abbrev pub Cell : Type 0
Cell = Result ℕ Fault

-- the rights byte of the page that an area's byte k lies in; bit 0 is the read right, "other bits are not looked at"
abbrev pub read_right : List ℕ → ℕ → Bool
read_right rights k = slice_index rights (k / page_bytes) % 2 == 1

-- what a load finds at byte k of an area: the byte, or that its page has no read right
unfoldable pub judged : List ℕ → List ℕ → ℕ → Cell
judged bytes rights k = if read_right rights k then Ok (slice_index bytes k) else Err Denied

abbrev pub cell_at : Areas → Option Place → Cell
cell_at m (Some (Flash k)) = judged m.flash.bytes m.flash.rights k
cell_at m (Some (Ram k)) = judged m.ram.bytes m.ram.rights k
cell_at m None = Err Nowhere

unfoldable pub look_of : Areas → ℕ → Cell
look_of m a = cell_at m (place_in m a)

-- what `Areas::byte` promises
abbrev pub BytePromise : Areas → ℕ → Cell → Type 0
BytePromise m a r = r ≡ look_of m a
