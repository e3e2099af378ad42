-- What is claimed of memory: which areas are accepted, one byte, one element, addresses, the address window.
use Prim.Native.Nat.{◌%◌, ◌+◌, ◌-◌, ◌/◌, ◌<◌, ◌^◌, ◌≤◌, ℕ}
use Rattle.std.specs.Prelude.{Err, None, Ok, Option}
use Rattle.ground.specs.Lists.{little}
use Rattle.ground.specs.Sizes.{bytes_of}
use Rattle.ground.specs.declared.Size.{Size}
use Rattle.memory.proofs.Looks.{with_right}
use Rattle.memory.proofs.Windows.{place_into, slice_of}
use Rattle.memory.specs.Addresses.{MovedPromise, PlusPromise, moved_of, plus_of, wrap, wrapℤ}
use Rattle.memory.specs.Areas.{Area, Areas, AreasAcceptedPromise, are_areas_accepted, area_limit, areas_from, areas_of, page_bytes, share_none}
use Rattle.memory.specs.Bytes.{BytePromise, Cell, judged, look_of}
use Rattle.memory.specs.Elements.{ElementPromise, Reading, reading_of}
use Rattle.memory.specs.Said.{AreaAccepted, AreasAccepted, Both, Holds, OneOf, Right}
use Rattle.memory.specs.Troubles.{FindsByte, byte_found}
use Rattle.memory.specs.Windows.{PartOf, PlacePromise, Shows, WindowPromise}
use Rattle.memory.specs.declared.Address.{Address}
use Rattle.memory.specs.declared.BadByte.{BadByte}
use Rattle.memory.specs.declared.Fault.TheVariants.{Denied, Nowhere}
use Rattle.memory.specs.declared.Map.{Map}
use Rattle.memory.specs.declared.Place.{Place}
use denote.Ref.{Bor}
use lib.IntN.{◌+ℤ◌, neg_ℤ, pos, ℤ}
use lib.ListN.{drop, get_or, length}
use mathlib.Core.Bool.{Bool, false, true}
use mathlib.Core.List.{List, []}
use mathlib.Core.Logic.{◌↔◌, ◌⊎◌}
use mathlib.Core.Path.{◌≡◌}

-- document 01's numbers, which definition, statement and code take from one place: "0 to 65,536 bytes each", "4,096-byte page"
pub numbers_said : (area_limit ≡ 65536) × (page_bytes ≡ 4096)
numbers_said = Rattle.memory.proofs.Accepts.numbers_said

-- an address that an accepted area holds has a rights byte
pub rights_there : (r : Area) → AreaAccepted r → (a : ℕ) → Holds r a → (a - r.start) / page_bytes < length r.rights
rights_there = Rattle.memory.proofs.Accepts.rights_there

pub passing_shares_none : (f r : Area) → share_none f.start (length f.bytes) r.start (length r.bytes) ≡ true → (a : ℕ) → Holds f a
    → Holds r a → ⊥
passing_shares_none = Rattle.memory.proofs.Accepts.passing_shares_none

pub overlap_shared : (f r : Area) → share_none f.start (length f.bytes) r.start (length r.bytes) ≡ false → (a : ℕ) × Holds f a × Holds r a
overlap_shared = Rattle.memory.proofs.Accepts.overlap_shared

pub areas_exactly : (m : Areas) → (are_areas_accepted m ≡ true) ↔ AreasAccepted m
areas_exactly = Rattle.memory.proofs.Accepts.areas_exactly

pub value_exactly : (look : ℕ → Cell) (a n : ℕ) (l : a < 2 ^ 64) → (v : ℕ) → (reading_of look a n ≡ Ok v)
    ↔ (((k : ℕ) → k < n → FindsByte look (plus_of a k)) × (v ≡ little (λ k. byte_found (look (plus_of a k))) 0 n))
value_exactly = Rattle.memory.proofs.Elements.value_exactly

pub bad_exactly : (look : ℕ → Cell) (a n : ℕ) (l : a < 2 ^ 64) → (x : BadByte) → (reading_of look a n ≡ Err x)
    ↔ ((k : ℕ) × (k < n) × (look (plus_of a k) ≡ Err x.fault) × (x.at.0 ≡ plus_of a k) × ((j : ℕ) → j < k → FindsByte look (plus_of a j)))
bad_exactly = Rattle.memory.proofs.Elements.bad_exactly

-- where flash holds the address, flash is looked at, whatever RAM holds
pub flash_first : (m : Areas) (a : ℕ) → Holds m.flash a → look_of m a ≡ judged m.flash.bytes m.flash.rights (a - m.flash.start)
flash_first = Rattle.memory.proofs.Looks.flash_first

pub nowhere_exactly : (m : Areas) (a : ℕ) → (look_of m a ≡ Err Nowhere) ↔ ((Holds m.flash a → ⊥) × (Holds m.ram a → ⊥))
nowhere_exactly = Rattle.memory.proofs.Looks.nowhere_exactly

pub denied_exactly : (m : Areas) (t : AreasAccepted m) (a : ℕ) → (look_of m a ≡ Err Denied) ↔ ((r : Area) × OneOf m r × Holds r a × (Right r a → ⊥))
denied_exactly = Rattle.memory.proofs.Looks.denied_exactly

pub byte_exactly : (m : Areas) (t : AreasAccepted m) (a : ℕ) → (b : ℕ) → (look_of m a ≡ Ok b)
    ↔ ((r : Area) × OneOf m r × Holds r a × Right r a × (b ≡ get_or r.bytes (a - r.start) 0))
byte_exactly = Rattle.memory.proofs.Looks.byte_exactly

pub moved_pos : (a n : ℕ) → moved_of a (pos n) ≡ wrap (a + n)
moved_pos = Rattle.memory.proofs.Moves.moved_pos

pub moved_back : (a n : ℕ) → n ≤ a → a < 2 ^ 64 → moved_of a (neg_ℤ (pos n)) ≡ a - n
moved_back = Rattle.memory.proofs.Moves.moved_back

-- 2^64 more is no other address
pub wrap_round : (z : ℤ) → wrapℤ (z +ℤ pos (2 ^ 64)) ≡ wrapℤ z
wrap_round = Rattle.memory.proofs.Moves.wrap_round

pub one_of_exactly : (m : Areas) (r : Area) → OneOf m r ↔ ((r ≡ m.flash) ⊎ (r ≡ m.ram))
one_of_exactly = Rattle.memory.proofs.Pairs.one_of_exactly

pub both_exactly : (m n : Areas) (r r' : Area) → Both m n r r' ↔ (((r ≡ m.flash) × (r' ≡ n.flash)) ⊎ ((r ≡ m.ram) × (r' ≡ n.ram)))
both_exactly = Rattle.memory.proofs.Pairs.both_exactly

pub plus_said : (a n : ℕ) (r : Address) → PlusPromise a n r → r.0 ≡ (a + n) % 2 ^ 64
plus_said = Rattle.memory.proofs.Promises.plus_said

pub moved_on_said : (a n : ℕ) (r : Address) → MovedPromise a (pos n) r → r.0 ≡ (a + n) % 2 ^ 64
moved_on_said = Rattle.memory.proofs.Promises.moved_on_said

pub moved_back_said : (a n : ℕ) (r : Address) → MovedPromise a (neg_ℤ (pos n)) r → a < 2 ^ 64 → (r.0 + n) % 2 ^ 64 ≡ a
moved_back_said = Rattle.memory.proofs.Promises.moved_back_said

pub areas_accepted_said : (m : Areas) (r : Bool) → AreasAcceptedPromise m r → (r ≡ true) ↔ AreasAccepted m
areas_accepted_said = Rattle.memory.proofs.Promises.areas_accepted_said

-- areas read off a value are those of the map and of what is lent
pub areas_read : (w : Map) (flash flash_rights ram ram_rights : Bor (List ℕ))
    → areas_of (record {
      flash = record { start = w.flash; bytes = flash; rights = flash_rights };
      ram = record { start = w.ram; bytes = ram; rights = ram_rights };
    }) ≡ areas_from w flash.now flash_rights.now ram.now ram_rights.now
areas_read = Rattle.memory.proofs.Promises.areas_read

pub byte_nowhere_said : (m : Areas) (a : ℕ) (r : Cell) (p : BytePromise m a r) → (r ≡ Err Nowhere) ↔ ((Holds m.flash a → ⊥) × (Holds m.ram a → ⊥))
byte_nowhere_said = Rattle.memory.proofs.Promises.byte_nowhere_said

pub byte_denied_said : (m : Areas) (a : ℕ) (r : Cell) (p : BytePromise m a r) → AreasAccepted m → (r ≡ Err Denied)
    ↔ ((q : Area) × OneOf m q × Holds q a × (Right q a → ⊥))
byte_denied_said = Rattle.memory.proofs.Promises.byte_denied_said

pub byte_found_said : (m : Areas) (a : ℕ) (r : Cell) (p : BytePromise m a r) → AreasAccepted m → (b : ℕ) → (r ≡ Ok b)
    ↔ ((q : Area) × OneOf m q × Holds q a × Right q a × (b ≡ get_or q.bytes (a - q.start) 0))
byte_found_said = Rattle.memory.proofs.Promises.byte_found_said

pub element_value_said : (m : Areas) (a : ℕ) (s : Size) (r : Reading) (p : ElementPromise m a s r) (l : a < 2 ^ 64) → (v : ℕ) → (r ≡ Ok v)
    ↔ (((k : ℕ) → k < bytes_of s → FindsByte (look_of m) (plus_of a k)) × (v ≡ little (λ k. byte_found (look_of m (plus_of a k))) 0 (bytes_of s)))
element_value_said = Rattle.memory.proofs.Promises.element_value_said

pub element_bad_said : (m : Areas) (a : ℕ) (s : Size) (r : Reading) (p : ElementPromise m a s r) (l : a < 2 ^ 64) → (x : BadByte)
    → (r ≡ Err x) ↔ ((k : ℕ) × (k < bytes_of s) × (look_of m (plus_of a k) ≡ Err x.fault) × (x.at.0 ≡ plus_of a k)
    × ((j : ℕ) → j < k → FindsByte (look_of m) (plus_of a j)))
element_bad_said = Rattle.memory.proofs.Promises.element_bad_said

pub plus_unique : (a n : ℕ) (x y : Address) → PlusPromise a n x → PlusPromise a n y → x ≡ y
plus_unique = Rattle.memory.proofs.Unique.plus_unique

pub moved_unique : (a : ℕ) (d : ℤ) (x y : Address) → MovedPromise a d x → MovedPromise a d y → x ≡ y
moved_unique = Rattle.memory.proofs.Unique.moved_unique

pub areas_accepted_unique : (m : Areas) → (x y : Bool) → AreasAcceptedPromise m x → AreasAcceptedPromise m y → x ≡ y
areas_accepted_unique = Rattle.memory.proofs.Unique.areas_accepted_unique

pub byte_unique : (m : Areas) → (a : ℕ) (x y : Cell) → BytePromise m a x → BytePromise m a y → x ≡ y
byte_unique = Rattle.memory.proofs.Unique.byte_unique

pub element_unique : (m : Areas) → (a : ℕ) (s : Size) (x y : Reading) → ElementPromise m a s x → ElementPromise m a s y → x ≡ y
element_unique = Rattle.memory.proofs.Unique.element_unique

pub window_unique : (m : Areas) (a : ℕ) (flash ram x y : Bor (List ℕ)) → WindowPromise m a flash ram x → WindowPromise m a flash ram y
    → (x.now ≡ y.now) × (x.ref_ptr ≡ y.ref_ptr)
window_unique = Rattle.memory.proofs.Unique.window_unique

-- the area that holds the address, once for flash and RAM
pub shows_rest : (m : Areas) (a : ℕ) (flash ram p : Bor (List ℕ)) (w : WindowPromise m a flash ram p) → AreasAccepted m → {r : Area} (o : OneOf m r)
    → Holds r a → PartOf (slice_of o flash ram) p (a - r.start) (length (slice_of o flash ram).now)
shows_rest = Rattle.memory.proofs.Windows.shows_rest

-- no such byte: an empty part, of flash
pub shows_none : (m : Areas) (a : ℕ) (flash ram p : Bor (List ℕ)) (w : WindowPromise m a flash ram p) → (Holds m.flash a → ⊥)
    → (Holds m.ram a → ⊥) → PartOf flash p 0 0
shows_none = Rattle.memory.proofs.Windows.shows_none

-- areas that are not accepted: an empty part, of flash
pub shows_none_refused : (m : Areas) (a : ℕ) (flash ram p : Bor (List ℕ)) (w : WindowPromise m a flash ram p) → (AreasAccepted m → ⊥) → PartOf flash p 0 0
shows_none_refused = Rattle.memory.proofs.Windows.shows_none_refused

-- RAM that is lent on has another ghost name, and its bytes and its place still: the window of what is lent on is a window of RAM
pub shows_lent_on : (m : Areas) (a : ℕ) (flash ram lent p : Bor (List ℕ)) → lent.now ≡ ram.now → lent.ref_ptr ≡ ram.ref_ptr
    → WindowPromise m a flash lent p → WindowPromise m a flash ram p
shows_lent_on = Rattle.memory.proofs.Windows.shows_lent_on

-- what a part is: no byte where it ends at its start, and all bytes from its start on where it ends with the slice
pub part_empty : (s p : Bor (List ℕ)) → PartOf s p 0 0 → p.now ≡ []
part_empty = Rattle.memory.proofs.Windows.part_empty

pub part_rest : (s p : Bor (List ℕ)) (k : ℕ) → PartOf s p k (length s.now) → p.now ≡ drop k s.now
part_rest = Rattle.memory.proofs.Windows.part_rest

-- the right at an address is that of its own page's rights byte, and of no other's
pub right_own : (r : Area) (a v : ℕ) → (a - r.start) / 4096 < length r.rights → Right (with_right r ((a - r.start) / 4096) v) a ↔ (v % 2 ≡ 1)
right_own = Rattle.memory.proofs.Looks.right_own

pub right_others : (r : Area) (a p v : ℕ) → ((a - r.start) / 4096 ≡ p → ⊥) → Right (with_right r p v) a ↔ Right r a
right_others = Rattle.memory.proofs.Looks.right_others

pub place_unique : (m : Areas) → (a : ℕ) (x y : Option Place) → PlacePromise m a x → PlacePromise m a y → x ≡ y
place_unique = Rattle.memory.proofs.Unique.place_unique

-- the place that the window shows
pub place_rest : (m : Areas) (a : ℕ) (q : Option Place) (w : PlacePromise m a q) → AreasAccepted m → {r : Area} (o : OneOf m r) → Holds r a
    → q ≡ place_into o (a - r.start)
place_rest = Rattle.memory.proofs.Windows.place_rest

pub place_none : (m : Areas) (a : ℕ) (q : Option Place) (w : PlacePromise m a q) → (Holds m.flash a → ⊥) → (Holds m.ram a → ⊥) → q ≡ None
place_none = Rattle.memory.proofs.Windows.place_none

pub place_none_refused : (m : Areas) (a : ℕ) (q : Option Place) (w : PlacePromise m a q) → (AreasAccepted m → ⊥) → q ≡ None
place_none_refused = Rattle.memory.proofs.Windows.place_none_refused

-- .. is that of the part that it hands out
pub place_shows : (m : Areas) (a : ℕ) (q : Option Place) (w : PlacePromise m a q) → (flash ram p : Bor (List ℕ)) → WindowPromise m a flash ram p → Shows flash ram q p
place_shows = Rattle.memory.proofs.Windows.place_shows
