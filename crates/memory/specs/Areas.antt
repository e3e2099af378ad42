-- Two read-only areas, flash and RAM: which are accepted, and where an address lies.
use Rattle.std.specs.Prelude.{if◌then◌else◌, ◌≡◌, ℕ, ◌+◌, ◌-◌, ◌/◌, ◌%◌, ◌^◌, Bool, false, ◌||◌, List, [], ◌∷◌, Option, None, Some, length, ◌==◌, nat_le, nat_lt}
use Rattle.ground.specs.Choices.{all_of}
use Rattle.memory.specs.declared.Area as D
use Rattle.memory.specs.declared.Areas as DS
use Rattle.memory.specs.declared.Map.{Map}
use Rattle.memory.specs.declared.Place.{Place}
use Rattle.memory.specs.declared.Place.TheVariants.{Flash, Ram}

-- "0 to 65,536 bytes each": the most bytes of an area
abbrev pub area_limit : ℕ
area_limit = 65536

-- "one rights byte per 4,096-byte page begun": the bytes of a page, and how many pages n bytes begin
abbrev pub page_bytes : ℕ
page_bytes = 4096

abbrev pub pages_begun : ℕ → ℕ
pages_begun n = (n + page_bytes - 1) / page_bytes

-- a start, the bytes from there on, and a rights byte for each page begun
pub record Area : Type 0 where
  pub start : ℕ
  pub bytes : List ℕ
  pub rights : List ℕ

pub record Areas : Type 0 where
  pub flash : Area
  pub ram : Area

-- what the code's structs hold
abbrev pub area_of : D.Area → Area
area_of r = record { start = r.start.0; bytes = r.bytes.now; rights = r.rights.now }

abbrev pub areas_of : DS.Areas → Areas
areas_of m = record { flash = area_of m.flash; ram = area_of m.ram }

-- what is lent: where the areas start, flash, its rights, RAM, its rights
abbrev pub areas_from : Map → List ℕ → List ℕ → List ℕ → List ℕ → Areas
areas_from m flash flash_rights ram ram_rights =
    record {
      flash = record { start = m.flash.0; bytes = flash; rights = flash_rights };
      ram = record { start = m.ram.0; bytes = ram; rights = ram_rights };
    }

-- the first address beyond an area
abbrev pub end_of : ℕ → ℕ → ℕ
end_of start n = start + n

-- an area of n bytes with r rights bytes: its limit, rights, start and end
abbrev pub area_tests : ℕ → ℕ → ℕ → List Bool
area_tests start n r =
    nat_le n area_limit
    ∷ (r == pages_begun n)
    ∷ (start % page_bytes == 0)
    ∷ nat_le (end_of start n) (2 ^ 64)
    ∷ []

unfoldable pub is_area_accepted : ℕ → ℕ → ℕ → Bool
is_area_accepted start n r = all_of (area_tests start n r)

-- "no address in both": one ends before the other starts, or one is empty
unfoldable pub share_none : ℕ → ℕ → ℕ → ℕ → Bool
share_none f fn r rn = nat_le (end_of f fn) r || nat_le (end_of r rn) f || fn == 0 || rn == 0

unfoldable pub are_areas_accepted : Areas → Bool
are_areas_accepted m =
    let f = m.flash in
    let r = m.ram in
    all_of (
    is_area_accepted f.start (length f.bytes) (length f.rights)
    ∷ is_area_accepted r.start (length r.bytes) (length r.rights)
    ∷ share_none f.start (length f.bytes) r.start (length r.bytes)
    ∷ []
    )

-- what `Areas::accepted` promises
abbrev pub AreasAcceptedPromise : Areas → Bool → Type 0
AreasAcceptedPromise m r = r ≡ are_areas_accepted m

-- an area of n bytes from start on holds address a
unfoldable pub covers : ℕ → ℕ → ℕ → Bool
covers start n a = if nat_lt a start then false else nat_lt (a - start) n

-- how many bytes into such an area address a lies
unfoldable pub offset_in : ℕ → ℕ → ℕ → Option ℕ
offset_in start n a = if covers start n a then Some (a - start) else None

-- where address a lies: flash is fn bytes from f on, RAM rn bytes from r on
unfoldable pub place_of : ℕ → ℕ → ℕ → ℕ → ℕ → Option Place
place_of f fn r rn a =
    if covers f fn a then Some (Flash (a - f))
    else if covers r rn a then Some (Ram (a - r))
    else None

abbrev pub place_in : Areas → ℕ → Option Place
place_in m a = place_of m.flash.start (length m.flash.bytes) m.ram.start (length m.ram.bytes) a
