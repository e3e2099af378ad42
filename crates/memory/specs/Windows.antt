-- The address window: "the stretch from that byte to the area's end, handed out as a part of the flash or of the RAM that was lent".
use Rattle.std.specs.Prelude.{if◌then◌else◌, ◌≡◌, ℕ, ◌+◌, ◌-◌, List, Option, None, Some, length, take, drop}
use Rattle.std.specs.Borrow.{Bor}
use Rattle.memory.specs.Areas.{Areas, are_areas_accepted, place_in}
use Rattle.memory.specs.declared.Place.{Place}
use Rattle.memory.specs.declared.Place.TheVariants.{Flash, Ram}

-- p is the elements from a up to e of the slice s, and lies where they lie: at s's pointer, a bytes further
pub record PartOf (s p : Bor (List ℕ)) (a e : ℕ) : Type 0 where
  pub bytes : p.now ≡ take (e - a) (drop a s.now)
  pub block : p.ref_ptr.0 ≡ s.ref_ptr.0
  pub offset : p.ref_ptr.1 ≡ s.ref_ptr.1 + a

-- the part that a place names: from it to the area's end; the empty part is flash's first 0 bytes
abbrev pub Shows : Bor (List ℕ) → Bor (List ℕ) → Option Place → Bor (List ℕ) → Type 0
Shows flash ram (Some (Flash k)) p = PartOf flash p k (length flash.now)
Shows flash ram (Some (Ram k)) p = PartOf ram p k (length ram.now)
Shows flash ram None p = PartOf flash p 0 0

-- "areas that earn answer 1 by limit, number of rights bytes, start, end or overlap: an empty part"
unfoldable pub shown_place : Areas → ℕ → Option Place
shown_place m a = if are_areas_accepted m then place_in m a else None

-- what `Areas::shown_place` promises: the place that the window shows
abbrev pub PlacePromise : Areas → ℕ → Option Place → Type 0
PlacePromise m a r = r ≡ shown_place m a

-- what `window` promises, and `window_beside`
abbrev pub WindowPromise : Areas → ℕ → Bor (List ℕ) → Bor (List ℕ) → Bor (List ℕ) → Type 0
WindowPromise m a flash ram p = Shows flash ram (shown_place m a) p
