-- The address window: of areas that are accepted, the part from the address to the end of the area that holds it, and else an empty part.
use Rattle.std.proofs.Common.{◌≡◌, ℕ, ◌-◌, true, false, List, [], Option, None, Some, length, drop, refl, ◌∙◌, ⊎_elim, arith, length-drop, take_all, Bor}
use Rattle.ground.proofs.Laws.{true_or_false}
use Rattle.memory.specs.declared.Place.{Place}
use Rattle.memory.specs.declared.Place.TheVariants.{Flash, Ram}
use Rattle.memory.specs.Areas.{Area, Areas, are_areas_accepted, place_in}
use Rattle.memory.specs.Windows.{PartOf, Shows, shown_place, PlacePromise, WindowPromise}
use Rattle.memory.specs.Said.{Holds, AreasAccepted, OneOf, in_flash, in_ram}
use Rattle.memory.proofs.Places.{place_flash, place_ram, place_nowhere, PlaceWithin, place_inside}
use Rattle.memory.proofs.Accepts.{areas_exactly}

module _ (m : Areas) (a : ℕ) where
  pub shown_accepted : are_areas_accepted m ≡ true → shown_place m a ≡ place_in m a
  unfolding shown_place
  shown_accepted t = rw t

  pub shown_refused : are_areas_accepted m ≡ false → shown_place m a ≡ None
  unfolding shown_place
  shown_refused t = rw t

  -- a place that is shown lies within its area
  pub shown_within : PlaceWithin (length m.flash.bytes) (length m.ram.bytes) (shown_place m a)
  shown_within =
      ⊎_elim
      (λ t. rw (shown_accepted t) (place_inside m.flash.start (length m.flash.bytes) m.ram.start (length m.ram.bytes) a))
      (λ t. rw (shown_refused t) tt)
      (true_or_false (are_areas_accepted m))

-- the place so many bytes into an area, and the slice that its bytes are lent in
abbrev pub place_into : {m : Areas} {r : Area} → OneOf m r → ℕ → Option Place
place_into in_flash k = Some (Flash k)
place_into in_ram k = Some (Ram k)

abbrev pub slice_of : {m : Areas} {r : Area} → OneOf m r → Bor (List ℕ) → Bor (List ℕ) → Bor (List ℕ)
slice_of in_flash flash ram = flash
slice_of in_ram flash ram = ram

module _ (m : Areas) (a : ℕ) (q : Option Place) (w : PlacePromise m a q) where
  -- the area that holds the address, once for flash and RAM
  pub place_rest : AreasAccepted m → {r : Area} (o : OneOf m r) → Holds r a → q ≡ place_into o (a - r.start)
  place_rest t in_flash h = w ∙ shown_accepted m a ((areas_exactly m).1 t) ∙ place_flash m a h
  place_rest t in_ram h = w ∙ shown_accepted m a ((areas_exactly m).1 t) ∙ place_ram m a (λ k. t.share_none a k h) h

  -- no such byte
  pub place_none : (Holds m.flash a → ⊥) → (Holds m.ram a → ⊥) → q ≡ None
  place_none f r =
      w ∙ ⊎_elim (λ t. shown_accepted m a t ∙ place_nowhere m a f r) (λ t. shown_refused m a t) (true_or_false (are_areas_accepted m))

  -- areas that are not accepted
  pub place_none_refused : (AreasAccepted m → ⊥) → q ≡ None
  place_none_refused n =
      w ∙ ⊎_elim (λ t. absurd (n ((areas_exactly m).0 t))) (λ t. shown_refused m a t) (true_or_false (are_areas_accepted m))

  -- it is the place of the part that the window hands out
  pub place_shows : (flash ram p : Bor (List ℕ)) → WindowPromise m a flash ram p → Shows flash ram q p
  place_shows flash ram p h = rw w h

module _ (m : Areas) (a : ℕ) (flash ram p : Bor (List ℕ)) (w : WindowPromise m a flash ram p) where
  -- the part from the address to the end of the area that holds it, once for flash and RAM
  pub shows_rest : AreasAccepted m → {r : Area} (o : OneOf m r) → Holds r a → PartOf (slice_of o flash ram) p (a - r.start) (length (slice_of o flash ram).now)
  shows_rest t in_flash h = rw (place_rest m a _ refl t in_flash h) at w
  shows_rest t in_ram h = rw (place_rest m a _ refl t in_ram h) at w

  -- no such byte: an empty part, of flash
  pub shows_none : (Holds m.flash a → ⊥) → (Holds m.ram a → ⊥) → PartOf flash p 0 0
  shows_none f r = rw (place_none m a _ refl f r) at w

  -- areas that are not accepted: an empty part, of flash
  pub shows_none_refused : (AreasAccepted m → ⊥) → PartOf flash p 0 0
  shows_none_refused n = rw (place_none_refused m a _ refl n) at w

-- RAM that is lent on has another ghost name, and its bytes and its place still: the window of what is lent on is a window of RAM
pub shows_lent_on : (m : Areas) (a : ℕ) (flash ram lent p : Bor (List ℕ)) → lent.now ≡ ram.now → lent.ref_ptr ≡ ram.ref_ptr
    → WindowPromise m a flash lent p → WindowPromise m a flash ram p
shows_lent_on m a flash ram lent p same at = go (shown_place m a)
  where
    go : (q : Option Place) → Shows flash lent q p → Shows flash ram q p
    go (Some (Flash k)) h = h
    go (Some (Ram k)) h = record { bytes = h.bytes ∙ rw same; block = h.block ∙ rw at; offset = h.offset ∙ rw at }
    go None h = h

-- what a part is: no byte where it ends at its start, and all bytes from its start on where it ends with the slice
pub part_empty : (s p : Bor (List ℕ)) → PartOf s p 0 0 → p.now ≡ []
part_empty s p h = h.bytes

pub part_rest : (s p : Bor (List ℕ)) (k : ℕ) → PartOf s p k (length s.now) → p.now ≡ drop k s.now
part_rest s p k h = h.bytes ∙ take_all (length s.now - k) (drop k s.now) (simp length-drop (omega arith))
