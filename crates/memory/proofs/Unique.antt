-- Each public function's promise determines its answer: two answers that meet it are one. Of a window the bytes and the place are
-- determined; the ghost name of the reference is not, and no program can see it. `window` and `window_beside` have one promise.
use Rattle.std.proofs.Common.{◌≡◌, ℕ, Bool, List, Option, None, Some, ℤ, Bor}
use Rattle.ground.proofs.Laws.{only_one}
use Rattle.ground.specs.declared.Size.{Size}
use Rattle.memory.specs.declared.Address.{Address}
use Rattle.memory.specs.declared.Place.{Place}
use Rattle.memory.specs.declared.Place.TheVariants.{Flash, Ram}
use Rattle.memory.specs.Addresses.{PlusPromise, MovedPromise}
use Rattle.memory.specs.Areas.{Areas, AreasAcceptedPromise}
use Rattle.memory.specs.Bytes.{Cell, BytePromise}
use Rattle.memory.specs.Elements.{Reading, ElementPromise}
use Rattle.memory.specs.Windows.{PartOf, Shows, shown_place, PlacePromise, WindowPromise}

-- an address is its number
pub address_unique : {n : ℕ} (x y : Address) → x.0 ≡ n → y.0 ≡ n → x ≡ y
address_unique x y p q = λ i. record { 0 = only_one p q i }

pub plus_unique : (a n : ℕ) (x y : Address) → PlusPromise a n x → PlusPromise a n y → x ≡ y
plus_unique a n x y p q = address_unique x y p q

pub moved_unique : (a : ℕ) (d : ℤ) (x y : Address) → MovedPromise a d x → MovedPromise a d y → x ≡ y
moved_unique a d x y p q = address_unique x y p q

module _ (m : Areas) where
  pub areas_accepted_unique : (x y : Bool) → AreasAcceptedPromise m x → AreasAcceptedPromise m y → x ≡ y
  areas_accepted_unique x y p q = only_one p q

  pub byte_unique : (a : ℕ) (x y : Cell) → BytePromise m a x → BytePromise m a y → x ≡ y
  byte_unique a x y p q = only_one p q

  pub element_unique : (a : ℕ) (s : Size) (x y : Reading) → ElementPromise m a s x → ElementPromise m a s y → x ≡ y
  element_unique a s x y p q = only_one p q

  pub place_unique : (a : ℕ) (x y : Option Place) → PlacePromise m a x → PlacePromise m a y → x ≡ y
  place_unique a x y p q = only_one p q

-- two parts of one slice, from one place to another
part_unique : {s x y : Bor (List ℕ)} {a e : ℕ} → PartOf s x a e → PartOf s y a e → (x.now ≡ y.now) × (x.ref_ptr ≡ y.ref_ptr)
part_unique p q =
    (only_one p.bytes q.bytes, λ i. (only_one p.block q.block i, only_one p.offset q.offset i))

pub window_unique : (m : Areas) (a : ℕ) (flash ram x y : Bor (List ℕ))
    → WindowPromise m a flash ram x → WindowPromise m a flash ram y → (x.now ≡ y.now) × (x.ref_ptr ≡ y.ref_ptr)
window_unique m a flash ram x y = go (shown_place m a)
  where
    go : (p : Option Place) → Shows flash ram p x → Shows flash ram p y → (x.now ≡ y.now) × (x.ref_ptr ≡ y.ref_ptr)
    go (Some (Flash k)) p q = part_unique p q
    go (Some (Ram k)) p q = part_unique p q
    go None p q = part_unique p q
