-- What the public functions promise, in document 01's words. These laws are stated of the promises themselves, so that none of them can be
-- exchanged for another together with its code. Those of the window are in Windows.
use Rattle.std.proofs.Common.{◌≡◌, ℕ, ◌+◌, ◌-◌, ◌%◌, ◌^◌, ◌<◌, Bool, true, ◌↔◌, List, Ok, Err, Bor, get_or, pos, neg_ℤ, refl, ◌∙◌}
use Rattle.ground.specs.Lists.{little}
use Rattle.ground.specs.declared.Size.{Size}
use Rattle.ground.specs.Sizes.{bytes_of}
use Rattle.memory.specs.declared.Address.{Address}
use Rattle.memory.specs.declared.Fault.TheVariants.{Nowhere, Denied}
use Rattle.memory.specs.declared.BadByte.{BadByte}
use Rattle.memory.specs.Addresses.{plus_of, PlusPromise, MovedPromise}
use Rattle.memory.specs.Areas.{Area, Areas, areas_of, areas_from, AreasAcceptedPromise}
use Rattle.memory.specs.declared.Map.{Map}
use Rattle.memory.specs.Bytes.{Cell, look_of, BytePromise}
use Rattle.memory.specs.Elements.{Reading, ElementPromise}
use Rattle.memory.specs.Said.{Holds, Right, AreasAccepted, OneOf}
use Rattle.memory.specs.Troubles.{FindsByte, byte_found}
use Rattle.memory.proofs.Moves.{moved_pos, moved_home}
use Rattle.memory.proofs.Accepts.{areas_exactly}
use Rattle.memory.proofs.Looks.{nowhere_exactly, denied_exactly, byte_exactly}
use Rattle.memory.proofs.Elements.{value_exactly, bad_exactly}

-- "All address arithmetic is modulo 2^64": n bytes on, and n bytes back, from where n bytes on lead home
module _ (a n : ℕ) (r : Address) where
  pub plus_said : PlusPromise a n r → r.0 ≡ (a + n) % 2 ^ 64
  plus_said p = p

  pub moved_on_said : MovedPromise a (pos n) r → r.0 ≡ (a + n) % 2 ^ 64
  moved_on_said p = p ∙ moved_pos a n

  pub moved_back_said : MovedPromise a (neg_ℤ (pos n)) r → a < 2 ^ 64 → (r.0 + n) % 2 ^ 64 ≡ a
  moved_back_said p l = rw p (moved_home a n l)

pub areas_accepted_said : (m : Areas) (r : Bool) → AreasAcceptedPromise m r → (r ≡ true) ↔ AreasAccepted m
areas_accepted_said m r p = rw p (areas_exactly m)

-- areas read off a value are those of the map and of what is lent
pub areas_read : (w : Map) (flash flash_rights ram ram_rights : Bor (List ℕ))
    → areas_of (record {
      flash = record { start = w.flash; bytes = flash; rights = flash_rights };
      ram = record { start = w.ram; bytes = ram; rights = ram_rights };
    }) ≡ areas_from w flash.now flash_rights.now ram.now ram_rights.now
areas_read w flash flash_rights ram ram_rights = refl

module _ (m : Areas) (a : ℕ) (r : Cell) (p : BytePromise m a r) where
  pub byte_nowhere_said : (r ≡ Err Nowhere) ↔ ((Holds m.flash a → ⊥) × (Holds m.ram a → ⊥))
  byte_nowhere_said = rw p (nowhere_exactly m a)

  pub byte_denied_said : AreasAccepted m → (r ≡ Err Denied) ↔ ((q : Area) × OneOf m q × Holds q a × (Right q a → ⊥))
  byte_denied_said t = rw p (denied_exactly m t a)

  pub byte_found_said : AreasAccepted m → (b : ℕ)
      → (r ≡ Ok b) ↔ ((q : Area) × OneOf m q × Holds q a × Right q a × (b ≡ get_or q.bytes (a - q.start) 0))
  byte_found_said t b = rw p (byte_exactly m t a b)

module _ (m : Areas) (a : ℕ) (s : Size) (r : Reading) (p : ElementPromise m a s r) (l : a < 2 ^ 64) where
  pub element_value_said : (v : ℕ) → (r ≡ Ok v)
      ↔ (((k : ℕ) → k < bytes_of s → FindsByte (look_of m) (plus_of a k)) × (v ≡ little (λ k. byte_found (look_of m (plus_of a k))) 0 (bytes_of s)))
  element_value_said v = rw p (value_exactly (look_of m) a (bytes_of s) l v)

  pub element_bad_said : (x : BadByte) → (r ≡ Err x)
      ↔ ((k : ℕ) × (k < bytes_of s) × (look_of m (plus_of a k) ≡ Err x.fault) × (x.at.0 ≡ plus_of a k) × ((j : ℕ) → j < k → FindsByte (look_of m) (plus_of a j)))
  element_bad_said x = rw p (bad_exactly (look_of m) a (bytes_of s) l x)
