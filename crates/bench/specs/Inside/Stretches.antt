-- What a search for a stretch says: bytes of one area that lie together, on pages that may be read. This file serves proofs alone, and
-- nothing in it has to be believed: the promise of `step` is StepPromise of steps.
use Rattle.std.specs.Prelude.{◌≡◌, ℕ, ◌+◌, ◌-◌, ◌<◌, List, Ok, length, slice_index}
use Rattle.memory.specs.Addresses.{plus_of}
use Rattle.memory.specs.Areas.{Area, Areas}
use Rattle.memory.specs.Bytes.{look_of}
use Rattle.memory.specs.Said.{Holds, Right}

-- the n bytes from address a on are an area's, each on a page with the read right, and s has them
pub record Within (r : Area) (a n : ℕ) (s : List ℕ) : Type 0 where
  pub long : length s ≡ n
  pub held : (i : ℕ) → i < n → Holds r (a + i)
  pub right : (i : ℕ) → i < n → Right r (a + i)
  pub bytes : (i : ℕ) → i < n → slice_index s i ≡ slice_index r.bytes (a + i - r.start)

-- a load finds each of the n bytes from address a on, and s has them
pub record Together (m : Areas) (a n : ℕ) (s : List ℕ) : Type 0 where
  pub long : length s ≡ n
  pub found : (i : ℕ) → i < n → look_of m (plus_of a i) ≡ Ok (slice_index s i)
