-- Areas are accepted exactly as the scope of work says: limit, a rights byte for each page begun, start, end, and no address in both.
use Rattle.std.proofs.Common.{◌≡◌, ℕ, ◌+◌, ◌-◌, ◌/◌, ◌<◌, ◌≤◌, Bool, true, false, ◌||◌, eqb, ltb, leb, ◌↔◌, List, [], ◌∷◌, length, refl, ⊎_elim, arith, ltb-false, ltb-true, eq-eqb, eqb-true, le-leb, leb-false, leb-true}
use borrow.Author.Tests.{eqb-false}
use Rattle.std.proofs.lemmas.Bool.{or_parts}
use Rattle.ground.proofs.Laws.{all_of_lem, all_hold, true_or_false, or_cases}
use Rattle.memory.specs.Areas.{area_limit, page_bytes, Area, Areas, end_of, area_tests, is_area_accepted, share_none, are_areas_accepted}
use Rattle.memory.specs.Said.{Holds, AreaAccepted, AreasAccepted}

-- document 01's numbers, which definition, statement and code take from one place: "0 to 65,536 bytes each", "4,096-byte page"
pub numbers_said : (area_limit ≡ 65536) × (page_bytes ≡ 4096)
numbers_said = (refl, refl)

-- one area by itself
module _ (r : Area) where
  abbrev n : ℕ
  n = length r.bytes

  abbrev k : ℕ
  k = length r.rights

  pub area_exactly : (is_area_accepted r.start (length r.bytes) (length r.rights) ≡ true) ↔ AreaAccepted r
  unfolding is_area_accepted
  area_exactly = (
    λ h.
        let at = all_of_lem (area_tests r.start n k) h in
        let p = at 0 in
        let q = at 1 in
        let u = at 2 in
        let v = at 3 in
        omega (arith, leb-true, eqb-true),
    λ t. all_hold (area_tests r.start n k) (omega (arith, le-leb, eq-eqb)),
  )

-- an address that an accepted area holds has a rights byte
pub rights_there : (r : Area) → AreaAccepted r → (a : ℕ) → Holds r a → (a - r.start) / page_bytes < length r.rights
rights_there r t a h = let e = t.reached in omega arith

-- ---- two areas, of fn bytes from f on and of rn bytes from r on
module _ (f fn r rn : ℕ) where
  abbrev one : Bool
  one = leb (end_of f fn) r

  abbrev two : Bool
  two = leb (end_of r rn) f

  apart_none : share_none f fn r rn ≡ true → (a : ℕ) → (f ≤ a) × (a < f + fn) → (r ≤ a) × (a < r + rn) → ⊥
  unfolding share_none
  apart_none e a p q =
      or_cases (one || two || eqb fn 0) (eqb rn 0) e
      (λ e. or_cases (one || two) (eqb fn 0) e
      (λ e. or_cases one two e
      (λ e. let l = leb-true (end_of f fn) r e in omega arith)
      (λ e. let l = leb-true (end_of r rn) f e in omega arith))
      (λ e. let l = eqb-true fn 0 e in omega arith))
      (λ e. let l = eqb-true rn 0 e in omega arith)

  -- the start of the one that starts later
  shared : share_none f fn r rn ≡ false → (a : ℕ) × ((f ≤ a) × (a < f + fn)) × ((r ≤ a) × (a < r + rn))
  unfolding share_none
  shared e =
      let w = or_parts (one || two || eqb fn 0) (eqb rn 0) e in
      let v = or_parts (one || two) (eqb fn 0) w.0 in
      let u = or_parts one two v.0 in
      let p = leb-false (end_of f fn) r u.0 in
      let q = leb-false (end_of r rn) f u.1 in
      let x = eqb-false fn 0 v.1 in
      let y = eqb-false rn 0 w.1 in
      ⊎_elim
      (λ t. let l = ltb-true f r t in (r, omega arith, omega arith))
      (λ t. let l = ltb-false f r t in (f, omega arith, omega arith))
      (true_or_false (ltb f r))

-- areas that pass the test share no address, and those that fail it do share one; an empty area holds none
module _ (f r : Area) where
  pub passing_shares_none : share_none f.start (length f.bytes) r.start (length r.bytes) ≡ true → (a : ℕ) → Holds f a → Holds r a → ⊥
  passing_shares_none = apart_none f.start (length f.bytes) r.start (length r.bytes)

  pub overlap_shared : share_none f.start (length f.bytes) r.start (length r.bytes) ≡ false → (a : ℕ) × Holds f a × Holds r a
  overlap_shared = shared f.start (length f.bytes) r.start (length r.bytes)

  shares_none_passes : ((a : ℕ) → Holds f a → Holds r a → ⊥) → share_none f.start (length f.bytes) r.start (length r.bytes) ≡ true
  shares_none_passes h =
      ⊎_elim
      (λ e. e)
      (λ e. let w = overlap_shared e in absurd (h w.0 w.1 w.2))
      (true_or_false (share_none f.start (length f.bytes) r.start (length r.bytes)))

-- the three tests of two areas
abbrev tests : Areas → List Bool
tests m =
    is_area_accepted m.flash.start (length m.flash.bytes) (length m.flash.rights)
    ∷ is_area_accepted m.ram.start (length m.ram.bytes) (length m.ram.rights)
    ∷ share_none m.flash.start (length m.flash.bytes) m.ram.start (length m.ram.bytes)
    ∷ []

pub areas_exactly : (m : Areas) → (are_areas_accepted m ≡ true) ↔ AreasAccepted m
unfolding are_areas_accepted
areas_exactly m = (
  λ h.
      let at = all_of_lem (tests m) h in
      record {
        flash = (area_exactly m.flash).0 (at 0);
        ram = (area_exactly m.ram).0 (at 1);
        share_none = passing_shares_none m.flash m.ram (at 2);
      },
  λ t.
      all_hold (tests m) (
        (area_exactly m.flash).1 t.flash,
        (
          (area_exactly m.ram).1 t.ram,
          (shares_none_passes m.flash m.ram t.share_none, tt),
        ),
      ),
)
