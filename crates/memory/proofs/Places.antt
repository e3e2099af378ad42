-- Where an address lies: the test `covers` is `Holds`, and a place lies within its area.
use Rattle.std.proofs.Common.{if◌then◌else◌, ◌≡◌, ℕ, ◌+◌, ◌-◌, ◌<◌, ◌≤◌, Bool, true, false, ltb, ◌↔◌, Option, None, Some, length, refl, ⊎_elim, arith, ltb-false, ltb-true, le-ltb, lt-ltb}
use Rattle.ground.proofs.Laws.{if_cases, true_or_false, never}
use Rattle.memory.specs.declared.Place.{Place}
use Rattle.memory.specs.declared.Place.TheVariants.{Flash, Ram}
use Rattle.memory.specs.Areas.{Area, Areas, covers, place_of, place_in}
use Rattle.memory.specs.Said.{Holds}

module _ (start n a : ℕ) where
  pub held : covers start n a ≡ true → (start ≤ a) × (a < start + n)
  unfolding covers
  held = if_cases (λ (t : Bool). t ≡ true → (start ≤ a) × (a < start + n)) (ltb a start) false (ltb (a - start) n)
      (λ l e. never e refl)
      (λ l e. let p = ltb-false a start l in let q = ltb-true (a - start) n e in omega arith)

  hold : start ≤ a → a < start + n → covers start n a ≡ true
  unfolding covers
  hold p q = rw (le-ltb a start p) (lt-ltb (a - start) n (omega arith))

-- the test is the statement, and so is its failure
module _ (r : Area) (a : ℕ) where
  pub holds_exactly : (covers r.start (length r.bytes) a ≡ true) ↔ Holds r a
  holds_exactly = (held r.start (length r.bytes) a, λ h. hold r.start (length r.bytes) a h.0 h.1)

  pub holds_not : (covers r.start (length r.bytes) a ≡ false) ↔ (Holds r a → ⊥)
  holds_not = (
    λ e h. never (holds_exactly.1 h) e,
    λ h. ⊎_elim (λ e. absurd (h (holds_exactly.0 e))) (λ e. e) (true_or_false (covers r.start (length r.bytes) a)),
  )

-- the area that holds an address is its place, flash before RAM
module _ (m : Areas) (a : ℕ) where
  pub place_flash : Holds m.flash a → place_in m a ≡ Some (Flash (a - m.flash.start))
  unfolding place_of
  place_flash h = rw ((holds_exactly m.flash a).1 h)

  pub place_ram : (Holds m.flash a → ⊥) → Holds m.ram a → place_in m a ≡ Some (Ram (a - m.ram.start))
  unfolding place_of
  place_ram f h = rw ((holds_not m.flash a).1 f, (holds_exactly m.ram a).1 h)

  pub place_nowhere : (Holds m.flash a → ⊥) → (Holds m.ram a → ⊥) → place_in m a ≡ None
  unfolding place_of
  place_nowhere f h = rw ((holds_not m.flash a).1 f, (holds_not m.ram a).1 h)

-- a place, between an area of fn bytes and one of rn
abbrev pub PlaceWithin : ℕ → ℕ → Option Place → Type 0
PlaceWithin fn rn (Some (Flash k)) = k < fn
PlaceWithin fn rn (Some (Ram k)) = k < rn
PlaceWithin fn rn None = Unit {0}

pub place_inside : (f fn r rn a : ℕ) → PlaceWithin fn rn (place_of f fn r rn a)
unfolding place_of
place_inside f fn r rn a =
    if_cases (PlaceWithin fn rn) (covers f fn a) (Some (Flash (a - f))) (if covers r rn a then Some (Ram (a - r)) else None)
    (λ e. let h = held f fn a e in omega arith)
    (λ _. if_cases (PlaceWithin fn rn) (covers r rn a) (Some (Ram (a - r))) None (λ e. let h = held r rn a e in omega arith) (λ _. tt))
