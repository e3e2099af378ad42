-- One byte: a load finds it exactly where an area holds the address with the read right of its page, is denied exactly where
-- the right is missing, and finds nothing exactly where neither area holds the address.
use Rattle.std.proofs.Common.{◌≡◌, ℕ, ◌-◌, ◌/◌, ◌%◌, ◌<◌, Bool, false, eqb, ◌⊎◌, ◌↔◌, length, Ok, Err, get_or, set, sym, ap, ◌∙◌, inl, inr, ⊎_elim, arith, get_or-set_other, get_or-set_same, eq-eqb, ne_eqb, eqb-true}
use borrow.Author.Tests.{eqb-false}
use Rattle.ground.proofs.Laws.{true_or_false}
use Rattle.memory.specs.declared.Fault.TheVariants.{Nowhere, Denied}
use Rattle.memory.specs.Areas.{page_bytes, Area, Areas, covers, place_of}
use Rattle.memory.specs.Bytes.{Cell, judged, look_of}
use Rattle.memory.specs.Said.{Holds, Right, AreasAccepted, OneOf, in_flash, in_ram}
use Rattle.memory.proofs.Places.{holds_exactly, holds_not}

-- the test of whether an area holds an address
abbrev holds_at : Area → ℕ → Bool
holds_at r a = covers r.start (length r.bytes) a

-- what a load may do at an address of an area
abbrev judged_at : Area → ℕ → Cell
judged_at r a = judged r.bytes r.rights (a - r.start)

judged_right : (r : Area) (a : ℕ) → Right r a → judged_at r a ≡ Ok (get_or r.bytes (a - r.start) 0)
unfolding judged
judged_right r a h = rw (eq-eqb _ _ h)

judged_denied : (r : Area) (a : ℕ) → (Right r a → ⊥) → judged_at r a ≡ Err Denied
unfolding judged
judged_denied r a h = rw (ne_eqb _ _ h)

right_or_not : (r : Area) (a : ℕ) → Right r a ⊎ (Right r a → ⊥)
right_or_not r a =
    let x = get_or r.rights ((a - r.start) / page_bytes) 0 % 2 in
    ⊎_elim (λ e. inl (eqb-true x 1 e)) (λ e. inr (eqb-false x 1 e)) (true_or_false (eqb x 1))

-- "one rights byte per 4,096-byte page begun": an area with the rights byte of page p as v
abbrev pub with_right : Area → ℕ → ℕ → Area
with_right r p v = record { start = r.start; bytes = r.bytes; rights = set r.rights p v }

-- the right at an address is that of its own page's rights byte ..
pub right_own : (r : Area) (a v : ℕ) → (a - r.start) / 4096 < length r.rights → Right (with_right r ((a - r.start) / 4096) v) a ↔ (v % 2 ≡ 1)
right_own r a v h =
    let e = get_or-set_same r.rights ((a - r.start) / 4096) v 0 h in
    (λ (t : Right (with_right r ((a - r.start) / 4096) v) a). rw e at t, λ t. rw e t)

-- .. and of no other page's
pub right_others : (r : Area) (a p v : ℕ) → ((a - r.start) / 4096 ≡ p → ⊥) → Right (with_right r p v) a ↔ Right r a
right_others r a p v h =
    let e = get_or-set_other r.rights p ((a - r.start) / 4096) v 0 h in
    (λ (t : Right (with_right r p v) a). rw e at t, λ (t : Right r a). rw e t)

module _ (m : Areas) (a : ℕ) where
  -- where flash holds the address, flash is looked at, whatever RAM holds
  pub flash_first : Holds m.flash a → look_of m a ≡ judged m.flash.bytes m.flash.rights (a - m.flash.start)
  unfolding look_of place_of
  flash_first h = rw ((holds_exactly m.flash a).1 h)

  from_ram : holds_at m.flash a ≡ false → Holds m.ram a → look_of m a ≡ judged_at m.ram a
  unfolding look_of place_of
  from_ram e h = rw (e, (holds_exactly m.ram a).1 h)

  from_none : holds_at m.flash a ≡ false → holds_at m.ram a ≡ false → look_of m a ≡ Err Nowhere
  unfolding look_of place_of
  from_none e h = rw (e, h)

judged_somewhere : (r : Area) (a : ℕ) → judged_at r a ≡ Err Nowhere → ⊥
judged_somewhere r a e =
    ⊎_elim
    (λ h. let p = judged_right r a h in let z : ◌≡◌ {A = ℕ} 0 1 = cc in omega arith)
    (λ h. let p = judged_denied r a h in let z : ◌≡◌ {A = ℕ} 0 1 = cc in omega arith)
    (right_or_not r a)

-- which of the two areas is looked at
module _ (m : Areas) (a : ℕ) where
  -- an area holds the address and is looked at, or none does
  Found : Type 0
  Found =
      ((r : Area) × OneOf m r × Holds r a × (look_of m a ≡ judged_at r a))
      ⊎ ((Holds m.flash a → ⊥) × (Holds m.ram a → ⊥) × (look_of m a ≡ Err Nowhere))

  found : Found
  unfolding Found
  found =
      ⊎_elim
      (λ e. let h = (holds_exactly m.flash a).0 e in inl (m.flash, in_flash, h, flash_first m a h))
      (λ e. ⊎_elim
      (λ f. let h = (holds_exactly m.ram a).0 f in inl (m.ram, in_ram, h, from_ram m a e h))
      (λ f. inr ((holds_not m.flash a).0 e, (holds_not m.ram a).0 f, from_none m a e f))
      (true_or_false (holds_at m.ram a)))
      (true_or_false (holds_at m.flash a))

  pub held_none : (Holds m.flash a → ⊥) × (Holds m.ram a → ⊥) → (r : Area) → OneOf m r → Holds r a → ⊥
  held_none h r in_flash k = h.0 k
  held_none h r in_ram k = h.1 k

  pub nowhere_exactly : (look_of m a ≡ Err Nowhere) ↔ ((Holds m.flash a → ⊥) × (Holds m.ram a → ⊥))
  unfolding Found
  nowhere_exactly = (
    λ e. ⊎_elim (λ w. absurd (judged_somewhere w.0 a (sym w.3 ∙ e))) (λ w. (w.0, w.1)) found,
    λ h. ⊎_elim (λ w. absurd (held_none h w.0 w.1 w.2)) (λ w. w.2) found,
  )

-- accepted areas: one law for flash and RAM
module _ (m : Areas) (t : AreasAccepted m) (a : ℕ) where
  pub looked : {r : Area} → OneOf m r → Holds r a → look_of m a ≡ judged r.bytes r.rights (a - r.start)
  looked in_flash h = flash_first m a h
  looked in_ram h = ⊎_elim
      (λ e. absurd (t.share_none a ((holds_exactly m.flash a).0 e) h))
      (λ e. from_ram m a e h)
      (true_or_false (holds_at m.flash a))

  pub right_byte : {r : Area} → OneOf m r → Holds r a → Right r a → look_of m a ≡ Ok (get_or r.bytes (a - r.start) 0)
  right_byte {r} o h k = looked o h ∙ judged_right r a k

  pub no_right_denied : {r : Area} → OneOf m r → Holds r a → (Right r a → ⊥) → look_of m a ≡ Err Denied
  no_right_denied {r} o h k = looked o h ∙ judged_denied r a k

  pub denied_exactly : (look_of m a ≡ Err Denied) ↔ ((r : Area) × OneOf m r × Holds r a × (Right r a → ⊥))
  unfolding Found
  denied_exactly = (
    λ e. ⊎_elim
        (λ w. (w.0, w.1, w.2, λ k. let p = judged_right w.0 a k in let q = w.3 in let z : ◌≡◌ {A = ℕ} 0 1 = cc in omega arith))
        (λ w. let q = w.2 in let z : ◌≡◌ {A = ℕ} 0 1 = cc in absurd (omega arith))
        (found m a),
    λ w. no_right_denied w.1 w.2 w.3,
  )

  pub byte_exactly : (b : ℕ) → (look_of m a ≡ Ok b) ↔ ((r : Area) × OneOf m r × Holds r a × Right r a × (b ≡ get_or r.bytes (a - r.start) 0))
  unfolding Found
  byte_exactly b = (
    λ e. ⊎_elim
        (λ w. ⊎_elim
        (λ k. let p = judged_right w.0 a k in let q = w.3 in (w.0, w.1, w.2, k, cc))
        (λ k. let p = judged_denied w.0 a k in let q = w.3 in let z : ◌≡◌ {A = ℕ} 0 1 = cc in absurd (omega arith))
        (right_or_not w.0 a))
        (λ w. let q = w.2 in let z : ◌≡◌ {A = ℕ} 0 1 = cc in absurd (omega arith))
        (found m a),
    λ w. right_byte w.1 w.2 w.3 ∙ ap Ok (sym w.4),
  )
