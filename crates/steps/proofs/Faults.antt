-- What memory says of an active element, in the scope of work's words: it is read when each of its bytes can be read, and else
-- the first bad byte is named.
use Rattle.std.specs.Prelude.{Ok, Err}
use mathlib.Core.Path.{◌≡◌, refl, sym, ap, ◌∙◌}
use mathlib.Core.Logic.{◌↔◌}
use Prim.Native.Nat.{ℕ, ◌^◌, ◌<◌}
use native.Mathlib.Omega.{arith}
use Rattle.steps.specs.Insns.{Insn}
use Rattle.memory.specs.Addresses.{plus_of}
use Rattle.memory.specs.Areas.{Areas}
use Rattle.memory.specs.Bytes.{look_of}
use Rattle.memory.specs.Said.{AreasAccepted, in_flash, in_ram}
use Rattle.memory.specs.Troubles.{FindsByte, none, bad, trouble_of}
use Rattle.memory.specs.declared.Fault.{Fault}
use Rattle.memory.specs.declared.Fault.TheVariants.{Nowhere, Denied}
use Rattle.memory.specs.Elements.{Reading, bad_at as bad_byte, reading_of}
use Rattle.memory.proofs.Looks.{held_none, nowhere_exactly, denied_exactly, byte_exactly, right_byte}
use Rattle.memory.proofs.Elements.{value_exactly, bad_exactly}
use Rattle.steps.specs.Benches.{Lent, Bench, areas_in}
use Rattle.steps.specs.Plans.{plan_of}
use Rattle.steps.specs.Lanes.{element_at}
use Rattle.steps.specs.Outcomes.{answers_in, answers_of}
use Rattle.steps.specs.Said.{m, Active, byte_at, CanRead, Missing, Forbidden}
use Rattle.steps.specs.declared.Plan.{Plan}
use Rattle.steps.proofs.Places.{byte_lies}

-- the two ways in which a byte is bad, in the scope's words
abbrev pub IsBad : Fault → Areas → ℕ → Type 0
IsBad Nowhere = Missing
IsBad Denied = Forbidden

pub below_all : (p : Plan) (e : ℕ) → element_at p e < 2 ^ 64
unfolding element_at
below_all p e = omega arith

good_value : (r : Reading) → (trouble_of r ≡ none) ↔ ((v : ℕ) × (r ≡ Ok v))
good_value (Ok v) = (λ h. (v, refl), λ h. refl)
good_value (Err x) = (λ h. let z : ◌≡◌ {A = ℕ} 0 1 = cc in absurd (omega arith), λ h. let e = h.1 in cc)

bad_reading : (t : Fault) (a : ℕ) (r : Reading) → (trouble_of r ≡ bad t a) ↔ (r ≡ Err (bad_byte t a))
bad_reading t a (Ok v) = (λ h. cc, λ h. cc)
bad_reading t a (Err x) = (λ h. let k : x.fault ≡ t = cc in let e : x.at.0 ≡ a = cc in λ i. Err (bad_byte (k i) (e i)), λ h. cc)

module _ (s : Areas) (accepted : AreasAccepted s) (a : ℕ) where
  pub can_read : FindsByte (look_of s) a ↔ CanRead s a
  can_read = (λ h. let r = (byte_exactly s accepted a h.0).0 h.1 in (r.0, r.1, r.2, r.3), λ h. (_, right_byte s accepted a h.1 h.2 h.3))

  pub is_bad : (t : Fault) → (look_of s a ≡ Err t) ↔ IsBad t s a
  is_bad Nowhere = (λ h. held_none s a ((nowhere_exactly s a).0 h), λ h. (nowhere_exactly s a).1 (h _ in_flash, h _ in_ram))
  is_bad Denied = denied_exactly s accepted a

-- an active element of a load on accepted areas
module _ (l : Lent) (b : Bench) (accepted : AreasAccepted (areas_in l b)) (i : Insn) (e : ℕ) (active : Active l i e) where
  abbrev p : Plan
  p = plan_of l.settings.vl b.scalars i

  abbrev at : ℕ → ℕ
  at k = byte_at l b.scalars i e k

  -- the bytes that are looked at are the scope's
  lies : (k : ℕ) → plus_of (element_at p e) k ≡ at k
  lies k = byte_lies l b.scalars i e k active

  read_at : (k : ℕ) → FindsByte (look_of (areas_in l b)) (plus_of (element_at p e) k) ↔ CanRead (areas_in l b) (at k)
  read_at k = rw (lies k) (can_read (areas_in l b) accepted (at k))

  bad_at : (t : Fault) (k : ℕ) → (look_of (areas_in l b) (plus_of (element_at p e) k) ≡ Err t) ↔ IsBad t (areas_in l b) (at k)
  bad_at t k = rw (lies k) (is_bad (areas_in l b) accepted (at k) t)

  abbrev read : Reading
  read = reading_of (look_of (areas_in l b)) (element_at p e) (m i)

  pub answer_is : answers_of l b p e ≡ read
  unfolding answers_in
  answer_is = refl

  pub good_exactly : (trouble_of (answers_of l b p e) ≡ none) ↔ ((k : ℕ) → k < m i → CanRead (areas_in l b) (at k))
  good_exactly =
      let law = value_exactly (look_of (areas_in l b)) (element_at p e) (m i) (below_all p e) in (
        λ h k q. let v = (good_value read).0 (ap trouble_of (sym answer_is) ∙ h) in (read_at k).0 (((law v.0).0 v.1).0 k q),
        λ h. ap trouble_of answer_is ∙ (good_value read).1 (_, (law _).1 (λ k q. (read_at k).1 (h k q), refl)),
      )

  pub bad_exactly_at : (t : Fault) (a : ℕ) → (trouble_of (answers_of l b p e) ≡ bad t a)
      ↔ ((k : ℕ) × (k < m i) × IsBad t (areas_in l b) (at k) × (a ≡ at k) × ((j : ℕ) → j < k → CanRead (areas_in l b) (at j)))
  bad_exactly_at t a =
      let law = bad_exactly (look_of (areas_in l b)) (element_at p e) (m i) (below_all p e) (bad_byte t a) in (
        λ h. let r = law.0 ((bad_reading t a read).0 (ap trouble_of (sym answer_is) ∙ h)) in
            (r.0, r.1, (bad_at t r.0).0 r.2, r.3 ∙ lies r.0, λ j q. (read_at j).0 (r.4 j q)),
        λ h. ap trouble_of answer_is ∙ (bad_reading t a read).1 (law.1
            (h.0, h.1, (bad_at t h.0).1 h.2, h.3 ∙ sym (lies h.0), λ j q. (read_at j).1 (h.4 j q))),
      )
