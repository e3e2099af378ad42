-- A stretch of one area, its first and its last byte on pages that may be read: a load finds each of its bytes, and what memory says of
-- an element in it, the stretch says.
use Rattle.std.proofs.Common.{◌≡◌, ℕ, ◌+◌, ◌-◌, ◌*◌, ◌/◌, ◌%◌, ◌<◌, ◌≤◌, true, ◌&&◌, eqb, eqb-true, List, Ok, length, get_or, take, drop, sym, ap, ◌∙◌, ⊎_elim, mod-lt, zero-add, arith, lit<, get_or-drop, get_or-take}
use borrow.Author.Tests.{eqb-false}
use Rattle.ground.specs.Lists.{bytes_at}
use Rattle.ground.specs.Sizes.{bytes_of}
use Rattle.ground.proofs.Fills.{part_length}
use Rattle.ground.proofs.Laws.{true_or_false, and_left, and_right, little_cong}
use Rattle.memory.specs.Addresses.{plus_of}
use Rattle.memory.specs.Areas.{page_bytes, Area, Areas}
use Rattle.memory.specs.Bytes.{look_of}
use Rattle.memory.specs.Elements.{reading_of}
use Rattle.memory.specs.Said.{AreaAccepted, AreasAccepted, OneOf, in_flash, in_ram}
use Rattle.memory.specs.Troubles.{byte_found}
use Rattle.memory.proofs.Looks.{right_byte}
use Rattle.memory.proofs.Elements.{value_exactly}
use Rattle.steps.specs.Lanes.{element_at}
use Rattle.steps.specs.Outcomes.{answers_in}
use Rattle.steps.specs.declared.Plan.{Plan}
use Rattle.bench.specs.Inside.Stretches.{Within, Together}
use Rattle.bench.specs.Inside.Quick.{answers_from}
use Rattle.bench.proofs.Small.{slot}

-- two rights that are tested together
pub both_ones : (x y : ℕ) → (eqb x 1 && eqb y 1) ≡ true → (x ≡ 1) × (y ≡ 1)
both_ones x y t = (eqb-true x 1 (and_left (eqb x 1) (eqb y 1) t), eqb-true y 1 (and_right (eqb x 1) (eqb y 1) t))

-- a page between two that are one, or next to each other, is one of them
between : (P : ℕ → Type 0) (p x q : ℕ) → p ≤ x → x ≤ q → q ≤ p + 1 → P p → P q → P x
between P p x q low high near at_p at_q =
    ⊎_elim
    (λ e. rw (eqb-true x p e) at_p)
    (λ e. let ne = eqb-false x p e in let other : x ≡ q = omega arith in rw other at_q)
    (true_or_false (eqb x p))

-- n bytes, no more than a page, from place `at` of an area on
module _ (r : Area) (a n at : ℕ) (few : n ≤ page_bytes) (place : at + r.start ≡ a) (inside : at + n ≤ length r.bytes)
    (first : get_or r.rights (at / page_bytes) 0 % 2 ≡ 1) (last : get_or r.rights ((at + n - 1) / page_bytes) 0 % 2 ≡ 1) where
  here : (i : ℕ) → a + i - r.start ≡ at + i
  here i = omega arith

  pub stretch_within : Within r a n (take (at + n - at) (drop at r.bytes))
  stretch_within =
      record {
        long = part_length r.bytes at n inside;
        held = λ i l. (omega arith, omega arith);
        right =
            λ i l. rw (here i) (between (λ x. get_or r.rights x 0 % 2 ≡ 1) (at / page_bytes) ((at + i) / page_bytes) ((at + n - 1) / page_bytes) (omega arith)
            (omega arith)
            (omega arith) first last);
        bytes =
            λ i l. let k : i < at + n - at = omega arith in get_or-take (at + n - at) (drop at r.bytes) i 0 k ∙ get_or-drop at r.bytes i 0
            ∙ ap (λ (j : ℕ). get_or r.bytes j 0) (sym (here i));
      }

-- .. of areas that are accepted
area_accepted : (m : Areas) → AreasAccepted m → {r : Area} → OneOf m r → AreaAccepted r
area_accepted m t in_flash = t.flash
area_accepted m t in_ram = t.ram

pub all_together : (m : Areas) → AreasAccepted m → {r : Area} → OneOf m r → {a n : ℕ} {s : List ℕ} → Within r a n s → Together m a n s
all_together m t {r} o {a} w =
    record {
      long = w.long;
      found =
          λ i l. let h = w.held i l in
          let e : plus_of a i ≡ a + i = omega (arith, (area_accepted m t o).ends) in
          rw e (right_byte m t (a + i) o h (w.right i l) ∙ ap Ok (sym (w.bytes i l)));
    }

-- k bytes on, so many bytes read as they stand in the stretch
module _ (m : Areas) (a n : ℕ) (s : List ℕ) (w : Together m a n s) where
  reads : (k size : ℕ) → k + size ≤ n → reading_of (look_of m) (plus_of a k) size ≡ Ok (bytes_at s k size)
  reads k size h =
      (value_exactly (look_of m) (plus_of a k) size (mod-lt (a + k) (lit< tt)) (bytes_at s k size)).1 (
        λ j l. (_, found j l),
        little_cong (λ j. get_or s (k + j) 0) (λ j. byte_found (look_of m (plus_of (plus_of a k) j))) 0 0 size (λ j l. rw (zero-add j, found j l)),
      )
    where
      found : (j : ℕ) → j < size → look_of m (plus_of (plus_of a k) j) ≡ Ok (get_or s (k + j) 0)
      found j l = let e : plus_of (plus_of a k) j ≡ plus_of a (k + j) = omega arith in rw e (w.found (k + j) (omega arith))

  -- .. and so each element of a plan
  pub stretch_answers : (p : Plan) → p.start.0 ≡ a → n ≡ p.elements * bytes_of p.size → (e : ℕ) → e < p.elements → answers_in m p e ≡ answers_from s p e
  unfolding answers_in element_at answers_from
  stretch_answers p begin size e l = rw begin (reads (e * bytes_of p.size) (bytes_of p.size) (rw size (slot e p.elements (bytes_of p.size) l)))
