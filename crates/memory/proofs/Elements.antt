-- One element, over any look and any number of bytes: its value is the little-endian number of its bytes, where each is found, and its
-- trouble is that of the first bad byte, counted upward from the element's address modulo 2^64.
use Rattle.std.proofs.Common.{◌≡◌, ℕ, suc, ◌+◌, ◌-◌, ◌^◌, ◌<◌, ◌⊎◌, ◌↔◌, Ok, Err, sym, refl, ap, ◌∙◌, inl, inr, ⊎_elim, suc-add, zero-add, arith}
use Rattle.ground.specs.Lists.{little}
use Rattle.ground.proofs.Firsts.{AllGood, clear_or_first, handed_down}
use Rattle.memory.specs.Addresses.{plus_of}
use Rattle.memory.specs.Elements.{Reading, bad_at, reading_of, on_cell}
use Rattle.memory.specs.declared.Fault.{Fault}
use Rattle.memory.specs.declared.BadByte.{BadByte}
use Rattle.memory.specs.Bytes.{Cell}
use Rattle.memory.specs.Troubles.{FindsByte, byte_found, Trouble, none, bad, trouble_at, trouble_of}

-- the bytes i, i + 1 and on of the element at a, n of them
abbrev bytes : (ℕ → Cell) → ℕ → ℕ → ℕ → Reading
bytes look a i n = reading_of look (plus_of a i) n

next : (look : ℕ → Cell) (a i n : ℕ) → bytes look a i (suc n) ≡ on_cell (look (plus_of a i)) (plus_of a i) (bytes look a (i + 1) n)
unfolding reading_of
next look a i n = let e : plus_of (plus_of a i) 1 ≡ plus_of a (i + 1) = omega arith in rw e

from_start : (look : ℕ → Cell) (a n : ℕ) → a < 2 ^ 64 → reading_of look a n ≡ bytes look a 0 n
from_start look a n l = let e : plus_of a 0 ≡ a = omega arith in rw e

module _ (look : ℕ → Cell) (a n : ℕ) (l : a < 2 ^ 64) where
  abbrev Found : ℕ → Type 0
  Found k = FindsByte look (plus_of a k)

  abbrev Faulty : ℕ → Type 0
  Faulty k = (f : Fault) × (look (plus_of a k) ≡ Err f)

  found_or_faulty : (k : ℕ) → Found k ⊎ Faulty k
  found_or_faulty k = go (look (plus_of a k)) refl
    where
      go : (c : Cell) → look (plus_of a k) ≡ c → Found k ⊎ Faulty k
      go (Ok b) e = inl (b, e)
      go (Err f) e = inr (f, e)

  abbrev value : ℕ → ℕ → ℕ
  value = little (λ k. byte_found (look (plus_of a k)))

  value_from : AllGood Found 0 (0 + n) → reading_of look a n ≡ Ok (value 0 n)
  unfolding reading_of
  value_from h =
      from_start look a n l
      ∙ handed_down Found (λ (i m : ℕ). bytes look a i m ≡ Ok (value i m)) (λ i m b e. rw (next look a i m, b.1, e)) 0 n h refl

  bad_from : (k : ℕ) (f : Fault) → k < n → look (plus_of a k) ≡ Err f → AllGood Found 0 k → reading_of look a n ≡ Err (bad_at f (plus_of a k))
  bad_from k f m p h =
      let r = n - suc k in
      let e : n ≡ k + suc r = omega arith in
      from_start look a n l
      ∙ rw e (handed_down Found (λ (i m : ℕ). bytes look a i (m + suc r) ≡ Err (bad_at f (plus_of a k)))
      (λ i m b e. rw (suc-add m (suc r), next look a i (m + suc r), b.1, e))
      0 k (λ j u v. h j u (omega arith)) (rw (zero-add k, zero-add (suc r), next look a k r, p)))

  pub value_exactly : (v : ℕ) → (reading_of look a n ≡ Ok v)
      ↔ (((k : ℕ) → k < n → FindsByte look (plus_of a k)) × (v ≡ little (λ k. byte_found (look (plus_of a k))) 0 n))
  value_exactly v = (
    λ e. ⊎_elim
        (λ c. (λ k m. c k (omega arith) (omega arith), (let q = value_from c in cc)))
        (λ s.
        let t = s.to in
        let q = bad_from s.place s.bad.0 (omega arith) s.bad.1 s.before in
        let z : ◌≡◌ {A = ℕ} 0 1 = cc in
        absurd (omega arith))
        (clear_or_first Found Faulty found_or_faulty 0 n),
    λ h. value_from (λ k p q. h.0 k (omega arith)) ∙ ap Ok (sym h.1),
  )

  pub bad_exactly : (x : BadByte) → (reading_of look a n ≡ Err x)
      ↔ ((k : ℕ) × (k < n) × (look (plus_of a k) ≡ Err x.fault) × (x.at.0 ≡ plus_of a k) × ((j : ℕ) → j < k → FindsByte look (plus_of a j)))
  bad_exactly x = (
    λ e. ⊎_elim
        (λ c. let q = value_from c in let z : ◌≡◌ {A = ℕ} 0 1 = cc in absurd (omega arith))
        (λ s.
        let t = s.to in
        let p = s.bad.1 in
        let q = bad_from s.place s.bad.0 (omega arith) p s.before in
        let u : x ≡ bad_at s.bad.0 (plus_of a s.place) = cc in
        (s.place, omega arith, rw u s.bad.1, rw u, λ j m. s.before j (omega arith) m))
        (clear_or_first Found Faulty found_or_faulty 0 n),
    λ h. bad_from h.0 x.fault h.1 h.2 (λ j p q. h.4 j q) ∙ (λ j. Err (bad_at x.fault (sym h.3 j))),
  )

-- two looks that agree on the element's bytes read the same
pub reading_cong : (look other : ℕ → Cell) (a n : ℕ) → a < 2 ^ 64
    → ((k : ℕ) → k < n → look (plus_of a k) ≡ other (plus_of a k)) → reading_of look a n ≡ reading_of other a n
unfolding reading_of
reading_cong look other a n l h =
    from_start look a n l
    ∙ handed_down (λ (k : ℕ). look (plus_of a k) ≡ other (plus_of a k)) (λ (i m : ℕ). bytes look a i m ≡ bytes other a i m)
    (λ i m p e. rw (next look a i m, next other a i m, p, e)) 0 n (λ k p q. h k (omega arith)) refl
    ∙ sym (from_start other a n l)

-- the first trouble of two
abbrev after : Trouble → Trouble → Trouble
after none t = t
after (bad k x) t = bad k x

trouble_on : (c : Cell) (a : ℕ) (r : Reading) → trouble_of (on_cell c a r) ≡ after (trouble_at c a) (trouble_of r)
trouble_on (Ok b) a (Ok v) = refl
trouble_on (Ok b) a (Err x) = refl
trouble_on (Err f) a r = refl

-- two looks that agree on which of the element's bytes are bad, and how, find the same trouble
pub reading_bad_cong : (look other : ℕ → Cell) (a n : ℕ) → a < 2 ^ 64
    → ((k : ℕ) → k < n → trouble_at (look (plus_of a k)) (plus_of a k) ≡ trouble_at (other (plus_of a k)) (plus_of a k))
    → trouble_of (reading_of look a n) ≡ trouble_of (reading_of other a n)
unfolding reading_of
reading_bad_cong look other a n l h =
    ap trouble_of (from_start look a n l)
    ∙ handed_down (λ (k : ℕ). trouble_at (look (plus_of a k)) (plus_of a k) ≡ trouble_at (other (plus_of a k)) (plus_of a k))
    (λ (i m : ℕ). trouble_of (bytes look a i m) ≡ trouble_of (bytes other a i m))
    (λ i m p e. rw (next look a i m, next other a i m, trouble_on, trouble_on, p, e)) 0 n (λ k p q. h k (omega arith)) refl
    ∙ ap trouble_of (sym (from_start other a n l))
