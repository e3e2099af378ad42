-- One row at most: no word fits two rows of the family table, because any two of them fix some bit to different values. So the order of the
-- rows does not matter, and a row that is added takes only words that were outside.
use Prim.Native.Nat.{ℕ, zero, suc, ◌+◌, ◌-◌, ◌/◌, ◌%◌, ◌^◌, ◌≤◌, ◌<◌}
use mathlib.Core.Path.{◌≡◌, refl, sym, ap, ◌∙◌}
use mathlib.Core.Bool.{Bool, true, false, not, ◌&&◌, ◌||◌}
use mathlib.Core.List.{List, [], ◌∷◌}
use mathlib.Core.Logic.{◌⊎◌, inl, inr, ⊎_elim}
use native.Mathlib.Nat.{not-suc-le-zero, le_of_suc-le-suc}
use native.Mathlib.Omega.{arith}
use lib.Dec.{eqb, leb}
use lib.ListN.{length, get_or}
use borrow.Author.Tests.{eqb-true, leb-true, eq-eqb, not-true}
use Rattle.ground.specs.Choices.{all_of}
use Rattle.ground.specs.Lists.{any_below}
use Rattle.ground.specs.Pieces.{bits}
use Rattle.ground.proofs.Laws.{never, off, or_cases, and_left, and_right, and_both, all_of_lem, all, any_at}
use Rattle.ground.proofs.Pieces.{halves}
use Rattle.words.specs.Families.{Fixed, bits_are, tests, fits, FamilyRow, ◌⇨◌, families, read_by, read_of}
use Rattle.words.specs.Insns.{Err, Outside, Undefined}

-- ---- Two rows that fix a bit to different values

-- bit n of a word, where these bits of it are fixed
abbrev bit_in : Fixed → ℕ → ℕ
bit_in f n = f.is / 2 ^ (n - f.lo) % 2

abbrev clash_at : Fixed → Fixed → ℕ → List Bool
clash_at f g n = leb f.lo n ∷ leb n f.hi ∷ leb g.lo n ∷ leb n g.hi ∷ not (eqb (bit_in f n) (bit_in g n)) ∷ []

abbrev some : {A : Type 0} → (A → Bool) → List A → Bool
some f [] = false
some f (a ∷ l) = f a || some f l

-- some bit of a word is fixed to different values by two rows
abbrev pub clash : FamilyRow → FamilyRow → Bool
clash r s = some (λ f. some (λ g. any_below (λ n. all_of (clash_at f g n)) 32) s.bits) r.bits

-- any two rows of a table clash
abbrev pub apart : List FamilyRow → Bool
apart [] = true
apart (r ∷ rs) = all (clash r) rs && apart rs

-- the family table's do, by computation
pub families_apart : apart families ≡ true
unfolding families
families_apart = refl

module _ (w : ℕ) where
  -- the word has these bits
  abbrev Has : Fixed → Type 0
  Has f = bits w f.hi f.lo ≡ f.is

  bit_is : (f : Fixed) → Has f → (n : ℕ) → f.lo ≤ n → n ≤ f.hi → w / 2 ^ n % 2 ≡ bit_in f n
  bit_is f h n low high =
      let k = n - f.lo in
      let width : f.hi - f.lo + 1 ≡ f.hi - n + 1 + k = omega arith in
      let at : f.lo + k ≡ n = omega arith in
      let above = (halves w f.lo (f.hi - n + 1) k f.is (rw width at h)).0 in
      (halves w n (f.hi - n) 1 (f.is / 2 ^ k) (rw at at above)).1

  no_clash : (f g : Fixed) → Has f → Has g → any_below (λ n. all_of (clash_at f g n)) 32 ≡ true → ⊥
  no_clash f g p q h =
      let r = any_at (λ n. all_of (clash_at f g n)) 32 h in
      let n = r.0 in
      let t = all_of_lem (clash_at f g n) r.2 in
      let one = bit_is f p n (leb-true _ _ (t 0)) (leb-true _ _ (t 1)) in
      let two = bit_is g q n (leb-true _ _ (t 2)) (leb-true _ _ (t 3)) in
      never (eq-eqb (bit_in f n) (bit_in g n) (sym one ∙ two)) (not-true _ (t 4))

  -- one of the fixed fields of a row that fits passes a test: the word has that field
  some_has : (P : Fixed → Bool) (fs : List Fixed) → ((i : ℕ) → get_or (tests w fs) i true ≡ true) → some P fs ≡ true → (f : Fixed) × Has f × (P f ≡ true)
  some_has P [] t s = never s refl
  some_has P (f ∷ fs) t s = or_cases (P f) (some P fs) s (λ e. (f, eqb-true _ _ (t 0), e)) (λ e. some_has P fs (λ i. t (suc i)) e)

  -- so no word fits both
  pub not_both : (r s : FamilyRow) → clash r s ≡ true → fits w r.bits ≡ true → fits w s.bits ≡ true → ⊥
  not_both r s c p q =
      let f = some_has _ r.bits (all_of_lem (tests w r.bits) p) c in
      let g = some_has _ s.bits (all_of_lem (tests w s.bits) q) f.2 in
      no_clash f.0 g.0 f.1 g.1 g.2

-- ---- Any table of rows that clash

-- the row at a place of a table; past its end there is none, and a row that says outside stands for it
abbrev pub row_at : List FamilyRow → ℕ → FamilyRow
row_at rows k = get_or rows k ([] ⇨ (λ w. Err Outside))

-- the word fits the row at a place
pub record FitsAt (rows : List FamilyRow) (w k : ℕ) : Type 0 where
  pub there : k < length rows
  pub fitting : fits w (row_at rows k).bits ≡ true

-- every row of one table is in another
abbrev pub Among : List FamilyRow → List FamilyRow → Type 0
Among rows more = (k : ℕ) → k < length rows → (j : ℕ) × (j < length more) × (row_at more j ≡ row_at rows k)

all_there : (f : FamilyRow → Bool) (rows : List FamilyRow) → all f rows ≡ true → (k : ℕ) → k < length rows → f (row_at rows k) ≡ true
all_there f [] h k l = absurd (not-suc-le-zero l)
all_there f (r ∷ rs) h zero l = and_left (f r) (all f rs) h
all_there f (r ∷ rs) h (suc k) l = all_there f rs (and_right (f r) (all f rs) h) k (le_of_suc-le-suc l)

module _ (w : ℕ) where
  later : {r : FamilyRow} {rs : List FamilyRow} {k : ℕ} → FitsAt (r ∷ rs) w (suc k) → FitsAt rs w k
  later h = record { there = le_of_suc-le-suc h.there; fitting = h.fitting }

  -- the first row of a table and a later one
  first_only : (r : FamilyRow) (rs : List FamilyRow) → apart (r ∷ rs) ≡ true → (k : ℕ) → FitsAt rs w k → fits w r.bits ≡ true → ⊥
  first_only r rs a k h t = not_both w r (row_at rs k) (all_there (clash r) rs (and_left (all (clash r) rs) (apart rs) a) k h.there) t h.fitting

  -- a word fits one row at most
  pub one_place : (rows : List FamilyRow) → apart rows ≡ true → (j k : ℕ) → FitsAt rows w j → FitsAt rows w k → j ≡ k
  one_place [] a j k p q = absurd (not-suc-le-zero p.there)
  one_place (r ∷ rs) a zero zero p q = refl
  one_place (r ∷ rs) a zero (suc k) p q = absurd (first_only r rs a k (later q) p.fitting)
  one_place (r ∷ rs) a (suc j) zero p q = absurd (first_only r rs a j (later p) q.fitting)
  one_place (r ∷ rs) a (suc j) (suc k) p q = ap suc (one_place rs (and_right (all (clash r) rs) (apart rs) a) j k (later p) (later q))

  -- and is what that row says, wherever it stands
  pub place_reads : (rows : List FamilyRow) → apart rows ≡ true → (k : ℕ) → FitsAt rows w k → read_by rows w ≡ (row_at rows k).means w
  place_reads [] a k h = absurd (not-suc-le-zero h.there)
  place_reads (r ∷ rs) a zero h = rw h.fitting
  place_reads (r ∷ rs) a (suc k) h =
      rw (off (fits w r.bits) (λ t. first_only r rs a k (later h) t)) (place_reads rs (and_right (all (clash r) rs) (apart rs) a) k (later h))

  -- a word fits a row and is what that says, or fits none and is outside
  abbrev Found : List FamilyRow → Type 0
  Found rows =
      ((k : ℕ) × FitsAt rows w k × (read_by rows w ≡ (row_at rows k).means w))
      ⊎ (((k : ℕ) → FitsAt rows w k → ⊥) × (read_by rows w ≡ Err Outside))

  found : (rows : List FamilyRow) → Found rows
  found [] = inr (λ k h. not-suc-le-zero h.there, refl)
  found (r ∷ rs) = go (fits w r.bits) refl (found rs)
    where
      none : fits w r.bits ≡ false → ((k : ℕ) → FitsAt rs w k → ⊥) → (k : ℕ) → FitsAt (r ∷ rs) w k → ⊥
      none t n zero h = never h.fitting t
      none t n (suc k) h = n k (later h)

      go : (t : Bool) → fits w r.bits ≡ t → Found rs → Found (r ∷ rs)
      go true t f = inl (0, record { there = omega arith; fitting = t }, rw t)
      go false t (inl h) = let l = h.1.there in inl (suc h.0, record { there = omega arith; fitting = h.1.fitting }, rw t h.2)
      go false t (inr n) = inr (none t n.0, rw t n.1)

  -- a row of one table that fits is one of another that has its rows
  among : (rows more : List FamilyRow) → Among rows more → (k : ℕ) → FitsAt rows w k → (j : ℕ) × FitsAt more w j × (row_at more j ≡ row_at rows k)
  among rows more m k h =
      let r = m k h.there in
      (r.0, record { there = r.1; fitting = ap (λ (s : FamilyRow). fits w s.bits) r.2 ∙ h.fitting }, r.2)

  -- a row of one table that fits has a row of another that fits and says the same of the word
  abbrev pub Says : List FamilyRow → List FamilyRow → Type 0
  Says rows more = (k : ℕ) → FitsAt rows w k → (j : ℕ) × FitsAt more w j × ((row_at more j).means w ≡ (row_at rows k).means w)

  -- so a word that was not outside by the one is the same by the other
  pub still : (rows more : List FamilyRow) → apart more ≡ true → Says rows more → (read_by rows w ≡ Err Outside → ⊥) → read_by more w ≡ read_by rows w
  still rows more a s inside =
      ⊎_elim
      (λ h. let r = s h.0 h.1 in place_reads more a r.0 r.1 ∙ r.2 ∙ sym h.2)
      (λ n. absurd (inside n.1))
      (found rows)

-- ---- The family table

-- no word fits two rows of it
pub one_row : (w j k : ℕ) → FitsAt families w j → FitsAt families w k → j ≡ k
one_row w j k p q = one_place w families families_apart j k p q

-- a word that fits a row is what the row says
pub row_reads : (w k : ℕ) → k < length families → fits w (row_at families k).bits ≡ true → read_of w ≡ (row_at families k).means w
unfolding read_of
row_reads w k l t = place_reads w families families_apart k (record { there = l; fitting = t })

-- a word with bits that every row fixes otherwise is outside
pub clashing_outside : (fs : List Fixed) → all (clash (fs ⇨ (λ w. Err Outside))) families ≡ true → (w : ℕ) → fits w fs ≡ true → read_of w ≡ Err Outside
unfolding read_of
clashing_outside fs c w t =
    ⊎_elim (λ h. absurd (first_only w (fs ⇨ (λ w. Err Outside)) families (and_both _ _ c families_apart) h.0 h.1 t)) (λ n. n.1) (found w families)

-- A table with all its rows, in any order and with any further ones, as long as no word fits two, reads every word that was not outside as before;
pub settled : (rows : List FamilyRow) → apart rows ≡ true → Among families rows → (w : ℕ) → (read_of w ≡ Err Outside → ⊥) → read_by rows w ≡ read_of w
unfolding read_of
settled rows a m w inside =
    still w families rows a (λ k h. let r = among w families rows m k h in (r.0, r.1, ap (λ (s : FamilyRow). s.means w) r.2)) inside

-- .. and a row that is added takes only words that were outside.
pub added : (rows : List FamilyRow) → apart rows ≡ true → Among families rows
    → (w j : ℕ) → FitsAt rows w j → ((k : ℕ) → k < length families → row_at rows j ≡ row_at families k → ⊥) → read_of w ≡ Err Outside
unfolding read_of
added rows a m w j h new =
    ⊎_elim
    (λ f.
    let r = among w families rows m f.0 f.1 in
    absurd (new f.0 f.1.there (ap (row_at rows) (one_place w rows a j r.0 h r.1) ∙ r.2)))
    (λ n. n.1)
    (found w families)

-- The order of its rows does not matter: a table of the same rows reads every word as it does.
pub any_order : (rows : List FamilyRow) → Among families rows → Among rows families → (w : ℕ) → read_by rows w ≡ read_of w
unfolding read_of
any_order rows m n w =
    ⊎_elim
    (λ h.
    let r = among w rows families n h.0 h.1 in
    h.2 ∙ ap (λ (s : FamilyRow). s.means w) (sym r.2) ∙ sym (row_reads w r.0 r.1.there r.1.fitting))
    (λ none.
    ⊎_elim
    (λ h. let r = among w families rows m h.0 h.1 in absurd (none.0 r.0 r.1))
    (λ o. none.1 ∙ sym o.1)
    (found w families))
    (found w rows)

-- A witness that the premises can be met: our table with one row more in front, that of a prefetch, which is not wanted.
abbrev pub another : FamilyRow
another = (bits_are 31 25 0b1000010 ∷ bits_are 24 22 0b111 ∷ bits_are 15 15 0b0 ∷ bits_are 4 4 0b0 ∷ []) ⇨ (λ w. Err Undefined)

abbrev pub longer : List FamilyRow
longer = another ∷ families

longer_apart : apart longer ≡ true
unfolding families
longer_apart = refl

longer_has : Among families longer
longer_has k h = (suc k, omega arith, refl)

-- No word fits two of its rows, and it has all of ours; so every word that was not outside is read as before, and the prefetch's word 85C00000, which the
-- new row takes, was outside.
pub longer_takes : (apart longer ≡ true) × Among families longer × ((w : ℕ) → (read_of w ≡ Err Outside → ⊥) → read_by longer w ≡ read_of w)
    × (read_by longer 0x85C00000 ≡ Err Undefined) × (read_of 0x85C00000 ≡ Err Outside)
longer_takes =
    let here : FitsAt longer 0x85C00000 0 = record { there = omega arith; fitting = refl } in (
      longer_apart,
      longer_has,
      settled longer longer_apart longer_has,
      place_reads 0x85C00000 longer longer_apart 0 here,
      added longer longer_apart longer_has 0x85C00000 0 here
          (λ k h e. let same = ap (λ (r : FamilyRow). fits 0x85C00000 r.bits) e in
          first_only 0x85C00000 another families longer_apart k (record { there = h; fitting = sym same }) refl),
    )
