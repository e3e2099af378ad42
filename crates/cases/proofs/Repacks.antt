-- Bytes that are answered are those of a packed case, and what follows it.
use Prim.Native.Nat.{ℕ, zero, suc, ◌+◌, ◌*◌, ◌^◌, ◌≤◌, ◌<◌}
use mathlib.Core.Path.{◌≡◌, refl, sym, ◌∙◌, ap}
use mathlib.Core.Bool.{Bool, true, false}
use mathlib.Core.Logic.{◌⊎◌, inl, inr}
use mathlib.Core.List.{List, [], ◌∷◌, ◌++◌, map, flatten, append_assoc}
use native.Mathlib.Omega.{arith}
use borrow.Author.Tests.{eqb-false}
use lib.Dec.{eqb, lit<}
use lib.ListN.{length, get_or, take, drop, length-append, length-drop}
use lib.Seq.{get_or-drop}
use Rattle.ground.specs.Lists.{listed, bytes_at, EachBelow}
use Rattle.ground.proofs.Laws.{if_cases, length_listed, little_below}
use Rattle.cases.specs.Parts.{kind_in, no_numbers, carried, part_at, head_bytes, vectors_at, scalars_at, blob_at, case_bytes}
use Rattle.cases.specs.Heads.{flags_in, kind_of, numbers_of, question_of, head_of}
use Rattle.cases.specs.Packs.{Asked, in_bytes, flags_for, head_parts, question_parts, lent_parts, packed, Packable}
use Rattle.cases.specs.declared.heads.Numbers.{Numbers}
use Rattle.cases.specs.declared.heads.Question.{Question}
use Rattle.cases.specs.declared.heads.Question.TheVariants.{Step, Address, Lane}
use Rattle.cases.specs.declared.heads.Case.{Case}
use Rattle.cases.specs.Inside.{Bounds}
use Rattle.cases.proofs.Cuts.{parts_in, numbers_in, flatten_append, parts_long, parts_joined, numbers_joined, laid_packed}
use Rattle.cases.proofs.Flags.{flags_packed, kind_known, carried_with}
use Rattle.cases.proofs.Opens.{Good, kind_asked, head_least}
use Rattle.cases.proofs.Unpacks.{lengths_in, asked_from}

-- the parts of a list of bytes are bytes, and a number of n bytes fits them
take_below : (b n : ℕ) (s : List ℕ) → EachBelow b s → EachBelow b (take n s)
take_below b zero s h k = let l = h k in omega arith
take_below b (suc n) [] h k = h k
take_below b (suc n) (x ∷ s) h zero = h zero
take_below b (suc n) (x ∷ s) h (suc k) = take_below b n s (λ j. h (suc j)) k

listed_below : (b : ℕ) (f : ℕ → ℕ) → ((k : ℕ) → f k < b) → (i n : ℕ) → EachBelow b (listed f i n)
listed_below b f h i zero k = let l = h k in omega arith
listed_below b f h i (suc n) zero = h i
listed_below b f h i (suc n) (suc k) = listed_below b f h (i + 1) n k

-- one step carries no numbers
bare : (u : Question) → kind_in u ≡ 0 → carried u ≡ no_numbers
bare Step e = refl
bare (Address n) e = absurd (omega arith)
bare (Lane n) e = absurd (omega arith)

module _ (s : List ℕ) (bytes : EachBelow 256 s) where
  parts_below : (at : ℕ) (ns : List ℕ) (k : ℕ) → EachBelow 256 (get_or (parts_in s at ns) k [])
  parts_below at [] k = λ j. lit< tt
  parts_below at (n ∷ ns) zero = take_below 256 n (drop at s) (λ k. rw get_or-drop (bytes (at + k)))
  parts_below at (n ∷ ns) (suc k) = parts_below (at + n) ns k

  number_below : (at n : ℕ) → bytes_at s at n < 256 ^ n
  number_below at n = little_below (λ j. get_or s (at + j) 0) 0 n (λ j l. bytes _)

  module _ (g : Good s) where
    abbrev c : Case
    c = head_of s

    abbrev q : Asked
    q = asked_from s c

    abbrev bounds : Bounds c
    bounds = g.head.bounds

    -- every part is there, and is as long as the head says
    long : (k : ℕ) → get_or (map length (parts_in s (vectors_at c) (lengths_in c))) k 0 ≡ get_or (lengths_in c) k 0
    long k = ap (λ (ns : List ℕ). get_or ns k 0) (parts_long s (vectors_at c) (lengths_in c) g.whole)

    x_long : length q.x ≡ c.scalars
    x_long = length_listed _ 0 c.scalars

    lent_joined : drop (head_bytes (kind_in c.question)) s ≡ flatten (lent_parts q) ++ drop (case_bytes c) s
    unfolding lent_parts
    lent_joined =
        rw (← laid_packed 8 s (scalars_at c) bytes c.scalars (omega (arith, g.whole))) (parts_joined s (vectors_at c) (lengths_in c))

    -- what is asked
    kind_same : kind_in c.question ≡ kind_of (flags_in s)
    unfolding head_of
    kind_same = kind_asked s g.head.kind

    abbrev five : List ℕ
    five = 8 ∷ 8 ∷ 8 ∷ 8 ∷ 8 ∷ []

    carried_same : eqb (kind_in c.question) 0 ≡ false → carried c.question ≡ numbers_of s
    unfolding head_of question_of
    carried_same z = go (kind_known (kind_of (flags_in s)) g.head.kind)
      where
        go : (kind_of (flags_in s) ≡ 0) ⊎ (kind_of (flags_in s) ≡ 2) ⊎ (kind_of (flags_in s) ≡ 3) → carried c.question ≡ numbers_of s
        go (inl e) = absurd (eqb-false _ 0 z (kind_same ∙ e))
        go (inr h) = carried_with _ _ h

    numbers_same : eqb (kind_in c.question) 0 ≡ false → question_parts q ≡ numbers_in s 96 five
    unfolding question_parts numbers_of
    numbers_same z =
        let asked = carried_same z in
        let blob = long 7 ∙ ap (λ (n : Numbers). n.blob) asked in
        rw z (λ i. in_bytes 8 (asked i).a0 ∷ in_bytes 8 (asked i).a1 ∷ in_bytes 8 (asked i).a2 ∷ in_bytes 8 (asked i).a3 ∷ in_bytes 8 (blob i) ∷ [])

    question_by : (t : Bool) → eqb (kind_in c.question) 0 ≡ t → drop 96 s ≡ flatten (question_parts q) ++ drop (head_bytes (kind_in c.question)) s
    unfolding question_parts head_bytes flatten
    question_by true z = rw z
    question_by false z =
        let longer : head_bytes (kind_in c.question) ≡ 136 = rw z in
        rw (numbers_same z, longer) (numbers_joined s bytes 96 five (omega (arith, g.whole)))

    question_joined : drop 96 s ≡ flatten (question_parts q) ++ drop (head_bytes (kind_in c.question)) s
    question_joined = question_by (eqb (kind_in c.question) 0) refl

    flags_same : flags_for q ≡ flags_in s
    unfolding head_of
    flags_same = rw kind_same (flags_packed (flags_in s) g.head.flags)

    -- the table's rows
    abbrev widths : List ℕ
    widths = 4 ∷ 4 ∷ 4 ∷ 4 ∷ 8 ∷ 8 ∷ 8 ∷ 8 ∷ 8 ∷ 8 ∷ 8 ∷ 8 ∷ 8 ∷ 8 ∷ []

    rows_there : 96 ≤ length s
    rows_there = let l = head_least (kind_in c.question) in omega (arith, g.whole)

    rows : head_parts q ≡ numbers_in s 0 widths
    unfolding head_parts head_of
    rows = λ i.
        in_bytes 4 (sym g.head.begins i)
        ∷ in_bytes 4 q.word
        ∷ in_bytes 4 (flags_same i)
        ∷ in_bytes 4 q.level
        ∷ in_bytes 8 q.vl
        ∷ in_bytes 8 q.flash_start
        ∷ in_bytes 8 q.ram_start
        ∷ in_bytes 8 (long 0 i)
        ∷ in_bytes 8 (long 1 i)
        ∷ in_bytes 8 (x_long i)
        ∷ in_bytes 8 (long 3 i)
        ∷ in_bytes 8 (long 4 i)
        ∷ in_bytes 8 (long 5 i)
        ∷ in_bytes 8 (long 6 i)
        ∷ []

    head_joined : s ≡ flatten (head_parts q) ++ drop 96 s
    head_joined = rw rows (numbers_joined s bytes 0 widths rows_there)

    pub repacked : s ≡ packed q ++ drop (case_bytes c) s
    unfolding packed
    repacked =
        rw (flatten_append (head_parts q) (question_parts q ++ lent_parts q), flatten_append (question_parts q) (lent_parts q), append_assoc, append_assoc)
        (rw (← lent_joined, ← question_joined) head_joined)

    -- and what it is packed from can be packed
    windows : ((numbers_of s).a0 < 2 ^ 64) × ((numbers_of s).a1 < 2 ^ 64) × ((numbers_of s).a2 < 2 ^ 64) × ((numbers_of s).a3 < 2 ^ 64)
    unfolding numbers_of
    windows = (number_below 96 8, number_below 104 8, number_below 112 8, number_below 120 8)

    question_below : ((carried c.question).a0 < 2 ^ 64) × ((carried c.question).a1 < 2 ^ 64) × ((carried c.question).a2 < 2 ^ 64) × ((carried c.question).a3 < 2 ^ 64)
    unfolding head_of question_of
    question_below =
        let Below : Question → Type 0 = λ u. ((carried u).a0 < 2 ^ 64) × ((carried u).a1 < 2 ^ 64) × ((carried u).a2 < 2 ^ 64) × ((carried u).a3 < 2 ^ 64) in
        if_cases Below (eqb (kind_of (flags_in s)) 0) _ _ (λ _. (lit< tt, lit< tt, lit< tt, lit< tt)) (λ _.
        if_cases Below (eqb (kind_of (flags_in s)) 2) _ _ (λ _. windows) (λ _. windows))

    pub can_pack : Packable q
    unfolding head_of
    can_pack =
        let below = parts_below (vectors_at c) (lengths_in c) in
        record {
          word = number_below 4 4;
          vl = number_below 16 8;
          flash_start = number_below 24 8;
          ram_start = number_below 32 8;
          a0 = question_below.0;
          a1 = question_below.1;
          a2 = question_below.2;
          a3 = question_below.3;
          z = (rw (long 0) bounds.vectors, below 0);
          p = (rw (long 1) bounds.predicates, below 1);
          x = (rw x_long bounds.scalars, listed_below (2 ^ 64) _ (λ k. number_below (scalars_at c + 8 * k) 8) 0 c.scalars);
          flash = (rw (long 3) bounds.flash, below 3);
          flash_rights = (rw (long 4) bounds.flash_rights, below 4);
          ram = (rw (long 5) bounds.ram, below 5);
          ram_rights = (rw (long 6) bounds.ram_rights, below 6);
          blob = (rw (long 7) bounds.blob, below 7);
          level = g.head.level;
          kind = rw kind_same (kind_known (kind_of (flags_in s)) g.head.kind);
          bare = λ e. let b = bare c.question e in (
            ap (λ (n : Numbers). n.a0) b,
            ap (λ (n : Numbers). n.a1) b,
            ap (λ (n : Numbers). n.a2) b,
            ap (λ (n : Numbers). n.a3) b,
            ap (λ (n : Numbers). part_at s (blob_at c) n.blob) b,
          );
        }

    -- as many bytes as the case takes
    pub repacked_long : case_bytes c ≡ length (packed q)
    repacked_long =
        let l = ap length repacked ∙ length-append (packed q) (drop (case_bytes c) s) in
        omega (arith, g.whole, length-drop (case_bytes c) s)
