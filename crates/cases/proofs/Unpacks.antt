-- A packed case, whatever follows it, is read as what it was packed from.
use Prim.Native.Nat.{ℕ, ◌+◌, ◌*◌, ◌≤◌}
use mathlib.Core.Path.{◌≡◌, refl, sym, ◌∙◌, ap}
use mathlib.Core.Bool.{Bool, true, false}
use mathlib.Core.Logic.{◌⊎◌, inl, inr}
use mathlib.Core.List.{List, [], ◌∷◌, ◌++◌, map, flatten, append_assoc}
use native.Mathlib.Nat.{zero-add}
use native.Mathlib.Omega.{arith}
use lib.Dec.{eqb}
use lib.ListN.{length, get_or, drop}
use Rattle.ground.specs.Lists.{bytes_at}
use Rattle.cases.specs.Parts.{kind_in, carried, head_bytes, vectors_at, scalars_at, case_bytes, scalars_in}
use Rattle.cases.specs.Heads.{magic, flags_in, flag_of, kind_of, question_with, numbers_of, question_of, head_of}
use Rattle.cases.specs.Packs.{Asked, in_bytes, flags_for, head_parts, asked_numbers, question_parts, lent_parts, packed, Packable, map_for, lent_for}
use Rattle.cases.specs.declared.heads.Numbers.{Numbers}
use Rattle.cases.specs.declared.heads.Question.{Question}
use Rattle.cases.specs.declared.heads.Case.{Case}
use Rattle.cases.proofs.Cuts.{number_read, parts_in, each_part, place_behind, flatten_append, parts_read, parts_behind, flatten_long, laid_long, laid_read}
use Rattle.cases.proofs.Flags.{flags_small, simd_read, sve_read, f64mm_read, kind_read, known_kind, kind_with, carried_with}

-- the head of the case that is packed
abbrev pub numbers_for : Asked → Numbers
numbers_for q = record { a0 = q.a0; a1 = q.a1; a2 = q.a2; a3 = q.a3; blob = length q.blob }

abbrev pub question_for : Asked → Question
question_for q = question_with q.kind (numbers_for q)

abbrev pub case_for : Asked → Case
case_for q =
    record {
      word = q.word;
      settings = (lent_for q).settings;
      map = map_for q;
      vectors = length q.z;
      predicates = length q.p;
      scalars = length q.x;
      flash = length q.flash;
      flash_rights = length q.flash_rights;
      ram = length q.ram;
      ram_rights = length q.ram_rights;
      question = question_for q;
    }

-- how long its parts are, and what it was packed from: its head, its level, its parts as they lie, and x
abbrev pub lengths_in : Case → List ℕ
lengths_in c = c.vectors ∷ c.predicates ∷ 8 * c.scalars ∷ c.flash ∷ c.flash_rights ∷ c.ram ∷ c.ram_rights ∷ (carried c.question).blob ∷ []

abbrev pub asked_with : Case → ℕ → Numbers → ℕ → List (List ℕ) → List ℕ → Asked
asked_with c kind n level parts x =
    record {
      word = c.word;
      simd = c.settings.simd;
      sve = c.settings.sve;
      f64mm = c.settings.f64mm;
      kind = kind;
      level = level;
      vl = c.settings.vl;
      flash_start = c.map.flash.0;
      ram_start = c.map.ram.0;
      a0 = n.a0;
      a1 = n.a1;
      a2 = n.a2;
      a3 = n.a3;
      z = get_or parts 0 [];
      p = get_or parts 1 [];
      x = x;
      flash = get_or parts 3 [];
      flash_rights = get_or parts 4 [];
      ram = get_or parts 5 [];
      ram_rights = get_or parts 6 [];
      blob = get_or parts 7 [];
    }

abbrev pub asked_from : List ℕ → Case → Asked
asked_from s c = asked_with c (kind_in c.question) (carried c.question) (bytes_at s 12 4) (parts_in s (vectors_at c) (lengths_in c)) (scalars_in s c)

module _ (q : Asked) (can : Packable q) where
  -- its kind and its numbers are those that are asked
  pub kind_for : kind_in (question_for q) ≡ q.kind
  kind_for = kind_with q.kind (numbers_for q) can.kind

  pub carried_for : carried (question_for q) ≡ numbers_for q
  carried_for = go can.kind
    where
      go : (q.kind ≡ 0) ⊎ (q.kind ≡ 2) ⊎ (q.kind ≡ 3) → carried (question_for q) ≡ numbers_for q
      go (inl e) = let bare = can.bare e in rw (e, bare.0, bare.1, bare.2, bare.3, bare.4)
      go (inr h) = carried_with q.kind (numbers_for q) h

  -- how long it is
  pub packed_long : case_bytes (case_for q) ≡ length (packed q)
  unfolding packed head_parts question_parts lent_parts head_bytes
  packed_long = rw (kind_for, carried_for) (go (eqb q.kind 0) refl) ∙ sym (flatten_long 0 all_parts) ∙ zero-add _
    where
      all_parts : List (List ℕ)
      all_parts = head_parts q ++ (question_parts q ++ lent_parts q)

      go : (t : Bool) → eqb q.kind 0 ≡ t → head_bytes q.kind + length q.z + length q.p + 8 * length q.x + length q.flash + length q.flash_rights
          + length q.ram + length q.ram_rights + length q.blob ≡ place_behind 0 (map length all_parts)
      go true z = rw (z, laid_long 8 q.x)
      go false z = rw (z, laid_long 8 q.x)

module _ (q : Asked) (can : Packable q) (rest : List ℕ) where
  abbrev stream : List ℕ
  stream = packed q ++ rest

  few : q.kind ≤ 3
  few = (known_kind q.kind can.kind).1

  -- the table's rows
  rows : parts_in stream 0 (map length (head_parts q)) ≡ head_parts q
  unfolding packed head_parts flatten
  rows = parts_read stream 0 (head_parts q) (flatten (question_parts q ++ lent_parts q) ++ rest) refl

  pub magic_read : bytes_at stream 0 4 ≡ magic
  unfolding packed head_parts flatten
  magic_read = refl

  pub flags_read : flags_in stream ≡ flags_for q
  unfolding head_parts
  flags_read = number_read stream 8 4 (flags_for q) (each_part rows 2) (flags_small q few)

  pub level_read : bytes_at stream 12 4 ≡ q.level
  unfolding head_parts
  level_read = number_read stream 12 4 q.level (each_part rows 3) (omega (arith, can.level))

  pub kind_there : kind_of (flags_in stream) ≡ q.kind
  kind_there = ap kind_of flags_read ∙ kind_read q few

  -- what is asked, and that the parts lie behind it
  asked_there : drop 96 stream ≡ flatten (question_parts q) ++ (flatten (lent_parts q) ++ rest)
  unfolding packed head_parts flatten
  asked_there = rw (flatten_append (question_parts q) (lent_parts q), append_assoc)

  question_by : (t : Bool) → eqb q.kind 0 ≡ t → (question_of stream ≡ question_for q) × (drop (head_bytes q.kind) stream ≡ flatten (lent_parts q) ++ rest)
  unfolding question_parts question_of numbers_of head_bytes flatten
  question_by true z = (rw (kind_there, z), rw z (rw z at asked_there))
  question_by false z =
      let five : List (List ℕ) = map (in_bytes 8) (asked_numbers q) in
      let behind : List ℕ = flatten (lent_parts q) ++ rest in
      let there : drop 96 stream ≡ flatten five ++ behind = rw z at asked_there in
      let numbers = parts_read stream 96 five behind there in (
        rw kind_there
            (λ i. question_with q.kind (record {
              a0 = number_read stream 96 8 q.a0 (each_part numbers 0) can.a0 i;
              a1 = number_read stream 104 8 q.a1 (each_part numbers 1) can.a1 i;
              a2 = number_read stream 112 8 q.a2 (each_part numbers 2) can.a2 i;
              a3 = number_read stream 120 8 q.a3 (each_part numbers 3) can.a3 i;
              blob = number_read stream 128 8 (length q.blob) (each_part numbers 4) (omega (arith, can.blob.0)) i;
            })),
        rw z (parts_behind stream 96 five behind there),
      )

  pub question_read : (question_of stream ≡ question_for q) × (drop (head_bytes q.kind) stream ≡ flatten (lent_parts q) ++ rest)
  question_read = question_by (eqb q.kind 0) refl

  pub head_read : head_of stream ≡ case_for q
  unfolding head_of head_parts
  head_read =
      λ i. record {
        word = number_read stream 4 4 q.word (each_part rows 1) can.word i;
        settings = record {
          vl = number_read stream 16 8 q.vl (each_part rows 4) can.vl i;
          simd = (ap (λ (f : ℕ). flag_of f 0) flags_read ∙ simd_read q few) i;
          sve = (ap (λ (f : ℕ). flag_of f 1) flags_read ∙ sve_read q few) i;
          f64mm = (ap (λ (f : ℕ). flag_of f 2) flags_read ∙ f64mm_read q few) i;
        };
        map = record {
          flash = record { 0 = number_read stream 24 8 q.flash_start (each_part rows 5) can.flash_start i };
          ram = record { 0 = number_read stream 32 8 q.ram_start (each_part rows 6) can.ram_start i };
        };
        vectors = number_read stream 40 8 (length q.z) (each_part rows 7) (omega (arith, can.z.0)) i;
        predicates = number_read stream 48 8 (length q.p) (each_part rows 8) (omega (arith, can.p.0)) i;
        scalars = number_read stream 56 8 (length q.x) (each_part rows 9) (omega (arith, can.x.0)) i;
        flash = number_read stream 64 8 (length q.flash) (each_part rows 10) (omega (arith, can.flash.0)) i;
        flash_rights = number_read stream 72 8 (length q.flash_rights) (each_part rows 11) (omega (arith, can.flash_rights.0)) i;
        ram = number_read stream 80 8 (length q.ram) (each_part rows 12) (omega (arith, can.ram.0)) i;
        ram_rights = number_read stream 88 8 (length q.ram_rights) (each_part rows 13) (omega (arith, can.ram_rights.0)) i;
        question = question_read.0 i;
      }

  parts_there : parts_in stream (vectors_at (case_for q)) (lengths_in (case_for q)) ≡ lent_parts q
  unfolding lent_parts
  parts_there = rw (kind_for q can, carried_for q can) (rw laid_long at (parts_read stream (head_bytes q.kind) (lent_parts q) rest question_read.1))

  -- so all that was packed is read back
  pub read_back : asked_from stream (head_of stream) ≡ q
  unfolding lent_parts
  read_back =
      let x = laid_read 8 stream (scalars_at (case_for q)) q.x can.x.1 (λ i. get_or (parts_there i) 2 []) in
      rw head_read (λ i. asked_with (case_for q) (kind_for q can i) (carried_for q can i) (level_read i) (parts_there i) (x i))
