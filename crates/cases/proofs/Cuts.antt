-- A list cut into parts, one behind the other, and numbers of so many bytes as parts.
use Prim.Native.Nat.{ℕ, zero, suc, ◌+◌, ◌*◌, ◌/◌, ◌%◌, ◌^◌, ◌≤◌, ◌<◌}
use mathlib.Core.Path.{◌≡◌, refl, sym, ◌∙◌, ap}
use mathlib.Core.List.{List, [], ◌∷◌, ◌++◌, map, flatten, append_assoc}
use native.Mathlib.Nat.{add-zero, add_assoc, zero-add, mul-zero}
use native.Mathlib.Omega.{arith}
use lib.ListN.{length, get_or, drop, length-append, length-take, length-drop, take-append-drop}
use lib.Seq.{take_at, drop_at, take-add, drop-drop, get_or-take, get_or-drop}
use Rattle.ground.specs.Lists.{listed, bytes_at, EachBelow}
use Rattle.ground.proofs.Laws.{length_listed, get_or_listed, little_cong, little_self, little_digit}
use Rattle.ground.proofs.Fills.{is_listed}
use Rattle.cases.specs.Parts.{part_at}
use Rattle.cases.specs.Packs.{in_bytes}

-- n bytes from a place on
module _ (s : List ℕ) (at n : ℕ) where
  -- .. where it is known what lies there
  module _ (b c : List ℕ) (long : length b ≡ n) (e : drop at s ≡ b ++ c) where
    pub part_there : part_at s at n ≡ b
    part_there = rw e (take_at b c n long)

    pub part_behind : drop (at + n) s ≡ c
    part_behind = rw (← drop-drop n at s, e) (drop_at b c n long)

  part_long : at + n ≤ length s → length (part_at s at n) ≡ n
  part_long fits = simp (length-take, length-drop) (omega arith)

  pub byte_in : (j : ℕ) → j < n → get_or (part_at s at n) j 0 ≡ get_or s (at + j) 0
  byte_in j l = get_or-take n (drop at s) j 0 l ∙ get_or-drop at s j 0

  -- and the number that they make
  pub number_read : (v : ℕ) → part_at s at n ≡ in_bytes n v → v < 256 ^ n → bytes_at s at n ≡ v
  number_read v e fits =
      little_cong (λ j. get_or s (at + j) 0) (λ j. v / 256 ^ j % 256) 0 0 n
      (λ j l. rw zero-add (sym (byte_in j l) ∙ ap (λ (b : List ℕ). get_or b j 0) e ∙ rw (get_or_listed (λ k. v / 256 ^ k % 256) 0 n j 0 l, zero-add)))
      ∙ little_self v n fits

  pub number_packed : EachBelow 256 s → at + n ≤ length s → part_at s at n ≡ in_bytes n (bytes_at s at n)
  number_packed bytes fits =
      is_listed (λ j. bytes_at s at n / 256 ^ j % 256) (part_at s at n) n (part_long fits)
      (λ j l. byte_in j l ∙ sym (rw zero-add at (little_digit (λ k. get_or s (at + k) 0) 0 n (λ k m. bytes _) j l)))

-- parts of given lengths from a place on
abbrev pub parts_in : List ℕ → ℕ → List ℕ → List (List ℕ)
parts_in s at [] = []
parts_in s at (n ∷ ns) = part_at s at n ∷ parts_in s (at + n) ns

pub each_part : {bs cs : List (List ℕ)} → bs ≡ cs → (k : ℕ) → get_or bs k [] ≡ get_or cs k []
each_part e k = ap (λ (l : List (List ℕ)). get_or l k []) e

-- .. and the place behind the last
abbrev pub place_behind : ℕ → List ℕ → ℕ
place_behind at [] = at
place_behind at (n ∷ ns) = place_behind (at + n) ns

pub flatten_append : (cs bs : List (List ℕ)) → flatten (cs ++ bs) ≡ flatten cs ++ flatten bs
unfolding flatten
flatten_append [] bs = refl
flatten_append (c ∷ cs) bs = rw (flatten_append cs bs, append_assoc)

-- the parts that lie behind one another are those that are cut
pub parts_read : (s : List ℕ) (at : ℕ) (bs : List (List ℕ)) (c : List ℕ) → drop at s ≡ flatten bs ++ c → parts_in s at (map length bs) ≡ bs
unfolding flatten
parts_read s at [] c h = refl
parts_read s at (b ∷ bs) c h =
    let e = h ∙ append_assoc b (flatten bs) c in
    let first = part_there s at (length b) b (flatten bs ++ c) refl e in
    let rest = parts_read s (at + length b) bs c (part_behind s at (length b) b (flatten bs ++ c) refl e) in
    cc

-- .. and what follows them begins behind the last
pub parts_behind : (s : List ℕ) (at : ℕ) (bs : List (List ℕ)) (c : List ℕ) → drop at s ≡ flatten bs ++ c → drop (place_behind at (map length bs)) s ≡ c
unfolding flatten
parts_behind s at [] c h = h
parts_behind s at (b ∷ bs) c h =
    parts_behind s (at + length b) bs c (part_behind s at (length b) b (flatten bs ++ c) refl (h ∙ append_assoc b (flatten bs) c))

pub flatten_long : (at : ℕ) (bs : List (List ℕ)) → at + length (flatten bs) ≡ place_behind at (map length bs)
unfolding flatten
flatten_long at [] = add-zero at
flatten_long at (b ∷ bs) = rw (length-append, ← add_assoc) (flatten_long (at + length b) bs)

-- what is cut, put together again, is what was there
pub parts_joined : (s : List ℕ) (at : ℕ) (ns : List ℕ) → drop at s ≡ flatten (parts_in s at ns) ++ drop (place_behind at ns) s
unfolding flatten
parts_joined s at [] = refl
parts_joined s at (n ∷ ns) = sym (take-append-drop n (drop at s)) ∙ rw (drop-drop, parts_joined s (at + n) ns, append_assoc)

-- and it is as long as it was to be, if there is enough
place_least : (at : ℕ) (ns : List ℕ) → at ≤ place_behind at ns
place_least at [] = omega arith
place_least at (n ∷ ns) = let h = place_least (at + n) ns in omega arith

pub parts_long : (s : List ℕ) (at : ℕ) (ns : List ℕ) → place_behind at ns ≤ length s → map length (parts_in s at ns) ≡ ns
parts_long s at [] fits = refl
parts_long s at (n ∷ ns) fits =
    let least = place_least (at + n) ns in
    cc (part_long s at n (omega arith), parts_long s (at + n) ns fits)

-- parts of given lengths, each written as the number that it makes
abbrev pub numbers_in : List ℕ → ℕ → List ℕ → List (List ℕ)
numbers_in s at [] = []
numbers_in s at (n ∷ ns) = in_bytes n (bytes_at s at n) ∷ numbers_in s (at + n) ns

module _ (s : List ℕ) (bytes : EachBelow 256 s) where
  numbers_packed : (at : ℕ) (ns : List ℕ) → place_behind at ns ≤ length s → parts_in s at ns ≡ numbers_in s at ns
  numbers_packed at [] fits = refl
  numbers_packed at (n ∷ ns) fits =
      let least = place_least (at + n) ns in
      cc (number_packed s at n bytes (omega arith), numbers_packed (at + n) ns fits)

  pub numbers_joined : (at : ℕ) (ns : List ℕ) → place_behind at ns ≤ length s → drop at s ≡ flatten (numbers_in s at ns) ++ drop (place_behind at ns) s
  numbers_joined at ns fits = rw (← numbers_packed at ns fits) (parts_joined s at ns)

-- numbers of w bytes each, one behind the other, from a place on
module _ (w : ℕ) where
  abbrev pub laid : List ℕ → List ℕ
  laid x = flatten (map (in_bytes w) x)

  pub laid_long : (x : List ℕ) → length (laid x) ≡ w * length x
  unfolding flatten
  laid_long [] = omega arith
  laid_long (v ∷ x) = let h = laid_long x in simp (length-append, length_listed) (omega arith)

  module _ (s : List ℕ) (at : ℕ) where
    abbrev pub numbers_from : ℕ → ℕ → List ℕ
    numbers_from = listed (λ k. bytes_at s (at + w * k) w)

    next : (i : ℕ) → at + w * (i + 1) ≡ at + w * i + w
    next i = omega arith

    read_from : (i : ℕ) (x c : List ℕ) → EachBelow (256 ^ w) x → drop (at + w * i) s ≡ laid x ++ c → numbers_from i (length x) ≡ x
    unfolding flatten
    read_from i [] c small e = refl
    read_from i (v ∷ x) c small e =
        let l = e ∙ append_assoc (in_bytes w v) (laid x) c in
        let long = length_listed _ 0 w in
        let first = number_read s (at + w * i) w v (part_there s (at + w * i) w (in_bytes w v) (laid x ++ c) long l) (small 0) in
        let rest = read_from (i + 1) x c (λ k. small (suc k)) (rw (next i) (part_behind s (at + w * i) w (in_bytes w v) (laid x ++ c) long l)) in
        cc

    packed_from : EachBelow 256 s → (i n : ℕ) → at + w * i + w * n ≤ length s → part_at s (at + w * i) (w * n) ≡ laid (numbers_from i n)
    unfolding flatten
    packed_from bytes i zero fits = rw mul-zero
    packed_from bytes i (suc n) fits =
        let more : w * suc n ≡ w + w * n = omega arith in
        let step = next i in
        let first = number_packed s (at + w * i) w bytes (omega arith) in
        let rest = packed_from bytes (i + 1) n (omega arith) in
        rw (more, take-add w (w * n), drop-drop, ← next i, rest, first)

    start : at + w * 0 ≡ at
    start = omega arith

    pub laid_read : (x : List ℕ) → EachBelow (256 ^ w) x → part_at s at (w * length x) ≡ laid x → numbers_from 0 (length x) ≡ x
    laid_read x small e =
        read_from 0 x (drop (w * length x) (drop at s)) small (rw (start, ← e) (sym (take-append-drop (w * length x) (drop at s))))

    pub laid_packed : EachBelow 256 s → (n : ℕ) → at + w * n ≤ length s → part_at s at (w * n) ≡ laid (numbers_from 0 n)
    laid_packed bytes n fits = rw start at (packed_from bytes 0 n (rw start fits))
