-- The parts of a case, cut out of its bytes one behind the other.
use Rattle.std.proofs.Common.{◌≡◌, ℕ, ◌+◌, ◌*◌, ◌/◌, ◌≤◌, List, length, take, drop, get_or, ◌∙◌, ap, arith, drop-drop, length-take, length-drop}
use Rattle.ground.specs.Lists.{listed, bytes_at}
use Rattle.ground.proofs.Laws.{listed_cong, little_cong}
use Rattle.steps.specs.Benches.{Bench, lent_of}
use Rattle.steps.specs.Benches as S
use Rattle.cases.specs.Parts.{part_at, vectors_at, predicates_at, scalars_at, flash_at, flash_rights_at, ram_at, ram_rights_at, case_bytes, scalars_in, vectors_in, lent_in, bench_in, areas_in}
use Rattle.cases.specs.Inside.{bench_by, areas_by}
use Rattle.cases.specs.declared.heads.Case.{Case}
use Rattle.cases.specs.declared.parts.Parts.{Parts}
use Rattle.cases.proofs.Cuts.{byte_in}

-- r is what s has from a place on
pub record From (s : List ℕ) (at : ℕ) (r : List ℕ) : Type 0 where
  pub rest : r ≡ drop at s

-- its first n bytes are a part, and the rest begins behind them
start : {s r : List ℕ} (at : ℕ) → r ≡ drop at s → From s at r
start at h = record { rest = h }

pub front : {s r p : List ℕ} {at : ℕ} → From s at r → (n : ℕ) → p ≡ take n r → p ≡ part_at s at n
front f n h = h ∙ ap (take n) f.rest

back : {s r p : List ℕ} {at : ℕ} → From s at r → (n : ℕ) → p ≡ drop n r → From s (at + n) p
back {s} {r} {p} {at} f n h = record { rest = h ∙ ap (drop n) f.rest ∙ drop-drop n at s }

-- the rests that the parts of a case are cut from, each behind the part before it
pub record Rests (s : List ℕ) (c : Case) (v p x f fr m mr : List ℕ) : Type 0 where
  pub vectors : From s (vectors_at c) v
  pub predicates : From s (predicates_at c) p
  pub scalars : From s (scalars_at c) x
  pub flash : From s (flash_at c) f
  pub flash_rights : From s (flash_rights_at c) fr
  pub ram : From s (ram_at c) m
  pub ram_rights : From s (ram_rights_at c) mr

pub rests : {s v p x f fr m mr : List ℕ} (c : Case) → v ≡ drop (vectors_at c) s → p ≡ drop c.vectors v → x ≡ drop c.predicates p → f ≡ drop (8 * c.scalars) x
    → fr ≡ drop c.flash f → m ≡ drop c.flash_rights fr → mr ≡ drop c.ram m → Rests s c v p x f fr m mr
rests c v p x f fr m mr =
    let vectors = start (vectors_at c) v in
    let predicates = back vectors c.vectors p in
    let scalars = back predicates c.predicates x in
    let flash = back scalars (8 * c.scalars) f in
    let flash_rights = back flash c.flash fr in
    let ram = back flash_rights c.flash_rights m in
    record { vectors = vectors; predicates = predicates; scalars = scalars; flash = flash; flash_rights = flash_rights; ram = ram; ram_rights = back ram c.ram mr }

-- the numbers of a part are those that lie there
numbers_cut : (s : List ℕ) (at n : ℕ) → at + 8 * n ≤ length s
    → listed (λ i. bytes_at (part_at s at (8 * n)) (8 * i) 8) 0 n ≡ listed (λ i. bytes_at s (at + 8 * i) 8) 0 n
numbers_cut s at n fits =
    let part : List ℕ = part_at s at (8 * n) in
    listed_cong (λ i. bytes_at part (8 * i) 8) (λ i. bytes_at s (at + 8 * i) 8) 0 n
    (λ i _ l. little_cong (λ j. get_or part (8 * i + j) 0) (λ j. get_or s (at + 8 * i + j) 0) 0 0 8
    (λ j m. byte_in s at (8 * n) (8 * i + (0 + j)) (omega arith) ∙ ap (λ (k : ℕ). get_or s k 0) {y = at + 8 * i + (0 + j)} (omega arith)))

-- the parts that the step may change are the bench of the case
pub bench_cut : (s : List ℕ) (c : Case) {vectors scalars ram : List ℕ} → case_bytes c ≤ length s
    → vectors ≡ part_at s (vectors_at c) c.vectors → scalars ≡ part_at s (scalars_at c) (8 * c.scalars) → ram ≡ part_at s (ram_at c) c.ram
    → ◌≡◌ {A = Bench} (record { vectors = vectors; scalars = listed (λ i. bytes_at scalars (8 * i) 8) 0 (length scalars / 8); ram = ram }) (bench_in s c)
unfolding bench_in
bench_cut s c {vectors} {scalars} {ram} fits v x r =
    let long : length (part_at s (scalars_at c) (8 * c.scalars)) / 8 ≡ c.scalars = simp (length-take, length-drop) (omega arith) in
    let numbers : listed (λ i. bytes_at scalars (8 * i) 8) 0 (length scalars / 8) ≡ scalars_in s c = rw (x, long) (numbers_cut s (scalars_at c) c.scalars (omega arith)) in
    cc

-- so the areas are those of the case, and the vector file
module _ (s : List ℕ) (c : Case) (p : Parts) (bench : bench_by p ≡ bench_in s c) where
  pub vectors_lent : p.vectors.now ≡ vectors_in s c
  unfolding bench_in
  vectors_lent = ap (λ (b : Bench). b.vectors) bench

  pub areas_lent : lent_of p.lent ≡ lent_in s c → areas_by p ≡ areas_in s c
  unfolding areas_in lent_in bench_in
  areas_lent lent = λ i. S.areas_in (lent i) (bench i)
