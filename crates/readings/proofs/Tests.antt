-- What can be computed of a case: a comparison that holds says that the two are equal, so that the readings can be settled by computing it; and a bench
-- whose numbers are small enough is one that can come in.
use Rattle.std.proofs.Common.{◌≡◌, ℕ, ◌^◌, Bool, true, false, ltb, List, [], ◌∷◌, sym, refl, ltb-true, eqb-true}
use borrow.Author.Tests.{not-true}
use Rattle.ground.specs.Choices.{all_of}
use Rattle.ground.proofs.Laws.{and_left, and_right, all, all_of_lem, alike_same, each_below}
use Rattle.memory.specs.declared.Map.{Map}
use Rattle.steps.specs.Answers.{Report}
use Rattle.steps.specs.Benches.{Lent, Bench, InTypes}
use Rattle.steps.specs.Outcomes.{Outcome}
use Rattle.steps.specs.declared.Settings.{Settings}
use Rattle.readings.proofs.Cases.{StarredCase, expected, Ended, same_bool, same_report, same_settings, same_map, same_lent, outcome_fits, is_right}

-- what the tests of a conjunction say
ruleset met = (eqb-true, and_left, and_right)

pub switches : (a b : Bool) → same_bool a b ≡ true → a ≡ b
switches true b h = sym h
switches false b h = sym (not-true b h)

reports : (r t : Report) → same_report r t ≡ true → r ≡ t
reports r t h =
    let n : r.number ≡ t.number = search met in
    let c : r.count ≡ t.count = search met in
    let e : r.element ≡ t.element = search met in
    let a : r.address ≡ t.address = search met in
    λ i. record { number = n i; count = c i; element = e i; address = a i }

settings : (s t : Settings) → same_settings s t ≡ true → s ≡ t
settings s t h =
    let v : s.vl ≡ t.vl = search met in
    let simd : s.simd ≡ t.simd = search (switches, met) in
    let sve : s.sve ≡ t.sve = search (switches, met) in
    let f64mm : s.f64mm ≡ t.f64mm = search (switches, met) in
    λ i. record { vl = v i; simd = simd i; sve = sve i; f64mm = f64mm i }

maps : (m n : Map) → same_map m n ≡ true → m ≡ n
maps m n h =
    let f : m.flash.0 ≡ n.flash.0 = search met in
    let r : m.ram.0 ≡ n.ram.0 = search met in
    λ i. record { flash = record { 0 = f i }; ram = record { 0 = r i } }

lents : (l k : Lent) → same_lent l k ≡ true → l ≡ k
lents l k h =
    let s : l.settings ≡ k.settings = search (settings, met) in
    let p : l.predicates ≡ k.predicates = search (alike_same, met) in
    let m : l.map ≡ k.map = search (maps, met) in
    let f : l.flash ≡ k.flash = search (alike_same, met) in
    let g : l.flash_rights ≡ k.flash_rights = search (alike_same, met) in
    let r : l.ram_rights ≡ k.ram_rights = search (alike_same, met) in
    λ i. record { settings = s i; predicates = p i; map = m i; flash = f i; flash_rights = g i; ram_rights = r i }

fits : (c : StarredCase) (o : Outcome) → outcome_fits c o ≡ true → o ≡ expected c
fits c o h =
    let r : o.report ≡ c.report = search (reports, met) in
    let z : o.bench.vectors ≡ c.vectors = search (alike_same, met) in
    let x : o.bench.scalars ≡ c.scalars = search (alike_same, met) in
    let m : o.bench.ram ≡ c.bench.ram = search (alike_same, met) in
    let l : o.lent ≡ c.lent = search (lents, met) in
    λ i. record { report = r i; lent = l i; bench = record { vectors = z i; scalars = x i; ram = m i } }

pub ended : (c : StarredCase) → is_right c ≡ true → Ended c
ended c h = fits c _ h

abbrev are_below : ℕ → List ℕ → Bool
are_below n s = all (λ v. ltb v n) s

-- what comes in is what its types hold
abbrev pub type_tests : Lent → ℕ → Bench → List Bool
type_tests l w b =
    ltb w (2 ^ 32)
    ∷ are_below 256 b.vectors
    ∷ are_below 256 l.predicates
    ∷ are_below (2 ^ 64) b.scalars
    ∷ are_below 256 l.flash
    ∷ are_below 256 l.flash_rights
    ∷ are_below 256 b.ram
    ∷ are_below 256 l.ram_rights
    ∷ []

pub in_types : (l : Lent) (w : ℕ) (b : Bench) → all_of (type_tests l w b) ≡ true → InTypes l w b
in_types l w b h =
    let t = all_of_lem (type_tests l w b) h in
    record {
      word = ltb-true w (2 ^ 32) (t 0);
      vectors = each_below 256 b.vectors refl (t 1);
      predicates = each_below 256 l.predicates refl (t 2);
      scalars = each_below (2 ^ 64) b.scalars refl (t 3);
      flash = each_below 256 l.flash refl (t 4);
      flash_rights = each_below 256 l.flash_rights refl (t 5);
      ram = each_below 256 b.ram refl (t 6);
      ram_rights = each_below 256 l.ram_rights refl (t 7);
    }
