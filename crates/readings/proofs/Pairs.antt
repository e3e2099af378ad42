-- Pairs of benches that demand 3 speaks of and that are not the same: they differ where no active element lies. Its premise is met, by computation, and what
-- it promises is seen twice: computed from the definition of a step, and as the theorem says.
use Rattle.std.proofs.Common.{◌≡◌, ℕ, ◌-◌, ◌/◌, Bool, true, false, not, ◌&&◌, eqb, List, [], ◌∷◌, ◌++◌, Option, Some, None, length, sym, refl, ap, ◌∙◌, ⊎_elim, eq-eqb, eqb-true}
use borrow.Author.Tests.{not-true}
use Rattle.ground.specs.Choices.{all_of}
use Rattle.ground.specs.Lists.{any_below, alike, replaced}
use Rattle.ground.specs.Sizes.{bytes_of, size_of}
use Rattle.ground.proofs.Laws.{all, all_of_lem, any_of, and_both, true_or_false, never}
use Rattle.words.specs.Dtypes.{dtypes, dtype_of}
use Rattle.words.specs.Families.{scalar_of, families, read_of}
use Rattle.memory.specs.Addresses.{plus_of, moved_of}
use Rattle.memory.specs.Areas.{Area, Areas, is_area_accepted, share_none, are_areas_accepted, covers, place_of, place_in}
use Rattle.memory.specs.Bytes.{judged, look_of}
use Rattle.memory.specs.Elements.{reading_of}
use Rattle.memory.specs.declared.Place.{Place}
use Rattle.memory.specs.declared.Place.TheVariants.{Flash, Ram}
use Rattle.steps.specs.Answers.{report_of}
use Rattle.steps.specs.Benches.{Lent, Bench, InTypes, areas_in, is_accepted}
use Rattle.steps.specs.Terms.{signed4}
use Rattle.steps.specs.Plans.{spread_of}
use Rattle.steps.specs.Lanes.{governing_bytes, bit_of, is_active, wanted, asked, lane_takes, checks_stack, lane_element, destinations_in, destination_of, element_at}
use Rattle.steps.specs.Outcomes.{Outcome, answers_in, survey_of, extended, lane_value, register_byte, register_of}
use Rattle.steps.specs.Outcomes.{vectors_after, base_after, scalars_after, bench_after, outcome_of}
use Rattle.steps.specs.Step.{Prepared, Stop, Go, stack_fails, refusals, planned_load, planned_of, prepared_of, step_of}
use Rattle.steps.specs.Said.{Accepted}
use Rattle.steps.specs.Demand2.{Done}
use Rattle.steps.specs.Demand3.{Same, Touched, SameRights, SameBytes}
use Rattle.steps.specs.Asks.{AsksFor, right_at, number_at, AgreeAt, Agree, lent_with, bench_with}
use Rattle.steps.specs.declared.Plan.{Plan}
use Rattle.steps.proofs.Accepts.{accepted_exactly}
use Rattle.steps.proofs.Touches.{touched_exactly, same_exactly, rights_exactly, bytes_exactly}
use Rattle.steps.proofs.Promise.{promise_met}
use Rattle.steps.proofs.Demand3.{demand_3_answer, demand_3_end}
use Rattle.readings.proofs.Cases.{same_bool, same_report, only, ◌≔◌, zone_with, empty, page, all_on, SetUp, set_up_with}
use Rattle.readings.proofs.Cases.{lent_by, bench_by, rising, nines, zeros}
use Rattle.readings.proofs.Tests.{switches, type_tests, in_types}
use Rattle.readings.proofs.Tables.{EachOf, each_of}

-- A pair: a word and a bench, the contents and rights of the other bench, which is the same in all else, an address that holds another byte in it,
-- and whether the read right there is the same.
pub record Pair : Type 0 where
  pub word : ℕ
  pub set_up : SetUp
  pub flash : List ℕ
  pub flash_rights : List ℕ
  pub ram : List ℕ
  pub ram_rights : List ℕ
  pub differ : ℕ
  pub right : Bool

abbrev first : Pair → Lent
first p = lent_by p.set_up

abbrev before : Pair → Bench
before p = bench_by p.set_up

abbrev second : Pair → Lent
second p = lent_with (first p) p.flash p.flash_rights p.ram_rights

abbrev other : Pair → Bench
other p = bench_with (before p) p.ram

-- two memories agree at a place, as a test
abbrev finds_same : {A : Type 0} → (A → A → Bool) → (Area → ℕ → A) → Areas → Areas → Option Place → Bool
finds_same same find m n (Some (Flash k)) = same (find m.flash k) (find n.flash k)
finds_same same find m n (Some (Ram k)) = same (find m.ram k) (find n.ram k)
finds_same same find m n None = true

-- each byte that is asked for passes a test: there is none that fails it
abbrev fails_in : (ℕ → Bool) → Lent → Prepared → Bool
fails_in test l (Stop r) = false
fails_in test l (Go p) =
    any_below (λ e. wanted p (governing_bytes l p) e && any_below (λ k. not (test (plus_of (element_at p e) k))) (bytes_of p.size)) p.elements

module _ {A : Type 0} (same : A → A → Bool) (find : Area → ℕ → A) (p : Pair) where
  -- the two benches of a pair agree at an address; and at each byte that the first asks for
  abbrev same_on : ℕ → Bool
  same_on a = let s = areas_in (first p) (before p) in finds_same same find s (areas_in (second p) (other p)) (place_in s a)

  abbrev same_asked : Bool
  same_asked = not (fails_in same_on (first p) (prepared_of (first p) (before p).scalars p.word))

-- what is computed of a pair: both are what can come in and are accepted, are as long, agree at each byte that is asked for, and differ where the pair
-- says; the step of the first runs, and the step of the other tells the same and leaves the same vectors and scalars
abbrev tests : Pair → List Bool
tests p =
    let o = step_of (first p) p.word (before p) in
    let o' = step_of (second p) p.word (other p) in
    all_of (type_tests (first p) p.word (before p))
    ∷ is_accepted (first p) (before p)
    ∷ is_accepted (second p) (other p)
    ∷ eqb (length (first p).flash) (length p.flash)
    ∷ eqb (length (before p).ram) (length p.ram)
    ∷ same_asked same_bool right_at p
    ∷ same_asked eqb number_at p
    ∷ not (same_on eqb number_at p p.differ)
    ∷ same_bool (same_on same_bool right_at p p.differ) p.right
    ∷ eqb o.report.number 0
    ∷ same_report o.report o'.report
    ∷ alike o.bench.vectors o'.bench.vectors
    ∷ alike o.bench.scalars o'.bench.scalars
    ∷ all_of (type_tests (second p) p.word (other p))
    ∷ []

-- What the tests say of a pair: it meets the premise of demand 3, its benches are not the same, and its step ran.
pub record Tells (p : Pair) : Type 0 where
  pub came : InTypes (first p) p.word (before p)
  pub came' : InTypes (second p) p.word (other p)
  pub accepted : Accepted (first p) (before p)
  pub accepted' : Accepted (second p) (other p)
  pub same : Same (first p) (before p) (second p) (other p)
  pub rights : SameRights (first p) p.word (before p) (second p) (other p)
  pub bytes : SameBytes (first p) p.word (before p) (second p) (other p)
  pub untouched : Touched (first p) p.word (before p) p.differ → ⊥
  pub apart : (first p ≡ second p) × (before p ≡ other p) → ⊥
  pub ran : (step_of (first p) p.word (before p)).report.number ≡ 0

-- a test that compares
abbrev Sound : {A : Type 0} → (A → A → Bool) → Type 0
Sound {A} same = ((x y : A) → same x y ≡ true → x ≡ y) × ((x : A) → same x x ≡ true)

bools_sound : Sound same_bool
bools_sound = (switches, λ x. whole x)
  where
    whole : (x : Bool) → same_bool x x ≡ true
    whole true = refl
    whole false = refl

numbers_sound : Sound eqb
numbers_sound = (eqb-true, λ x. eq-eqb x x refl)

-- a byte that is asked for passes a test that none fails
module _ (test : ℕ → Bool) (l : Lent) (w : ℕ) (b : Bench) where
  abbrev fails : Plan → ℕ → ℕ → Bool
  fails p e k = not (test (plus_of (element_at p e) k))

  passed : not (fails_in test l (prepared_of l b.scalars w)) ≡ true → (a : ℕ) → AsksFor l w b a → test a ≡ true
  passed h a q =
      let p = q.plan in
      let e = q.element in
      let none : fails_in test l (Go p) ≡ false = ap (fails_in test l) (sym q.prepared) ∙ not-true _ h in
      ⊎_elim
      (λ t. t)
      (λ f. let k = any_of (fails p e) (bytes_of p.size) q.byte q.within (ap (λ (x : ℕ). not (test x)) (sym q.lies) ∙ ap not f) in
      never (any_of (λ e. wanted p (governing_bytes l p) e && any_below (fails p e) (bytes_of p.size)) p.elements e q.few
      (and_both (wanted p (governing_bytes l p) e) _ q.asked k)) none)
      (true_or_false (test a))

module _ {A : Type 0} (same : A → A → Bool) (sound : Sound same) (find : Area → ℕ → A) where
  agree_at : (m n : Areas) (p : Option Place) → finds_same same find m n p ≡ true → AgreeAt find m n p
  agree_at m n (Some (Flash k)) h = sound.0 _ _ h
  agree_at m n (Some (Ram k)) h = sound.0 _ _ h
  agree_at m n None h = tt

  same_self : (m : Areas) (p : Option Place) → finds_same same find m m p ≡ true
  same_self m (Some (Flash k)) = sound.1 _
  same_self m (Some (Ram k)) = sound.1 _
  same_self m None = refl

  agreed : (p : Pair) → same_asked same find p ≡ true → Agree find (first p) p.word (before p) (second p) (other p)
  agreed p h a q =
      let s = areas_in (first p) (before p) in
      agree_at s (areas_in (second p) (other p)) (place_in s a) (passed (same_on same find p) (first p) p.word (before p) h a q)

-- two benches that hold other bytes at an address are not the same
differ_apart : (p : Pair) → same_on eqb number_at p p.differ ≡ false → (first p ≡ second p) × (before p ≡ other p) → ⊥
differ_apart p h e =
    let s = areas_in (first p) (before p) in
    never (same_self eqb numbers_sound number_at s (place_in s p.differ))
    (ap (λ (n : Areas). finds_same eqb number_at s n (place_in s p.differ)) (λ j. areas_in (e.0 j) (e.1 j)) ∙ h)

tells : (p : Pair) → all_of (tests p) ≡ true → Tells p
tells p h =
    let t = all_of_lem (tests p) h in
    let l = first p in
    let b = before p in
    let w = p.word in
    let came = in_types l w b (t 0) in
    let small = came.word in
    record {
      came = came;
      came' = in_types (second p) w (other p) (t 13);
      accepted = (accepted_exactly l b).0 (t 1);
      accepted' = (accepted_exactly (second p) (other p)).0 (t 2);
      same = (same_exactly l w b p.flash p.flash_rights p.ram p.ram_rights).1 (eqb-true _ _ (t 3), eqb-true _ _ (t 4));
      rights = (rights_exactly l w b p.flash p.flash_rights p.ram p.ram_rights small).1 (agreed same_bool bools_sound right_at p (t 5));
      bytes = (bytes_exactly l w b p.flash p.flash_rights p.ram p.ram_rights small).1 (agreed eqb numbers_sound number_at p (t 6));
      untouched = λ q. never
          (passed (same_on eqb number_at p) l w b (t 6) p.differ ((touched_exactly l w b small p.differ).0 q)) (not-true _ (t 7));
      apart = differ_apart p (not-true _ (t 7));
      ran = eqb-true _ _ (t 9);
    }

-- As demand 3 says, the steps of such a pair tell the same, leave the same vectors and scalars, and have done what demand 2 says.
abbrev pub Ends : Pair → Type 0
Ends p =
    let o = step_of (first p) p.word (before p) in
    let o' = step_of (second p) p.word (other p) in
    (o.report ≡ o'.report) × Same o.lent o.bench o'.lent o'.bench
    × Done (first p) p.word (before p) o.lent o.bench × Done (second p) p.word (other p) o'.lent o'.bench

pub ends : (p : Pair) → Tells p → Ends p
ends p t =
    let r = promise_met (first p) p.word (before p) t.came in
    let r' = promise_met (second p) p.word (other p) t.came' in
    let answer = demand_3_answer (first p) (before p) (second p) (other p) p.word t.accepted t.accepted' t.same t.rights
    r.0 r'.0 _ _ _ _ r.1 r'.1 in
    let end = demand_3_end (first p) (before p) (second p) (other p) p.word t.accepted t.accepted' t.same t.rights
    r.0 r'.0 _ _ _ _ r.1 r'.1 t.bytes in
    let done = end.1 (ap (λ (o : Outcome). o.report.number) r.1.ends ∙ t.ran) in
    (sym (ap (λ (o : Outcome). o.report) r.1.ends) ∙ ap report_of answer ∙ ap (λ (o : Outcome). o.report) r'.1.ends, end.0, done.0, done.1)

-- flash of 16 bytes at 4,096, RAM of 16 at 8,192, all readable, and lane 0 active alone
abbrev lower : ℕ → SetUp
lower vl =
    set_up_with (all_on vl) (only vl 0 (1 ∷ zeros (vl / 64 - 1))) (page (rising 1 16)) (zone_with 8192 (rising 1 16) (1 ∷ [])) (0 ≔ 4096 ∷ [])

abbrev pub pairs : List Pair
pairs =
    -- LD1D {Z0.D}, P0/Z, [X0], lane 0 inactive, at the end of page 0 of flash, lane 1 active, at the start of page 1: the other bench has page 0 denied
    -- and other bytes in it
    record {
      word = 0xA5E0A000;
      set_up = set_up_with (all_on 128) (only 128 0 (0 ∷ 1 ∷ [])) (zone_with 0 (zeros 4096 ++ rising 1 8) (1 ∷ 1 ∷ [])) empty (0 ≔ 4088 ∷ []);
      flash = nines 4096 ++ rising 1 8;
      flash_rights = 0 ∷ 1 ∷ [];
      ram = [];
      ram_rights = [];
      differ = 4088;
      right = false;
    }
    -- the same load, lane 1 inactive: its eight bytes are others, on the page of lane 0
    ∷ record {
      word = 0xA5E0A000;
      set_up = lower 128;
      flash = rising 1 8 ++ zeros 8;
      flash_rights = 1 ∷ [];
      ram = rising 1 16;
      ram_rights = 1 ∷ [];
      differ = 4104;
      right = true;
    }
    -- the same load, which touches flash alone: RAM has other bytes and is denied
    ∷ record {
      word = 0xA5E0A000;
      set_up = lower 128;
      flash = rising 1 16;
      flash_rights = 1 ∷ [];
      ram = nines 16;
      ram_rights = 254 ∷ [];
      differ = 8192;
      right = false;
    }
    -- LD1RQD {Z0.D}, P0/Z, [X0] at VL 256: lane 1 of the block is inactive, its bytes are others, and each copy has zeros there
    ∷ record {
      word = 0xA5802000;
      set_up = lower 256;
      flash = rising 1 8 ++ zeros 8;
      flash_rights = 3 ∷ [];
      ram = nines 16;
      ram_rights = 0 ∷ [];
      differ = 4104;
      right = true;
    }
    -- LD2R {V31.16B, V0.16B}, [X0]: of the page, all but the two bytes that go to the two registers are others
    ∷ record {
      word = 0x4D60C01F;
      set_up = lower 128;
      flash = rising 1 2 ++ nines 14;
      flash_rights = 1 ∷ [];
      ram = zeros 16;
      ram_rights = 0 ∷ [];
      differ = 4098;
      right = true;
    }
    ∷ []

pub computed : all (λ p. all_of (tests p)) pairs ≡ true
unfolding replaced size_of dtypes dtype_of scalar_of families read_of moved_of is_area_accepted share_none are_areas_accepted covers place_of judged look_of reading_of
    is_accepted signed4 spread_of governing_bytes bit_of is_active wanted asked lane_takes lane_element destinations_in destination_of element_at answers_in survey_of extended lane_value register_byte register_of
    vectors_after base_after scalars_after bench_after outcome_of checks_stack stack_fails refusals planned_load planned_of prepared_of step_of
computed = refl

-- Each of them meets the premise of demand 3, is no bench and itself, and ends as demand 3 says.
pub pairs_tell : EachOf (λ p. Tells p × Ends p) pairs
pairs_tell = each_of (λ p. Tells p × Ends p) (λ p. all_of (tests p)) (λ p h. let t = tells p h in (t, ends p t)) pairs computed
