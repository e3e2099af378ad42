-- Each answer but 0 is given: a word and a bench that earn it, of which demand-1-kept and demand-1-promise then say that the bench is as it was.
use Rattle.std.proofs.Common.{◌≡◌, ℕ, ◌<◌, Bool, true, eqb, ltb, List, [], ◌∷◌, refl, ap, arith, ltb-true, eqb-true}
use Rattle.ground.specs.Choices.{all_of}
use Rattle.ground.specs.Sizes.{size_of}
use Rattle.ground.proofs.Laws.{all, all_of_lem}
use Rattle.words.specs.Dtypes.{dtypes, dtype_of}
use Rattle.words.specs.Families.{scalar_of, families, read_of}
use Rattle.memory.specs.Addresses.{moved_of}
use Rattle.memory.specs.Areas.{is_area_accepted, share_none, are_areas_accepted, covers, place_of}
use Rattle.memory.specs.Bytes.{judged, look_of}
use Rattle.memory.specs.Elements.{reading_of}
use Rattle.steps.specs.Benches.{is_accepted}
use Rattle.steps.specs.Terms.{signed4}
use Rattle.steps.specs.Plans.{spread_of}
use Rattle.steps.specs.Lanes.{governing_bytes, bit_of, is_active, wanted, asked, lane_takes, checks_stack, element_at}
use Rattle.steps.specs.Outcomes.{Outcome, answers_in, survey_of, outcome_of}
use Rattle.steps.specs.Step.{stack_fails, refusals, planned_load, planned_of, prepared_of, step_of}
use Rattle.steps.specs.Demand1.{Given}
use Rattle.steps.proofs.Demand1.{demand_1_kept, demand_1_promise}
use Rattle.steps.proofs.Promise.{promise_met}
use Rattle.readings.proofs.Cases.{all_active, ◌≔◌, sp, zone_with, empty, page, all_on, sve_off, SetUp, set_up_with, lent_by, bench_by}
use Rattle.readings.proofs.Cases.{rising, plain}
use Rattle.readings.proofs.Tests.{type_tests, in_types}
use Rattle.readings.proofs.Tables.{EachOf, each_of}

-- a word and a bench that earn an answer, by its number
pub record Refused : Type 0 where
  pub number : ℕ
  pub word : ℕ
  pub set_up : SetUp

abbrev refusing : ℕ → ℕ → SetUp → Refused
refusing n w u = record { number = n; word = w; set_up = u }

abbrev pub refused : List Refused
refused =
    -- VL 0; a word of no family; LD1D, scalar, with Rm = 31; LD1ROD with SVE off
    refusing 1 0xA5E0A000 (plain (all_on 0))
    ∷ refusing 2 0x00000000 (plain (all_on 128))
    ∷ refusing 3 0xA5FF4000 (plain (all_on 128))
    ∷ refusing 4 0xA5A02000 (plain (sve_off 256))
    -- LD1R {V0.16B}, [SP] with SP = 4,104; LD1D by X1, which is in neither area; LD1D from a page that has every bit of its rights but bit 0
    ∷ refusing 5 0x4D40C3E0 (set_up_with (all_on 128) (all_active 128) (page (rising 1 32)) empty (sp ≔ 4104 ∷ []))
    ∷ refusing 6 0xA5E0A020 (plain (all_on 128))
    ∷ refusing 7 0xA5E0A000 (set_up_with (all_on 128) (all_active 128) (zone_with 4096 (rising 1 32) (254 ∷ [])) empty (0 ≔ 4096 ∷ []))
    -- LD3R {V0.4S - V2.4S}, [X0] over ten bytes: two elements can be read, and the third not
    ∷ refusing 6 0x4D40E800 (set_up_with (all_on 128) (all_active 128) (page (rising 1 10)) empty (0 ≔ 4096 ∷ []))
    ∷ []

-- it is told, and is not 0; the bench is as it was; and so says the promise, with document 01's row
pub record Kept (r : Refused) : Type 0 where
  pub told : (step_of (lent_by r.set_up) r.word (bench_by r.set_up)).report.number ≡ r.number
  pub some : 0 < r.number
  pub lent : (step_of (lent_by r.set_up) r.word (bench_by r.set_up)).lent ≡ lent_by r.set_up
  pub bench : (step_of (lent_by r.set_up) r.word (bench_by r.set_up)).bench ≡ bench_by r.set_up
  pub given : Given (lent_by r.set_up) r.word (bench_by r.set_up) (step_of (lent_by r.set_up) r.word (bench_by r.set_up)).report

abbrev refused_tests : Refused → List Bool
refused_tests r =
    eqb (step_of (lent_by r.set_up) r.word (bench_by r.set_up)).report.number r.number
    ∷ ltb 0 r.number
    ∷ all_of (type_tests (lent_by r.set_up) r.word (bench_by r.set_up))
    ∷ []

abbrev is_refused : Refused → Bool
is_refused r = all_of (refused_tests r)

kept : (r : Refused) → is_refused r ≡ true → Kept r
kept r h =
    let c = all_of_lem (refused_tests r) h in
    let l = lent_by r.set_up in
    let b = bench_by r.set_up in
    let n : (step_of l r.word b).report.number ≡ r.number = eqb-true _ _ (c 0) in
    let some : 0 < r.number = ltb-true 0 _ (c 1) in
    let came = in_types l r.word b (c 2) in
    let k = demand_1_kept l r.word b (λ z. omega arith) in
    let p = promise_met l r.word b came in
    let g = ((demand_1_promise l r.word b p.0 _ _ p.1).0 _).1 (ap (λ (o : Outcome). o.report) p.1.ends) in
    record { told = n; some = some; lent = k.0; bench = k.1; given = g }

computed : all is_refused refused ≡ true
unfolding size_of dtypes dtype_of scalar_of families read_of moved_of is_area_accepted share_none are_areas_accepted covers place_of judged look_of reading_of
    is_accepted signed4 spread_of governing_bytes bit_of is_active wanted asked lane_takes element_at answers_in survey_of outcome_of checks_stack stack_fails
    refusals planned_load planned_of prepared_of step_of
computed = refl

-- each answer but 0 is given, and keeps the bench
pub each_refused : EachOf Kept refused
each_refused = each_of Kept is_refused kept refused computed
