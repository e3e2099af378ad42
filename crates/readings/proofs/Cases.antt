-- How a reading is written down as a case, and how the step of a case is expected to end.
use Rattle.std.proofs.Common.{if◌then◌else◌, ◌≡◌, ℕ, zero, suc, ◌+◌, ◌-◌, ◌/◌, ◌^◌, Bool, true, false, not, ◌&&◌, eqb, List, [], ◌∷◌, ◌++◌, replicate}
use Rattle.ground.specs.Lists.{listed, alike}
use Rattle.memory.specs.declared.Map.{Map}
use Rattle.steps.specs.Answers.{Report}
use Rattle.steps.specs.Benches.{Lent, Bench}
use Rattle.steps.specs.Outcomes.{Outcome}
use Rattle.steps.specs.Step.{step_of}
use Rattle.steps.specs.declared.Settings.{Settings}

-- A case: a word, the whole bench before it, and what is expected: the report, the whole vector file and all the scalars. RAM and
-- what is lent are expected as they were.
pub record StarredCase : Type 0 where
  pub word : ℕ
  pub lent : Lent
  pub bench : Bench
  pub report : Report
  pub vectors : List ℕ
  pub scalars : List ℕ

-- how the step of a case is expected to end
abbrev pub expected : StarredCase → Outcome
expected c = record { report = c.report; lent = c.lent; bench = record { vectors = c.vectors; scalars = c.scalars; ram = c.bench.ram } }

abbrev pub Ended : StarredCase → Type 0
Ended c = step_of c.lent c.word c.bench ≡ expected c

-- Comparing, which can be computed: every number of an outcome, and the length of every list. Tests.antt says that what passes is equal.

abbrev pub same_bool : Bool → Bool → Bool
same_bool true b = b
same_bool false b = not b

abbrev pub same_report : Report → Report → Bool
same_report r t =
    eqb r.number t.number && eqb r.count t.count && eqb r.element t.element && eqb r.address t.address

abbrev pub same_settings : Settings → Settings → Bool
same_settings s t =
    eqb s.vl t.vl && same_bool s.simd t.simd && same_bool s.sve t.sve && same_bool s.f64mm t.f64mm

abbrev pub same_map : Map → Map → Bool
same_map m n = eqb m.flash.0 n.flash.0 && eqb m.ram.0 n.ram.0

abbrev pub same_lent : Lent → Lent → Bool
same_lent l k =
    same_settings l.settings k.settings
    && alike l.predicates k.predicates
    && same_map l.map k.map
    && alike l.flash k.flash
    && alike l.flash_rights k.flash_rights
    && alike l.ram_rights k.ram_rights

abbrev pub outcome_fits : StarredCase → Outcome → Bool
outcome_fits c o =
    same_report o.report c.report
    && alike o.bench.vectors c.vectors
    && alike o.bench.scalars c.scalars
    && alike o.bench.ram c.bench.ram
    && same_lent o.lent c.lent

abbrev pub is_right : StarredCase → Bool
is_right c = outcome_fits c (step_of c.lent c.word c.bench)

-- Files: register r of the old vector file is 160 + r in every byte, so that a register in another's place shows.

-- registers r, r + 1 and on, k of them
abbrev pub registers : (ℕ → List ℕ) → ℕ → ℕ → List ℕ
registers f r zero = []
registers f r (suc k) = f r ++ registers f (r + 1) k

-- a file of n registers in which register t holds these bytes
abbrev pub file_with : (ℕ → List ℕ) → ℕ → ℕ → List ℕ → List ℕ
file_with f n t bytes = registers f 0 t ++ (bytes ++ registers f (t + 1) (n - t - 1))

abbrev pub old_z : ℕ → ℕ → List ℕ
old_z vl r = replicate (vl / 8) (160 + r)

abbrev pub ones : ℕ → ℕ → List ℕ
ones vl r = replicate (vl / 64) 255

-- every lane of every predicate is active, or none; or predicate register t holds these bytes among registers of ones
abbrev pub all_active : ℕ → List ℕ
all_active vl = registers (ones vl) 0 16

abbrev pub none_active : ℕ → List ℕ
none_active vl = replicate (vl / 4) 0

abbrev pub only : ℕ → ℕ → List ℕ → List ℕ
only vl t bytes = file_with (ones vl) 16 t bytes

-- Scalars: those that are named, PC at 1,000 where it is not, and every other scalar n at 2^63 + n, where no case has memory.

pub record Named : Type 0 where
  pub number : ℕ
  pub value : ℕ

infix 68 ◌≔◌
abbrev pub ◌≔◌ : ℕ → ℕ → Named
n ≔ v = record { number = n; value = v }

abbrev pub sp : ℕ
sp = 31

abbrev pub pc : ℕ
pc = 32

abbrev pub value_in : List Named → ℕ → ℕ
value_in [] n = 2 ^ 63 + n
value_in (m ∷ ms) n = if eqb m.number n then m.value else value_in ms n

abbrev pub scalars_of : List Named → List ℕ
scalars_of ms = listed (value_in ms) 0 33

abbrev pub old : List Named → List Named
old ms = ms ++ (pc ≔ 1000 ∷ [])

-- Memory: an area is a start, bytes and rights bytes.

pub record Zone : Type 0 where
  pub start : ℕ
  pub bytes : List ℕ
  pub rights : List ℕ

abbrev pub zone_with : ℕ → List ℕ → List ℕ → Zone
zone_with a bs rs = record { start = a; bytes = bs; rights = rs }

abbrev pub empty : Zone
empty = zone_with 0 [] []

-- one page at 4,096, with the read right
abbrev pub page : List ℕ → Zone
page bs = zone_with 4096 bs (1 ∷ [])

-- Settings

abbrev pub all_on : ℕ → Settings
all_on vl = record { vl = vl; simd = true; sve = true; f64mm = true }

abbrev pub sve_off : ℕ → Settings
sve_off vl = record { vl = vl; simd = true; sve = false; f64mm = true }

abbrev pub simd_off : ℕ → Settings
simd_off vl = record { vl = vl; simd = false; sve = true; f64mm = true }

abbrev pub f64mm_and_sve_off : ℕ → Settings
f64mm_and_sve_off vl = record { vl = vl; simd = true; sve = false; f64mm = false }

-- A bench: settings, predicates, flash, RAM and the scalars that are named.

pub record SetUp : Type 0 where
  pub settings : Settings
  pub predicates : List ℕ
  pub flash : Zone
  pub ram : Zone
  pub named : List Named

abbrev pub set_up_with : Settings → List ℕ → Zone → Zone → List Named → SetUp
set_up_with s p f r ms = record { settings = s; predicates = p; flash = f; ram = r; named = ms }

abbrev pub lent_by : SetUp → Lent
lent_by u =
    record {
      settings = u.settings;
      predicates = u.predicates;
      map = record { flash = record { 0 = u.flash.start }; ram = record { 0 = u.ram.start } };
      flash = u.flash.bytes;
      flash_rights = u.flash.rights;
      ram_rights = u.ram.rights;
    }

abbrev pub bench_by : SetUp → Bench
bench_by u =
    record {
      vectors = registers (old_z u.settings.vl) 0 32;
      scalars = scalars_of (old u.named);
      ram = u.ram.bytes;
    }

-- Outcomes

-- "ran": a count, the vector file, and the scalars that change beside PC, which grows from 1,000 to 1,004 where it is not named
abbrev pub ran_with : ℕ → SetUp → ℕ → List ℕ → List Named → StarredCase
ran_with w u count file changed =
    record {
      word = w;
      lent = lent_by u;
      bench = bench_by u;
      report = record { number = 0; count = count; element = 0; address = 0 };
      vectors = file;
      scalars = scalars_of (changed ++ (pc ≔ 1004 ∷ old u.named));
    }

-- .. with register t's bytes, and no other register changed
abbrev pub ran : ℕ → SetUp → ℕ → ℕ → List ℕ → List Named → StarredCase
ran w u count t bytes changed = ran_with w u count (file_with (old_z u.settings.vl) 32 t bytes) changed

-- any other answer, with its count, lane and address: "changes no byte or number of the bench"
abbrev pub faults : ℕ → SetUp → ℕ → ℕ → ℕ → ℕ → StarredCase
faults w u number count lane address =
    record {
      word = w;
      lent = lent_by u;
      bench = bench_by u;
      report = record { number = number; count = count; element = lane; address = address };
      vectors = registers (old_z u.settings.vl) 0 32;
      scalars = scalars_of (old u.named);
    }

abbrev pub refuses : ℕ → SetUp → ℕ → StarredCase
refuses w u number = faults w u number 0 0 0

-- Bytes

-- a, a + 1 and on, n of them
abbrev pub rising : ℕ → ℕ → List ℕ
rising a n = listed (λ k. k) a n

-- 01..08
abbrev pub eight : List ℕ
eight = rising 1 8

abbrev pub zeros : ℕ → List ℕ
zeros n = replicate n 0

abbrev pub nines : ℕ → List ℕ
nines n = replicate n 9

abbrev pub copies : ℕ → List ℕ → List ℕ
copies zero l = []
copies (suc n) l = l ++ copies n l

-- "X0 is in readable memory and all lanes named are active": X0 at 4,096, 32 readable bytes, every lane active
abbrev pub plain : Settings → SetUp
plain s = set_up_with s (all_active s.vl) (page (rising 1 32)) empty (0 ≔ 4096 ∷ [])
