-- What a load leaves, from its plan and the answers to the elements it asks for. Memory is in sight in `answers_in` alone.
use Rattle.std.specs.Prelude.{if◌then◌else◌, ℕ, zero, suc, ◌+◌, ◌-◌, ◌*◌, ◌/◌, ◌%◌, ◌^◌, Bool, ◌&&◌, List, [], ◌∷◌, Option, Some, None, Ok, Err, leb, eqb, set}
use Rattle.ground.specs.Lists.{listed, replaced}
use Rattle.ground.specs.Sizes.{bytes_of}
use Rattle.memory.specs.Addresses.{plus_of}
use Rattle.memory.specs.Areas.{Areas}
use Rattle.memory.specs.Bytes.{look_of}
use Rattle.memory.specs.Elements.{Reading, reading_of}
use Rattle.steps.specs.Benches.{Lent, Bench, areas_in}
use Rattle.steps.specs.Answers.{fault_number, Report, report_with}
use Rattle.steps.specs.Terms.{scalar}
use Rattle.steps.specs.Lanes.{governing_bytes, asked, lane_takes, lane_element, destinations_in, destination_of, element_at}
use Rattle.steps.specs.declared.Plan.{Plan}

-- the whole bench after a step, what cannot change too
pub record Outcome : Type 0 where
  pub report : Report
  pub lent : Lent
  pub bench : Bench

-- what memory says of element e
unfoldable pub answers_in : Areas → Plan → ℕ → Reading
answers_in a p e = reading_of (look_of a) (element_at p e) (bytes_of p.size)

abbrev pub answers_of : Lent → Bench → Plan → ℕ → Reading
answers_of l b p = answers_in (areas_in l b) p

abbrev pub on_reading : Reading → ℕ → ℕ → Report → Report
on_reading (Ok v) e count rest = rest
on_reading (Err x) e count rest = report_with (fault_number x.fault) count e x.at.0

-- the elements asked for, one after the other, to the first fault, with a count of those before it
abbrev pub walk : (ℕ → Reading) → ℕ → List ℕ → Report
walk answer count [] = report_with 0 count 0 0
walk answer count (e ∷ es) = on_reading (answer e) e count (walk answer (count + 1) es)

unfoldable pub survey_of : (ℕ → Reading) → Plan → List ℕ → Report
survey_of answer p pred = walk answer 0 (asked p pred)

abbrev pub value_of : Reading → ℕ
value_of (Ok v) = v
value_of (Err x) = 0

-- a number of m bytes in a lane of n bytes: with its sign, or with zeros
unfoldable pub extended : Bool → ℕ → ℕ → ℕ → ℕ
extended signed m n v = if signed && leb (2 ^ (8 * m - 1)) v then v + (2 ^ (8 * n) - 2 ^ (8 * m)) else v

module _ (answer : ℕ → Reading) (p : Plan) (pred : List ℕ) where
  -- lane l of destination j: "Active lanes get the extended value, others zero."
  unfoldable pub lane_value : ℕ → ℕ → ℕ
  lane_value j l =
      if lane_takes p pred l then extended p.signed (bytes_of p.size) (bytes_of p.lane) (value_of (answer (lane_element p j l)))
      else 0

  -- byte i of destination j, lowest byte of each lane first
  unfoldable pub register_byte : ℕ → ℕ → ℕ
  register_byte j i = lane_value j (i / bytes_of p.lane) / 256 ^ (i % bytes_of p.lane) % 256

  -- destination j, of n bytes
  unfoldable pub register_of : ℕ → ℕ → List ℕ
  register_of j n = listed (register_byte j) 0 n

  -- a vector file of registers of n bytes, in which the first so many destinations are filled, one after the other
  unfoldable pub vectors_after : ℕ → List ℕ → ℕ → List ℕ
  vectors_after n z zero = z
  vectors_after n z (suc j) = replaced (vectors_after n z j) (destination_of p j * n) n (register_of j n)

-- the base, to which so much is added where it is written back
abbrev pub added_to : ℕ → List ℕ → Option ℕ → List ℕ
added_to base x None = x
added_to base x (Some n) = set x base (plus_of (scalar x base) n)

unfoldable pub base_after : Plan → List ℕ → List ℕ
base_after p x = added_to p.base x p.back

-- "PC grows by 4, modulo 2^64, when the load ran"
unfoldable pub scalars_after : Plan → List ℕ → List ℕ
scalars_after p x = set (base_after p x) 32 (plus_of (scalar x 32) 4)

-- what a load that ran leaves
unfoldable pub bench_after : (ℕ → Reading) → Lent → Bench → Plan → Bench
bench_after answer l b p =
    record {
      vectors = vectors_after answer p (governing_bytes l p) (l.settings.vl / 8) b.vectors (destinations_in p);
      scalars = scalars_after p b.scalars;
      ram = b.ram;
    }

-- a report with what was left: "An answer other than 0 changes no byte or number of the bench."
abbrev pub ended : Report → Lent → Bench → Bench → Outcome
ended r l before after = record { report = r; lent = l; bench = if eqb r.number 0 then after else before }

unfoldable pub outcome_of : (ℕ → Reading) → Lent → Bench → Plan → Outcome
outcome_of answer l b p = ended (survey_of answer p (governing_bytes l p)) l b (bench_after answer l b p)
