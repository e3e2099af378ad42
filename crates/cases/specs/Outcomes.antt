-- docs/CASES.md, "An outcome": its bytes.
use Rattle.std.specs.Prelude.{if◌then◌else◌, ℕ, ◌+◌, ◌*◌, ◌/◌, ◌%◌, ◌^◌, List, [], ◌∷◌, ◌++◌, eqb, length, get_or}
use Rattle.ground.specs.Lists.{listed}
use Rattle.steps.specs.Answers.{Report}
use Rattle.steps.specs.Outcomes.{Outcome}
use Rattle.cases.specs.Parts.{kind_in}
use Rattle.cases.specs.declared.heads.Case.{Case}

-- numbers of 8 bytes one after the other: byte i is byte i mod 8 of number i div 8
abbrev pub eighth : List ℕ → ℕ → ℕ
eighth x i = get_or x (i / 8) 0 / 256 ^ (i % 8) % 256

unfoldable pub eights : List ℕ → List ℕ
eights x = listed (eighth x) 0 (length x * 8)

-- answer, then count, element, address
unfoldable pub report_bytes : Report → List ℕ
report_bytes r = r.number ∷ eights (r.count ∷ r.element ∷ r.address ∷ [])

-- of a step, kind 0: .. then z, x
unfoldable pub outcome_bytes : Outcome → List ℕ
outcome_bytes o = report_bytes o.report ++ (o.bench.vectors ++ eights o.bench.scalars)

-- of "kinds 2 and up": .. "then `out_len`, 8 bytes, and the bytes of `out`", of which a window has none
unfoldable pub window_bytes : Report → List ℕ
window_bytes r = report_bytes r ++ eights (0 ∷ [])

-- how many these are
abbrev pub outcome_length : Case → ℕ
outcome_length c = if eqb (kind_in c.question) 0 then 25 + c.vectors + 8 * c.scalars else 33
