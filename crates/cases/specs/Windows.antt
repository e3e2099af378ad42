-- docs/CASES.md, "Kinds of question": kinds 2 and 3, the windows for the operator, told in numbers.
use Rattle.std.specs.Prelude.{ℕ, ◌-◌, List, [], ◌∷◌, Option, Some, None, eqb, length}
use Rattle.ground.specs.Choices.{◌⇒◌, first_of}
use Rattle.memory.specs.Areas.{Areas}
use Rattle.memory.specs.Windows.{shown_place}
use Rattle.memory.specs.declared.Place.{Place}
use Rattle.memory.specs.declared.Place.TheVariants.{Flash, Ram}
use Rattle.lanes.specs.Lanes.{shown_of, bits_of}
use Rattle.lanes.specs.declared.Kind.TheVariants.{Whole, Single, Double}
use Rattle.lanes.specs.declared.Shown.{Shown}
use Rattle.lanes.specs.declared.Shown.TheVariants as As
use Rattle.steps.specs.Answers.{Report, report_with}
use Rattle.cases.specs.declared.heads.Numbers.{Numbers}

-- "answer 0 empty, 1 flash, 2 RAM; count the offset in that area, element the length"
abbrev pub place_report : Areas → Option Place → Report
place_report m (Some (Flash k)) = report_with 1 k (length m.flash.bytes - k) 0
place_report m (Some (Ram k)) = report_with 2 k (length m.ram.bytes - k) 0
place_report m None = report_with 0 0 0 0

-- kind 2: "a0 address"
abbrev pub address_told : Areas → Numbers → Report
address_told m q = place_report m (shown_place m q.a0)

-- "answer 0 no such lane, 1 whole, 2 single, 3 double; count the lane's bits"
abbrev pub shown_number : Option Shown → ℕ
shown_number None = 0
shown_number (Some (As.Whole n)) = 1
shown_number (Some (As.Single x)) = 2
shown_number (Some (As.Double x)) = 3

abbrev pub shown_report : Option Shown → Report
shown_report r = report_with (shown_number r) (bits_of r) 0 0

-- "a0 register, a1 0 whole, 1 single, 2 double, a2 width in bits, a3 lane"; a lane that is asked for in another way is none
abbrev pub asked_of : ℕ → List ℕ → Numbers → Option Shown
asked_of vl z q =
    first_of
    ((eqb q.a1 0 ⇒ shown_of vl z q.a0 Whole q.a2 q.a3)
    ∷ (eqb q.a1 1 ⇒ shown_of vl z q.a0 Single q.a2 q.a3)
    ∷ (eqb q.a1 2 ⇒ shown_of vl z q.a0 Double q.a2 q.a3)
    ∷ [])
    None

-- kind 3
abbrev pub lane_told : ℕ → List ℕ → Numbers → Report
lane_told vl z q = shown_report (asked_of vl z q)
