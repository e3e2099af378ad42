-- A byte or an element with its value forgotten: found, or bad, why and where. The laws of one element are stated with these.
use Rattle.std.specs.Prelude.{◌≡◌, ℕ, Ok, Err}
use Rattle.memory.specs.Bytes.{Cell}
use Rattle.memory.specs.Elements.{Reading}
use Rattle.memory.specs.declared.Fault.{Fault}

-- a look finds a byte, whichever it is
abbrev pub FindsByte : (ℕ → Cell) → ℕ → Type 0
FindsByte look a = (b : ℕ) × (look a ≡ Ok b)

abbrev pub byte_found : Cell → ℕ
byte_found (Ok b) = b
byte_found (Err f) = 0

-- what is left of a cell, or of a reading, when the bytes' values are forgotten
pub data Trouble : Type 0 where
  none : Trouble
  bad : Fault → ℕ → Trouble

abbrev pub trouble_at : Cell → ℕ → Trouble
trouble_at (Ok b) a = none
trouble_at (Err f) a = bad f a

abbrev pub trouble_of : Reading → Trouble
trouble_of (Ok v) = none
trouble_of (Err x) = bad x.fault x.at.0
