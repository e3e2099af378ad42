-- Why a run of a program over cases ends early, in one line.
use Rattle.std.specs.Prelude.{ℕ, ◌≡◌, List, ◌++◌, codes}
use Prim.Native.String.{String}
use Rattle.texts.specs.Texts.{empty, and_of, decimal_of}
use Rattle.texts.specs.declared.Text.{Text}
use Rattle.cases.specs.declared.heads.Part.{Part}
use Rattle.cases.specs.declared.heads.Part.TheVariants.{Vectors, Predicates, Scalars, Flash, FlashRights, Ram, RamRights, Blob}
use Rattle.cases.specs.declared.heads.Refusal.{Refusal}
use Rattle.cases.specs.declared.heads.Refusal.TheVariants.{Ends, Magic, Flags, Kind, Level, Long, Room}

-- the line: the program and what it counts, as "replay: case ", the number of the one that ends it, and why
unfoldable pub line_of : List ℕ → ℕ → List ℕ → List ℕ
line_of prefix number why = prefix ++ (decimal_of number ++ (codes ": " ++ (why ++ codes "\n")))

-- what `line` promises: a text of this line, of which what has no room is left out
abbrev pub LinePromise : List ℕ → ℕ → List ℕ → Text → Type 0
LinePromise prefix number why r = r ≡ and_of empty (line_of prefix number why)

-- the part that is over its limit; the names and the limits are those of docs/CASES.md
abbrev pub over_limit : Part → String
over_limit Vectors = "z_len is over 65536"
over_limit Predicates = "p_len is over 4096"
over_limit Scalars = "x_count is over 128"
over_limit Flash = "flash_len is over 131072"
over_limit FlashRights = "flash_rights_len is over 64"
over_limit Ram = "ram_len is over 131072"
over_limit RamRights = "ram_rights_len is over 64"
over_limit Blob = "blob_len is over 65536"

-- why a case is refused
abbrev pub reason_of : Refusal → String
reason_of Ends = "the stream ends inside the case"
reason_of Magic = "it does not begin with the magic KKJ1"
reason_of Flags = "a flag bit is set that means nothing"
reason_of Kind = "its kind of question is not here; 0, 2 and 3 are"
reason_of Level = "the layout of its level is not here; that of 0 to 4 is"
reason_of (Long part) = over_limit part
reason_of Room = "its outcome is longer than the buffer"

-- what `refused` promises: the line of a case that is refused
abbrev pub RefusedPromise : List ℕ → ℕ → Refusal → Text → Type 0
RefusedPromise prefix number why r = LinePromise prefix number (codes (reason_of why)) r
