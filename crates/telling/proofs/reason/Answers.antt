-- `reason` meets its contract: each refusal has the definition's reason.
-- No generated proof puts the refusal of an arm into `codes` of the definition, so each arm does it in its line.
use Rattle.telling.proofs.reason.Goals as goal

pub returns-in-Ends : goal.returns-in-Ends
returns-in-Ends c = rw c.in-Ends.is

pub returns-in-Magic : goal.returns-in-Magic
returns-in-Magic c = rw c.in-Magic.is

pub returns-in-Flags : goal.returns-in-Flags
returns-in-Flags c = rw c.in-Flags.is

pub returns-in-Kind : goal.returns-in-Kind
returns-in-Kind c = rw c.in-Kind.is

pub returns-in-Level : goal.returns-in-Level
returns-in-Level c = rw c.in-Level.is

pub returns-in-Room : goal.returns-in-Room
returns-in-Room c = rw c.in-Room.is
