-- `over_limit` meets its contract: each part has the definition's reason.
-- No generated proof puts the part of an arm into `codes` of the definition, so each arm does it in its line.
use Rattle.telling.proofs.over_limit.Goals as goal

pub returns-in-Vectors : goal.returns-in-Vectors
returns-in-Vectors c = rw c.in-Vectors.is

pub returns-in-Predicates : goal.returns-in-Predicates
returns-in-Predicates c = rw c.in-Predicates.is

pub returns-in-Scalars : goal.returns-in-Scalars
returns-in-Scalars c = rw c.in-Scalars.is

pub returns-in-Flash : goal.returns-in-Flash
returns-in-Flash c = rw c.in-Flash.is

pub returns-in-FlashRights : goal.returns-in-FlashRights
returns-in-FlashRights c = rw c.in-FlashRights.is

pub returns-in-Ram : goal.returns-in-Ram
returns-in-Ram c = rw c.in-Ram.is

pub returns-in-RamRights : goal.returns-in-RamRights
returns-in-RamRights c = rw c.in-RamRights.is

pub returns-in-Blob : goal.returns-in-Blob
returns-in-Blob c = rw c.in-Blob.is
