-- `write_str` meets its contract: what is written is put behind the text.
use Rattle.texts.proofs.TextWrite.write_str.Goals as goal

pub returns-clause-ok : goal.returns-clause-ok
returns-clause-ok c _ = rw c.as_bytes.ensures.value at c.and.ensures
