-- `put_named`: a word and a number. Assumes nothing.
use Rattle.writing.proofs.Wrote.{and_then}
use Rattle.writing.proofs.put_named.Goals as goal

pub returns : goal.returns
returns c = and_then c.put_bytes.ensures c.put_number.ensures
