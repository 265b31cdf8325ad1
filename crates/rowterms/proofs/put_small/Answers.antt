-- `put_small`: a number of 32 bits has the same bytes among those of 64. Assumes nothing.
use native.Mathlib.Omega.{arith}
use Rattle.encoding.proofs.ReadBack.{same-encoded}
use Rattle.bytebuffer.proofs.PutLaws.{same-bytes}
use Rattle.rowterms.proofs.put_small.Goals as goal

pub returns : goal.returns
returns c = same-bytes (same-encoded c.args.n (omega arith)) c.put_number.ensures
