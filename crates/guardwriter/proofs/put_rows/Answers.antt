-- `put_rows`: N, and the rows under their own numbers. Assumes nothing.
use mathlib.Core.Path.{refl}
use native.Mathlib.Omega.{arith}
use Rattle.bytebuffer.proofs.PutLaws.{and_then, same-bytes, still_full}
use Rattle.guardwriter.proofs.AskedLaws.{row-part, rows_byte, rows-held, some-rows, types-held}
use Rattle.guardwriter.proofs.put_rows.Goals as goal

pub overflow_cast-rows : goal.overflow_cast-rows
overflow_cast-rows c = record { fits = omega (arith, rows_byte c.requires.asked) }

pub returns-in_err-put : goal.returns-in_err-put
returns-in_err-put c = rw c.from_residual.ensures (record { puts = λ g more b. same-bytes (row-part b _ refl) (still_full _ c.in_err-put.ensures) })

pub put_rows-requires : goal.put_rows-requires
put_rows-requires c = some-rows c.requires.asked

pub returns : goal.returns
returns c = record { puts = λ g more b. same-bytes (row-part b _ c.own_names-own.ensures) (and_then c.in_ok-put.ensures (c.put_rows.ensures.puts g.types g.rows (types-held b) (rows-held b))) }
