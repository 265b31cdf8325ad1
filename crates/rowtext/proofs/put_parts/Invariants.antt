-- `put_parts`: the loop has put the first p parts. Assumes nothing.
use Prim.Native.Nat.{◌*◌}
use Rattle.laws.specs.Lists.{concat_map, from}
use Rattle.writing.specs.Wrote.{Wrote}
use Rattle.writing.specs.Words.{number_text}
use Rattle.rowtext.proofs.put_parts.Given as goal

abbrev pub invariant-loop-p : goal.invariant-loop-p
invariant-loop-p l = Wrote (12 * l.p) (concat_map (number_text l.rows) (from l.p l.j)) l.initial.out l.out
