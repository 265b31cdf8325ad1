-- `put` meets its contract. Assumes nothing.
use native.Mathlib.Omega.{arith}
use lib.ListN.{length-set}
use Rattle.answernumbers.proofs.NumberLaws.{five_sets}
use Rattle.answernumbers.proofs.put.Goals as goal

pub returns : goal.returns
returns c = five_sets c.args.numbers.now c.args.verdict c.args.number c.args.rows c.args.first c.args.second c.requires

pub bounds-numbers-1 : goal.bounds-numbers-1
bounds-numbers-1 c = simp length-set (omega arith)

pub bounds-numbers-2 : goal.bounds-numbers-2
bounds-numbers-2 c = simp length-set (omega arith)

pub bounds-numbers-3 : goal.bounds-numbers-3
bounds-numbers-3 c = simp length-set (omega arith)

pub bounds-numbers-4 : goal.bounds-numbers-4
bounds-numbers-4 c = simp length-set (omega arith)
