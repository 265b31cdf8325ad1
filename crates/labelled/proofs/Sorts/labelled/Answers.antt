-- `labelled` gives the front part of the list. Assumes nothing.
use native.Mathlib.Omega.{arith}
use Rattle.labelled.proofs.Covering.{covers_fieldless, covers_full, front_lists}
use Rattle.labelled.proofs.Sorts.labelled.Goals as goal

pub returns-clause-lists : goal.returns-clause-lists
returns-clause-lists c = let s = c.args.self.now in front_lists _ 78 s.listed s.count s.lists (omega (arith, s.lists.covers.few, s.room))

pub returns-clause-full : goal.returns-clause-full
returns-clause-full c = let s = c.args.self.now in covers_full s.sorts s.full s.fieldless (returns-clause-lists c)

pub returns-clause-fieldless : goal.returns-clause-fieldless
returns-clause-fieldless c = let s = c.args.self.now in covers_fieldless s.sorts s.full s.fieldless (returns-clause-lists c)
