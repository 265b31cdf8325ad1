-- `put_pairs` meets its contract. Invariant: the numbers of the pairs whose lower branch is before the i-th are put, and those left are the
-- rest of all. Assumes nothing.
use mathlib.Core.List.{[]}
use native.Mathlib.Omega.{arith}
use Rattle.tables.specs.declared.LiteralTable.{LiteralTable}
use Rattle.branchverdicts.proofs.Asking.{branch_held, few, lines_at}
use Rattle.branchverdicts.proofs.PairLaws.{pairs-all, pairs-more, room_for}
use Rattle.branchverdicts.proofs.put_pairs.Goals as goal

-- what an array of tables is read as past its end
abbrev noTable : LiteralTable
noTable = record { many = 0; kinds = []; terms = []; others = [] }

pub offset_bounds-lines-i : goal.offset_bounds-lines-i
offset_bounds-lines-i c = let k = c.requires.taken in
    omega (arith, few c.args.t k.procedure k.holds)

pub bounds-lines-i : goal.bounds-lines-i
bounds-lines-i c = let k = c.requires.taken in
    omega (arith, few c.args.t k.procedure k.holds)

pub put_with-next-requires-clause-taken_with : goal.put_with-next-requires-clause-taken_with
put_with-next-requires-clause-taken_with c = let s = c.args in
    let k = c.requires.taken in
    let i = c.loop-i.i in
    record { procedure = k.procedure; holds = k.holds; literals = lines_at s.t k.procedure k.holds i; held = branch_held s.t k.procedure k.holds i (omega arith) noTable }

pub put_with-next-requires-clause-from_in_bounds : goal.put_with-next-requires-clause-from_in_bounds
put_with-next-requires-clause-from_in_bounds c = let s = c.args in
    let l = c.loop-i in
    room_for s.t s.budget s.out.now s.at l.out l.next l.i l.invariant (omega arith) c.requires.taken c.requires.at_in_bounds

pub loop-i-preserved : goal.loop-i-preserved
loop-i-preserved c = let s = c.args in
    let l = c.loop-i in
    pairs-more s.t s.budget s.out.now s.at l.out l.next l.i l.invariant (omega arith) c.requires.taken (λ p h. branch_held s.t p h l.i (omega arith) noTable) c.put_with-next.ensures

pub returns : goal.returns
returns c = let s = c.args in
    let l = c.loop-i in
    pairs-all s.t s.budget s.out.now s.at l.out l.next l.i l.invariant (omega arith)
