-- `put_with` meets its contract. Invariant: the numbers of the branches before the j-th are put, and those left are the rest of all.
-- Assumes nothing.
use mathlib.Core.Path.{◌∙◌}
use mathlib.Core.List.{[]}
use native.Mathlib.Omega.{arith}
use lib.ListN.{get_or}
use Rattle.tables.specs.declared.LiteralTable.{LiteralTable}
use Rattle.branchverdicts.proofs.Asking.{askable, branch_held, few, lines_at}
use Rattle.branchverdicts.proofs.Putting.{put_all, put_next, put_none}
use Rattle.branchverdicts.proofs.put_with.Goals as goal

-- what an array of tables is read as past its end
abbrev noTable : LiteralTable
noTable = record { many = 0; kinds = []; terms = []; others = [] }

pub loop-j-init : goal.loop-j-init
loop-j-init c = let s = c.args in
    put_none s.t s.first s.from s.budget s.out.now s.at (omega (arith, c.requires.from_in_bounds))

pub offset_bounds-t-j : goal.offset_bounds-t-j
offset_bounds-t-j c = let k = c.requires.taken_with in
    omega (arith, few c.args.t k.procedure k.holds)

pub bounds-t-j : goal.bounds-t-j
bounds-t-j c = let k = c.requires.taken_with in
    omega (arith, few c.args.t k.procedure k.holds)

pub verdict_on-requires : goal.verdict_on-requires
verdict_on-requires c = let s = c.args in
    let k = c.requires.taken_with in
    let second = branch_held s.t k.procedure k.holds c.loop-j.j (omega arith) noTable in
    askable s.t k.procedure k.holds s.first (get_or s.t.lines c.loop-j.j noTable) k.literals (lines_at s.t k.procedure k.holds c.loop-j.j) k.held second

pub bounds-out-next : goal.bounds-out-next
bounds-out-next c = let l = c.loop-j in
    omega (arith, l.invariant.place, l.invariant.long, l.invariant.since, c.requires.from_in_bounds)

pub loop-j-preserved : goal.loop-j-preserved
loop-j-preserved c = let s = c.args in
    let l = c.loop-j in
    put_next s.t s.first s.from s.budget s.out.now s.at l.out l.next l.j l.invariant (omega arith) (omega (arith, l.invariant.place, l.invariant.long, l.invariant.since, c.requires.from_in_bounds)) (get_or s.t.lines l.j noTable) c.code.result
    (λ p h. branch_held s.t p h l.j (omega arith) noTable) (λ g more b. c.code.ensures ∙ c.verdict_on.ensures.on g more b)

pub returns : goal.returns
returns c = let s = c.args in
    let l = c.loop-j in
    put_all s.t s.first s.from s.budget s.out.now s.at l.out l.next l.j l.invariant (omega arith)

pub overflow_add-next : goal.overflow_add-next
overflow_add-next c = omega arith
