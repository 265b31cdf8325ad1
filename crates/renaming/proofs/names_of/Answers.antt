-- `names_of` meets its contract. Invariant: the second's rows before `i` are gone over. Assumes nothing.
use mathlib.Core.Path.{sym, ◌∙◌}
use Prim.Native.Nat.{◌<◌}
use native.Mathlib.Omega.{arith}
use borrow.Author.Tests.{ltb-true}
use Rattle.laws.proofs.Bools.{and_left}
use Rattle.renaming.proofs.HeldWalk.{few-first, few-next, few-second, walk_as, walk_begins, walk_ends, walk_takes, walk_writes}
use Rattle.renaming.proofs.names_of.Goals as goal
use Rattle.renaming.proofs.names_of.Goals.{else-is_taken, then-is_taken, Else-is_taken, In-loop-i, Then-is_taken}

pub next_variable-x-requires-clause-many_bound : goal.next_variable-x-requires-clause-many_bound
next_variable-x-requires-clause-many_bound c = few-first c.requires

pub loop-i-init : goal.loop-i-init
loop-i-init c = walk_begins c.next_variable-x.result c.next_variable-x.ensures

-- ---- bounds

-- the row is one of the second's
row_below : (c : In-loop-i) → c.loop-i.i < 24
row_below c = omega (arith, few-second c.requires)

-- the variable is one of the first's
variable-inside : (c : Then-is_taken) → c.loop-i.x < c.args.first.many
variable-inside c = ltb-true _ _ (and_left _ _ (sym c.is_taken.ensures ∙ c.if-is_taken.true))

variable-below : (c : Then-is_taken) → c.loop-i.x < 24
variable-below c = omega (arith, variable-inside c, few-first c.requires)

next-below : (c : Else-is_taken) → c.loop-i.next < 49
next-below c = omega (arith, few-next c.loop-i.invariant c.requires)

pub next_variable-x-requires-then-is_taken-clause-many_bound : goal.next_variable-x-requires-then-is_taken-clause-many_bound
next_variable-x-requires-then-is_taken-clause-many_bound c = few-first c.requires

-- ---- one row

pub loop-i-preserved : goal.loop-i-preserved
loop-i-preserved c = let inside = c.loop-i-test.true in
    let test = sym c.is_taken.ensures in
    elim c.if-is_taken.branch [
      | then-is_taken w ↦ walk_as (walk_takes c.loop-i.invariant inside (test ∙ w.if-is_taken.true) w.next_variable-x-then-is_taken.result w.next_variable-x-then-is_taken.ensures) w.names-is w.skipped-is w.next-is (w.agree-is ∙ w.agree_too-agree.ensures) w.x-is
      | else-is_taken w ↦ walk_as (walk_writes c.loop-i.invariant inside (test ∙ w.if-is_taken.false)) w.names-is w.skipped-is w.next-is w.agree-is w.x-is
    ]

pub returns : goal.returns
returns c = walk_ends c.loop-i.invariant c.loop-i-test.false

pub overflow_cast-names : goal.overflow_cast-names
overflow_cast-names c = omega (arith, variable-below c)

pub bounds-names-i : goal.bounds-names-i
bounds-names-i c = row_below c.before.before.before

pub bounds-skipped-i : goal.bounds-skipped-i
bounds-skipped-i c = row_below c.before.before.before

pub bounds-second-i-then-is_taken : goal.bounds-second-i-then-is_taken
bounds-second-i-then-is_taken c = row_below c.before.before.before.before

pub overflow_cast-names-else-is_taken : goal.overflow_cast-names-else-is_taken
overflow_cast-names-else-is_taken c = omega (arith, next-below c)

pub bounds-names-i-else-is_taken : goal.bounds-names-i-else-is_taken
bounds-names-i-else-is_taken c = row_below c.before.before.before

pub overflow_add-next : goal.overflow_add-next
overflow_add-next c = omega (arith, next-below c)

pub bounds-second-i : goal.bounds-second-i
bounds-second-i c = row_below c

pub bounds-first-x : goal.bounds-first-x
bounds-first-x c = variable-below c
