-- `steps_entry` meets its contract. Invariant: no number type is met in fewer steps. Assumes nothing.
use Rattle.orbits.specs.Orbits.{number_after, steps_entry}
use Rattle.columns.proofs.Searches.{least_end, least_here, least_on}
use Rattle.orbits.proofs.steps_entry.Goals as goal

pub loop-k-preserved : goal.loop-k-preserved
loop-k-preserved c = least_on _ _ _ c.loop-k.invariant c.loop-k-test.true c.is_number_after.ensures c.if-is_number_after.false

pub returns-then-is_number_after : goal.returns-then-is_number_after
unfolding steps_entry
returns-then-is_number_after c = let a = c.args in
    least_here (number_after a.variants.now a.next.now a.t) a.many c.loop-k.k c.loop-k.invariant c.is_number_after.ensures c.if-is_number_after.true

pub returns : goal.returns
unfolding steps_entry
returns c = let a = c.args in
    least_end (number_after a.variants.now a.next.now a.t) a.many c.loop-k.k c.loop-k.invariant c.loop-k-test.false
