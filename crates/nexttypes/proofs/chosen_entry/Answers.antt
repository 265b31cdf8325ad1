-- `chosen_entry` meets its contract. Invariant: no field below is infinite. Assumes nothing.
use Rattle.nexttypes.specs.NextTypes.{chosen_entry, infinite_at}
use Rattle.columns.proofs.Searches.{least_end, least_here, least_on}
use Rattle.nexttypes.proofs.chosen_entry.Goals as goal

pub loop-p-preserved : goal.loop-p-preserved
loop-p-preserved c = least_on _ _ _ c.loop-p.invariant c.loop-p-test.true c.is_infinite.ensures c.if-is_infinite.false

pub returns-then-is_infinite : goal.returns-then-is_infinite
unfolding chosen_entry
returns-then-is_infinite c = let a = c.args in
    cc (least_here (infinite_at a.sorts.now a.finite.now a.w) c.at-n.result c.loop-p.p c.loop-p.invariant c.is_infinite.ensures c.if-is_infinite.true)

pub returns : goal.returns
unfolding chosen_entry
returns c = let a = c.args in
    cc (least_end (infinite_at a.sorts.now a.finite.now a.w) c.at-n.result c.loop-p.p c.loop-p.invariant c.loop-p-test.false)
