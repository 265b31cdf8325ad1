-- `growing_entry` meets its contract. Invariant: no variant below has fields. Assumes nothing.
use Rattle.nexttypes.specs.NextTypes.{fielded_at, growing_entry}
use Rattle.columns.proofs.Searches.{least_end, least_here, least_on}
use Rattle.nexttypes.proofs.growing_entry.Goals as goal

pub loop-v-preserved : goal.loop-v-preserved
loop-v-preserved c = least_on _ _ _ c.loop-v.invariant c.loop-v-test.true c.is_fielded.ensures c.if-is_fielded.false

pub returns-then-is_fielded : goal.returns-then-is_fielded
unfolding growing_entry
returns-then-is_fielded c =
    cc (least_here (fielded_at c.args.arities.now c.at-start.result) c.at-n.result c.loop-v.v c.loop-v.invariant c.is_fielded.ensures c.if-is_fielded.true)

pub returns : goal.returns
unfolding growing_entry
returns c =
    cc (least_end (fielded_at c.args.arities.now c.at-start.result) c.at-n.result c.loop-v.v c.loop-v.invariant c.loop-v-test.false)
