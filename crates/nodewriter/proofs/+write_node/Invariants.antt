-- What falls from call to call of `write_node`: the total of the label sizes. Assumes nothing.
use Rattle.search.proofs.Measure.{label_sum}
use Rattle.nodewriter.proofs.+write_node.Given as goal

abbrev pub decreases-write_node : goal.decreases-write_node
decreases-write_node l = label_sum l.state.now
