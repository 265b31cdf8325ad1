-- The number that falls is the total of the label sizes. Assumes nothing.
use Rattle.search.proofs.Measure.{label_sum}
use Rattle.nodechecker.proofs.+check_node.Given as goal

abbrev pub decreases-check_node : goal.decreases-check_node
decreases-check_node l = label_sum l.state.now
