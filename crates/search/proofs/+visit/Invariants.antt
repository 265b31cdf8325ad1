-- What falls from call to call of `visit`: the total of the label sizes. Assumes nothing.
use Rattle.search.proofs.Measure.{label_sum}
use Rattle.search.proofs.+visit.Given as goal

abbrev pub decreases-visit : goal.decreases-visit
decreases-visit l = label_sum l.state.now
