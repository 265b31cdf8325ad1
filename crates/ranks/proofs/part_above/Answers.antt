-- `part_above` meets its contract. Assumes nothing.
use Rattle.std.proofs.Common.{rules}
use Rattle.ranks.specs.Ranks.{part_above}
use Rattle.loops.proofs.Loops.{some_passes}
use Rattle.ranks.proofs.part_above.Goals as goal

pub returns : goal.returns
unfolding part_above
returns c = rw (← c.many.ensures) (search (rules, some_passes))
