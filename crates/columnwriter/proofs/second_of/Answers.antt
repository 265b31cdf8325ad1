-- `second_of`: the row has its place. Assumes nothing.
use Rattle.columnwriter.proofs.EntryLaws.{place}
use Rattle.columnwriter.proofs.second_of.Goals as goal

pub bounds-rows-r : goal.bounds-rows-r
bounds-rows-r c = place c.requires

pub bounds-rows-r-2 : goal.bounds-rows-r-2
bounds-rows-r-2 c = place c.requires
