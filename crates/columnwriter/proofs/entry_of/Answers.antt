-- `entry_of`: the row has its place. Assumes nothing.
use Rattle.columnwriter.proofs.EntryLaws.{place}
use Rattle.columnwriter.proofs.entry_of.Goals as goal

pub bounds-rows-r : goal.bounds-rows-r
bounds-rows-r c = place c.requires
