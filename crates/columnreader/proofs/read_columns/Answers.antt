-- `read_columns`: the columns before j are read, and stand in the cells. Assumes nothing.
use Rattle.columnreader.proofs.ColumnLaws.{columns-next}
use Rattle.columnreader.proofs.read_columns.Goals as goal

pub loop-j-preserved : goal.loop-j-preserved
loop-j-preserved c = let s = c.loop-j.invariant in columns-next s c.loop-j-test.true (c.in_ok-next.ensures s.cs s.holds s.many)
