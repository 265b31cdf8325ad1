-- `put_rows`: the table of skipped rows has a place for each row. Assumes nothing.
use Rattle.rowterms.proofs.RowLaws.{some-place}
use Rattle.rowwriter.proofs.put_rows.Goals as goal

pub bounds-skipped-r : goal.bounds-skipped-r
bounds-skipped-r c = some-place c.requires c.loop-r-test.true
