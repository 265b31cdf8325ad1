-- `write_file_record` meets its contract: the tables are those of the accepted guard. Assumes nothing.
use Rattle.guard.proofs.Claims.{base-supported}
use Rattle.roots.proofs.TablesRead.{tables-read}
use Rattle.explain.proofs.ExplainLaws.{file-read, file-record}
use Rattle.explain.proofs.write_file_record.Goals as goal

pub unwrap-tables-requires : goal.unwrap-tables-requires
unwrap-tables-requires c = file-read c.args.file.now c.read.result c.read.ensures c.requires

pub write_record-requires : goal.write_record-requires
write_record-requires c = record {
  guards_tables = tables-read _ base-supported c.args.file.now c.unwrap-tables.result (rw c.unwrap-tables.ensures at c.read.ensures);
  problem_value = c.problem_of-problem.ensures;
}

pub returns : goal.returns
returns c = file-record (rw c.unwrap-tables.ensures at c.read.ensures) c.write_record.ensures
