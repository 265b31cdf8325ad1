-- `answer` is safe: it searches where the reader took the file. Assumes nothing.
use Rattle.reader.proofs.ReaderLaws.{supported}
use Rattle.roots.proofs.TablesRead.{tables-read}
use Rattle.searchvectors.proofs.answer.Goals as goal

pub search_guard-requires : goal.search_guard-requires
search_guard-requires c = record {
  guards_tables = tables-read _ (supported 6 24 32) c.args.file.now c.in-Ok.t c.in-Ok.ensures;
  problem_value = c.problem_of-problem.ensures;
}
