-- `answer_text`: the writer begins at the start of the buffer. Assumes nothing.
use Rattle.std.proofs.Common.{rules}
use mathlib.Core.Path.{ap, ◌∙◌}
use native.Mathlib.Omega.{arith}
use lib.ListN.{length}
use Rattle.writing.proofs.Wrote.{from_start}
use Rattle.answertext.proofs.answer_text.Goals as goal

pub put_answer-requires : goal.put_answer-requires
put_answer-requires c = let new = c.new-writer.ensures in omega (arith, new.at, ap length new.out)

pub returns : goal.returns
returns c = let new = c.new-writer.ensures in
    let p = from_start new.out new.at c.put_answer.ensures in
    let same = c.put_answer.ensures.same ∙ new.same in
    search (rules, p, same)
