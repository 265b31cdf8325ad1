-- `answer_next` is safe: the part that it lends is as long as the file. Assumes nothing.
use mathlib.Core.Path.{sym}
use lib.Seq.{length-take-le}
use Rattle.deskvectors.proofs.answer_next.Goals as goal

pub slice_bounds-answer-end-2 : goal.slice_bounds-answer-end-2
slice_bounds-answer-end-2 c = let file = c.next_file-n in
    sym (length-take-le file.result file.new.buffer c.if-buffer-n.false)
