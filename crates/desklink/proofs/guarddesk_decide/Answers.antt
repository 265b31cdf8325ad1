-- `guarddesk_decide`: the test for a short buffer, then what `decide` says and what `put_answer` writes. Assumes nothing.
use native.Mathlib.Omega.{arith}
use Rattle.guard.specs.Limits.{base}
use Rattle.desklink.proofs.Linked.{answered, too_short}
use Rattle.desklink.proofs.guarddesk_decide.Goals as goal

pub returns-then-numbers-lt5 : goal.returns-then-numbers-lt5
returns-then-numbers-lt5 c = too_short base c.args.file.now c.args.budget c.args.rows.now c.args.places.now c.args.numbers.now (omega arith)

pub returns : goal.returns
returns c = let d = c.decide-answer in
    let p = c.put_answer in
    answered base c.args.file.now c.args.budget c.args.rows.now c.args.places.now c.args.numbers.now d.result d.new.rows d.new.places p.new.numbers (omega arith) d.ensures p.ensures
