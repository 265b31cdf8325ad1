-- `guarddesk_load`: the test for a short buffer, then what `load` says and what `put_answer` writes. Assumes nothing.
use native.Mathlib.Omega.{arith}
use Rattle.decidewithin.specs.CallerLimits.{loader}
use Rattle.desklink.proofs.Linked.{answered, too_short}
use Rattle.desklink.proofs.guarddesk_load.Goals as goal

pub returns-then-numbers-gt4 : goal.returns-then-numbers-gt4
returns-then-numbers-gt4 c = let d = c.load-answer in
    let p = c.put_answer in
    answered loader c.args.file.now c.args.budget c.args.rows.now c.args.places.now c.args.numbers.now d.result d.new.rows d.new.places p.new.numbers (omega arith) d.ensures p.ensures

pub returns : goal.returns
returns c = too_short loader c.args.file.now c.args.budget c.args.rows.now c.args.places.now c.args.numbers.now (omega arith)
