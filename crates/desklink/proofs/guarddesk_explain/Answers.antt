-- `guarddesk_explain`: the test for a short buffer, then what `explain` says and what `put_answer` writes. Assumes nothing.
use native.Mathlib.Omega.{arith}
use Rattle.desklink.proofs.Linked.{answered_explained, too_short_explained}
use Rattle.desklink.proofs.guarddesk_explain.Goals as goal

pub returns-then-numbers-le4 : goal.returns-then-numbers-le4
returns-then-numbers-le4 c = too_short_explained c.args.file.now c.args.budget c.args.rows.now c.args.places.now c.args.«record».now c.args.numbers.now (omega arith)

pub returns : goal.returns
returns c = let d = c.explain-e in
    let p = c.put_answer in
    answered_explained c.args.file.now c.args.budget c.args.rows.now c.args.places.now c.args.«record».now c.args.numbers.now d.result d.new.rows d.new.places d.new.record p.new.numbers (omega arith) d.ensures p.ensures
