-- `put_numbers`: a number more, and one that doesn't fit. Assumes nothing.
use Rattle.std.proofs.Common.{arith, rules}
use lib.IntN.{pos}
use lib.ListN.{get_or}
use mir.Syntax.{w64}
use mir.Val.{SFits}
use Rattle.std.specs.Prelude.{None}
use Rattle.filewriter.specs.Marking.{PutsTokens}
use Rattle.filewriter.proofs.TokenLaws.{numbers_full, numbers_next}
use Rattle.filewriter.proofs.put_numbers.Goals as goal

pub returns-in_err-put_number : goal.returns-in_err-put_number
returns-in_err-put_number c = let a = c.args in
    let l = c.loop-i in
    let fits : SFits w64 (get_or a.list.now l.i (pos 0)) = search rules in
    let p : PutsTokens a.list.now a.marks.now a.out.now None c.put_number.new.out.out.now =
    numbers_full l.invariant (omega arith) fits c.written_number-n.ensures c.in_err-put_number.ensures c.new-writer.ensures.out c.new-writer.ensures.at in
    rw c.from_residual.ensures (search (rules, p))

pub loop-i-preserved : goal.loop-i-preserved
loop-i-preserved c = let l = c.loop-i in
    let fits : SFits w64 (get_or c.args.list.now l.i (pos 0)) = search rules in
    numbers_next l.invariant (omega arith) fits c.written_number-n.ensures c.in_ok-put_number.ensures
