-- `judge_branches` meets its contract: the buffer's length, the file's questions, and then the numbers. Assumes nothing.
use Rattle.std.proofs.Common.{◌≡◌, ◌∙◌, ap, arith, length}
use lib.ListN.{length-replicate}
use Rattle.std.proofs.lemmas.Result.{err_from_is_err_and}
use Rattle.branchverdicts.proofs.Calls.{file-refused, file-taken, holds-some, too_short}
use Rattle.branchverdicts.proofs.judge_branches.Goals as goal

pub returns-then-out-lt36 : goal.returns-then-out-lt36
returns-then-out-lt36 c = let s = c.args in
    let k = c.clear in
    let long : length k.new.out ≡ length s.out.now = ap length k.ensures ∙ length-replicate (length s.out.now) 0 in
    let g = too_short s.budget s.file.now (length s.out.now) k.new.out (omega arith) k.ensures in
    record {
      value = g.answers;
      out_after = g.leaves;
    }

pub returns-in_err-t : goal.returns-in_err-t
returns-in_err-t c = let s = c.args in
    let k = c.clear in
    let long : length k.new.out ≡ length s.out.now = ap length k.ensures ∙ length-replicate (length s.out.now) 0 in
    let p = err_from_is_err_and c.from_residual.result c.from_residual.ensures.1 in
    let g = file-refused s.budget s.file.now (length s.out.now) k.new.out (omega (arith, c.if-out-lt36.false)) c.in_err-t.field-0.0 c.in_err-t.ensures k.ensures in
    rw (p.1, p.2) (record {
      value = g.answers;
      out_after = g.leaves;
    })

pub fill-requires-clause-taken : goal.fill-requires-clause-taken
fill-requires-clause-taken c = let s = c.args in
    let k = c.clear in
    let long : length k.new.out ≡ length s.out.now = ap length k.ensures ∙ length-replicate (length s.out.now) 0 in
    holds-some s.budget s.file.now (length s.out.now) k.new.out (omega (arith, c.if-out-lt36.false)) c.in_ok-t.t c.in_ok-t.ensures

pub returns : goal.returns
returns c = let s = c.args in
    let k = c.clear in
    let long : length k.new.out ≡ length s.out.now = ap length k.ensures ∙ length-replicate (length s.out.now) 0 in
    let g = file-taken s.budget s.file.now (length s.out.now) c.fill.new.out (omega (arith, c.if-out-lt36.false)) c.in_ok-t.t c.in_ok-t.ensures k.new.out long c.fill.ensures in
    record {
      value = g.answers;
      out_after = g.leaves;
    }
