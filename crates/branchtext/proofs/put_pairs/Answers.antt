-- `put_pairs` meets its contract: the lines of the pairs whose lower branch is before the i-th are put, and those left are the rest.
-- Assumes nothing.
use native.Mathlib.Omega.{arith}
use Rattle.branchtext.proofs.PairLaws.{put_all, put_more, put_none}
use Rattle.branchtext.proofs.put_pairs.Goals as goal

pub loop-i-init : goal.loop-i-init
loop-i-init c = let s = c.args in
    put_none s.word.now s.code s.many s.codes.now _ c.requires.many_bound

pub loop-i-preserved : goal.loop-i-preserved
loop-i-preserved c = let s = c.args in
    put_more s.word.now s.code s.many s.codes.now c.loop-i.invariant (omega arith) c.requires.many_bound c.put_pairs_of.ensures

pub returns : goal.returns
returns c = let s = c.args in
    put_all s.word.now s.code s.many s.codes.now c.loop-i.invariant (omega arith)
