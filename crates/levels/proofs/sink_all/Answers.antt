-- `sink_all` meets its contract. Invariant: the last shapes are passed. Assumes nothing.
use Prim.Native.Nat.{◌-◌}
use native.Mathlib.Omega.{arith}
use Rattle.levels.proofs.LevelLaws.{none_yet, one_more}
use Rattle.levels.proofs.sink_all.Goals as goal

pub loop-k-init : goal.loop-k-init
loop-k-init c = let a = c.args in none_yet a.shapes.now.slots a.state.now a.levels.now

pub loop-k-preserved : goal.loop-k-preserved
loop-k-preserved c = let a = c.args in
    let l = c.loop-k in
    one_more a.shapes.now.slots a.state.now (30 - l.k) (30 - (l.k - 1)) (l.k - 1) (omega arith) (omega arith) l.any c.sink-any.result l.invariant c.sink-any.ensures
