-- `is_cyclic` meets its contract. Invariant: steps from the top led here; the sum falls with each round. Assumes nothing.
use Rattle.levels.proofs.LevelLaws.{from_top, sinks_on, told}
use Rattle.levels.proofs.is_cyclic.Goals as goal

pub loop-init : goal.loop-init
loop-init c = let a = c.args in from_top a.shapes.now.slots a.state.now

pub loop-preserved : goal.loop-preserved
loop-preserved c = let a = c.args in
    sinks_on a.shapes.now.slots a.state.now c.loop.invariant c.sink_all.ensures.steps

pub returns : goal.returns
returns c = let a = c.args in
    let l = c.loop in
    let f = c.sink_all in
    told a.shapes.now.slots a.state.now c.held.ensures.held l.levels l.invariant f.result c.is_bottomed.result c.loop-test.false f.ensures c.is_bottomed.ensures
