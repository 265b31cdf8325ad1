-- `lowest_part` meets its contract. Invariant: the lowest of the parts so far. Assumes nothing.
use Rattle.levels.proofs.LevelLaws.{next-part}
use Rattle.levels.proofs.lowest_part.Goals as goal

pub loop-p-preserved : goal.loop-p-preserved
loop-p-preserved c = let a = c.args in
    let l = c.loop-p in
    next-part a.shapes.now.slots a.state.now.classes a.levels.now a.k l.p l.low c.rank_at.result c.part-in-loop-p.result c.min-low.result l.invariant c.rank_at.ensures
    c.part-in-loop-p.ensures c.min-low.ensures
