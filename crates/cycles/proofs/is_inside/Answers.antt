-- `is_inside` meets its contract. Assumes nothing.
use Rattle.cycles.proofs.PartLaws.{told}
use Rattle.cycles.proofs.is_inside.Goals as goal

pub returns : goal.returns
returns c = let a = c.args in
    let f = c.class_of-class in
    told a.shapes.now.slots a.sorts.now a.state.now a.x c.held.ensures.held.there c.if-sorts-x-eq0.false f.result f.ensures.value c.parts_of.ensures
