-- `needed` meets its contract. Assumes nothing.
use Rattle.needed.proofs.Marking.{needed_marks}
use Rattle.needed.proofs.needed.Goals as goal

pub returns : goal.returns
returns c = let a = c.args in
    needed_marks a.shapes.now.slots a.state.now a.rows c.held.ensures.held.there c.mark_rows.ensures c.follow_parts.ensures
