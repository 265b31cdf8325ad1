-- `is_inside` meets its contract. Assumes nothing.
use Rattle.claims.proofs.ClaimTests.{inside-there, not_inside}
use Rattle.claims.proofs.is_inside.Goals as goal

pub returns-then-x-ge78 : goal.returns-then-x-ge78
returns-then-x-ge78 c = let a = c.args in not_inside a.sorts.now.sorts a.x a.shapes.now.slots a.state.now c.if-x-ge78.true

pub returns : goal.returns
returns c = let a = c.args in
    inside-there a.sorts.now.sorts a.x a.shapes.now.slots a.state.now c.is_inside.result c.if-x-ge78.false c.is_inside.ensures
