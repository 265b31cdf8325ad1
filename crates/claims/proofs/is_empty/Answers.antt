-- `is_empty` meets its contract. Assumes nothing.
use mathlib.Core.Path.{ap, ◌∙◌}
use Rattle.loops.proofs.Tests.{no_and, yes_and}
use Rattle.reasons.specs.Reasons.{empty_at}
use Rattle.claims.proofs.ClaimTests.{tells}
use Rattle.claims.proofs.is_empty.Goals as goal

pub returns-in-None : goal.returns-in-None
returns-in-None c = tells _ _ (no_and _ c.in-None.ensures)

pub returns-in-Some : goal.returns-in-Some
returns-in-Some c = let a = c.args in
    let (small, same, there) = c.in-Some.ensures in
    tells _ _ (c.is_empty.ensures ∙ ap (empty_at a.sorts.now.sorts a.sorts.now.full a.state.now) same ∙ yes_and _ there)
