-- `is_unlike` meets its contract. Assumes nothing.
use mathlib.Core.Path.{ap, ap₂, ◌∙◌}
use Rattle.guard.specs.Closure.{class_of}
use Rattle.loops.proofs.Tests.{no_and, yes_and}
use Rattle.unlikeconstants.specs.Unlike.{unlike_in}
use Rattle.claims.proofs.ClaimTests.{tells}
use Rattle.claims.proofs.is_unlike.Goals as goal

pub returns-in-None : goal.returns-in-None
returns-in-None c = tells _ _ (no_and _ c.in-None.ensures)

pub returns-in-Some : goal.returns-in-Some
returns-in-Some c = let a = c.args in
    let (small, same, there) = c.in-Some.ensures in
    tells _ _ (c.holds_unlike.ensures ∙ ap₂ (unlike_in a.constants.now.sorts a.constants.now.values) c.classes.ensures (c.class_of.ensures.value ∙ ap (class_of a.state.now) same) ∙ yes_and _ there)
