-- `is_broken` meets its contract. Assumes nothing.
use mathlib.Core.Path.{ap, ◌∙◌}
use mathlib.Core.List.{List}
use Prim.Native.Nat.{ℕ}
use borrow.Author.Tests.{le-ltb, lt-ltb}
use Rattle.loops.proofs.Tests.{no_and, yes_and}
use Rattle.reasons.specs.Reasons.{broken_at}
use Rattle.claims.proofs.ClaimTests.{tells}
use Rattle.claims.proofs.is_broken.Goals as goal

pub returns-then-lines-j : goal.returns-then-lines-j
returns-then-lines-j c = let a = c.args in tells _ _ (no_and _ (le-ltb a.j a.lines.now.many c.if-lines-j.true))

pub returns : goal.returns
returns c = let a = c.args in
    tells _ _ (c.is_broken.ensures ∙ ap (λ (cs : List ℕ). broken_at a.lines.now.kinds a.lines.now.terms a.lines.now.others cs a.j) c.classes.ensures ∙ yes_and _ (lt-ltb a.j a.lines.now.many c.if-lines-j.false))
