-- The literals so far are asserted. Assumes nothing.
use mathlib.Core.List.{foldl}
use mathlib.Core.Path.{◌≡◌}
use Rattle.guard.specs.Closure.{add}
use Rattle.literalfacts.specs.Literals.{literal_at}
use Rattle.facts.proofs.Adding.{up_to}
use Rattle.literalfacts.proofs.assert_literals.Given as goal

abbrev pub invariant-loop-j : goal.invariant-loop-j
invariant-loop-j l = l.state ≡ foldl add l.initial.state (up_to (literal_at l.lines.kinds l.lines.terms l.lines.others) l.j)
