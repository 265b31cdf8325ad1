-- The terms so far are labelled. Assumes nothing.
use mathlib.Core.List.{foldl}
use mathlib.Core.Path.{◌≡◌}
use Rattle.guard.specs.Closure.{add}
use Rattle.labelfacts.specs.Labels.{all_variants_at}
use Rattle.facts.proofs.Adding.{up_to}
use Rattle.labelfacts.proofs.label_terms.Given as goal

abbrev pub invariant-loop-x : goal.invariant-loop-x
invariant-loop-x l = l.state ≡ foldl add l.initial.state (up_to (all_variants_at l.sorts.sorts l.sorts.full) l.x)
