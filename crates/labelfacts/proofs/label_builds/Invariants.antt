-- The shapes so far are labelled. Assumes nothing.
use mathlib.Core.List.{foldl}
use mathlib.Core.Path.{◌≡◌}
use Rattle.guard.specs.Closure.{add}
use Rattle.labelfacts.specs.Labels.{one_variant_at}
use Rattle.facts.proofs.Adding.{up_to}
use Rattle.labelfacts.proofs.label_builds.Given as goal

abbrev pub invariant-loop-slot : goal.invariant-loop-slot
invariant-loop-slot l = l.state ≡ foldl add l.initial.state (up_to (one_variant_at l.shapes.slots) l.slot)
