-- Invariant: whether one of the classes so far is at the bottom. Assumes nothing.
use mathlib.Core.Path.{◌≡◌}
use Rattle.levels.specs.Levels.{bottomed}
use Rattle.levels.proofs.is_bottomed.Given as goal

abbrev pub invariant-loop-c : goal.invariant-loop-c
invariant-loop-c l = l.any ≡ bottomed l.levels l.c
