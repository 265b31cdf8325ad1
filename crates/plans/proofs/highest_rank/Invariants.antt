-- `highest_rank` meets its contract. Invariant: the highest rank below. Assumes nothing.
use mathlib.Core.Path.{◌≡◌}
use Rattle.plans.specs.Chosen.{highest_below}
use Rattle.plans.proofs.highest_rank.Given as goal

abbrev pub invariant-loop-c : goal.invariant-loop-c
invariant-loop-c l = l.most ≡ highest_below l.marks l.ranks l.c
