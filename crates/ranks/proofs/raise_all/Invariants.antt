-- `raise_all` meets its contract. Invariant: the ranks, and whether a class was raised, after the shapes so far. Assumes nothing.
use mathlib.Core.Path.{◌≡◌}
use Rattle.ranks.specs.Ranks.{raised_to, raises_to}
use Rattle.ranks.proofs.raise_all.Given as goal

abbrev pub invariant-loop-k : goal.invariant-loop-k
invariant-loop-k l = record {
  raises : l.any ≡ raises_to l.shapes.slots l.state l.round l.k l.initial.ranks;
  raised : l.ranks ≡ raised_to l.shapes.slots l.state l.round l.k l.initial.ranks;
}
