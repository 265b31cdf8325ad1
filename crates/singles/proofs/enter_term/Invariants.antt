-- Invariant, for an empty label: the term is entered at the variants so far. Assumes nothing.
use Rattle.singles.specs.Entered.{Advance, SeenFit}
use Rattle.singles.proofs.enter_term.Given as goal

abbrev pub invariant-loop-v : goal.invariant-loop-v
invariant-loop-v l = record {
  entered : Advance l.sorts.sorts l.sorts.fieldless l.initial.state l.initial.seen l.x 0 l.state l.seen l.x l.v l.changed;
  seen_fit : SeenFit l.sorts.sorts l.seen l.x l.v;
}
