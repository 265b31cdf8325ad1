-- `set_places` meets its contract. Assumes nothing.
use Rattle.messages.proofs.PlaceLaws.{Midway}
use Rattle.messages.proofs.set_places.Given as goal

abbrev pub invariant-loop-i : goal.invariant-loop-i
invariant-loop-i l = Midway l.state.classes l.at l.initial.places l.many l.i l.places
