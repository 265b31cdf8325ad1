-- Invariant: the classes before the index are renamed. Assumes nothing.
use mathlib.Core.Path.{◌≡◌}
use Rattle.classes.proofs.ClassLaws.{renamed_front}
use Rattle.classes.proofs.rename.Given as goal

abbrev pub invariant-loop-class : goal.invariant-loop-class
invariant-loop-class l = l.class-items ≡ renamed_front l.low l.high l.class-index l.initial.class-items
