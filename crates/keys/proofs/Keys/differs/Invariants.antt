-- Invariant: if none differs so far, all agree so far. Assumes nothing.
use mathlib.Core.Path.{◌≡◌}
use mathlib.Core.Bool.{false}
use Rattle.keys.specs.Keys.{Agreed}
use Rattle.keys.proofs.Keys.differs.Given as goal

abbrev pub invariant-loop-i : goal.invariant-loop-i
invariant-loop-i l = l.any ≡ false → Agreed l.self.parts l.self.owners l.k l.i
