-- `grow` meets its contract. Invariant: the last steps are drawn, all but those that are left. Assumes nothing.
use Prim.Native.Nat.{◌-◌, ◌≤◌}
use Rattle.growth.proofs.Growth.{next_type}
use Rattle.growth.proofs.Orbit.{iterate}
use Rattle.forms.specs.Forms.{types_in}
use Rattle.growthrows.proofs.StepLaws.{Grew}
use Rattle.growthrows.proofs.grow.Given as goal

abbrev pub invariant-loop-left : goal.invariant-loop-left
invariant-loop-left l = (l.left ≤ l.steps) × Grew (types_in l.forms) l.initial.rows l.many l.initial.drawn l.row (l.steps - l.left) (iterate (next_type (types_in l.forms)) l.left l.t) l.rows l.count l.drawn l.at
