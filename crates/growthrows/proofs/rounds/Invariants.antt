-- `rounds` meets its contract. Invariant: the rounds so far are drawn. Assumes nothing.
use Prim.Native.Nat.{◌*◌}
use Rattle.growth.proofs.Growth.{period_of}
use Rattle.forms.specs.Forms.{types_in}
use Rattle.growthrows.proofs.StepLaws.{Grew}
use Rattle.growthrows.proofs.rounds.Given as goal

abbrev pub invariant-loop : goal.invariant-loop
invariant-loop l = Grew (types_in l.forms) l.initial.rows l.many l.initial.drawn l.row (l.counter * period_of (types_in l.forms) l.t) l.t l.rows l.count l.drawn l.at
