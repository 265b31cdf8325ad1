-- `free_rows` meets its contract. Invariant: the free classes below are drawn. Assumes nothing.
use Rattle.freerows.proofs.StageLaws.{Reached}
use Rattle.forms.specs.Forms.{types_in}
use Rattle.leaf.specs.Leaf.{open_state}
use Rattle.freerows.proofs.free_rows.Given as goal

abbrev pub invariant-loop-c : goal.invariant-loop-c
invariant-loop-c l = Reached (open_state (types_in l.forms) l.leaf) l.c l.initial.rows l.at l.rows l.many l.drawn l.tops l.last
