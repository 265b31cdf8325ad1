-- `rank_classes` meets its contract. Invariant: what the rounds left come to is the whole. Assumes nothing.
use Rattle.ranks.proofs.Rounds.{Left}
use Rattle.ranks.proofs.rank_classes.Given as goal

abbrev pub invariant-loop-round : goal.invariant-loop-round
invariant-loop-round l = Left l.shapes.slots l.state l.round l.ranks
