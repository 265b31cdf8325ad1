-- `answer`: an answer of `decide` shows at most 4,096 rows. Assumes nothing.
use Rattle.guard.specs.Limits.{base}
use Rattle.guard.proofs.Claims.{base-supported}
use Rattle.decidewithin.proofs.Corollaries.{few-rows}
use Rattle.deskvectors.proofs.answer.Goals as goal

pub print_answer-requires : goal.print_answer-requires
print_answer-requires c = few-rows base base-supported _ _ _ _ _ _ _ c.decide-a.ensures
