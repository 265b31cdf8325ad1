-- `explain` meets its contract: it says what the desk says, and after UNSAT asks whether the record fits. Assumes nothing.
use mathlib.Core.Path.{sym, ◌∙◌}
use Rattle.explain.proofs.ExplainLaws.{other-answer, outgrown, taken, unsat-recorded}
use Rattle.explain.proofs.explain.Goals as goal

pub returns-then-not-is_unsat : goal.returns-then-not-is_unsat
returns-then-not-is_unsat c = other-answer c.args.«record».now c.decide-answer.ensures (sym c.is_unsat.ensures ∙ c.if-not-is_unsat.true) c.clear.ensures

pub write_file_record-requires : goal.write_file_record-requires
write_file_record-requires c = taken c.args.«record».now c.decide-answer.ensures (sym c.is_unsat.ensures ∙ c.if-not-is_unsat.false)

pub returns-in_default : goal.returns-in_default
returns-in_default c = outgrown c.args.«record».now c.decide-answer.ensures (sym c.is_unsat.ensures ∙ c.if-not-is_unsat.false) c.in_default.ensures

pub returns : goal.returns
returns c = unsat-recorded c.args.«record».now c.decide-answer.ensures (sym c.is_unsat.ensures ∙ c.if-not-is_unsat.false) c.in-Some.ensures
