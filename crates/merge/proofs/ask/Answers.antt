-- `ask`: variables, rows, lines, in this order. Assumes nothing.
use Rattle.std.proofs.Common.{◌≤◌, arith}
use Rattle.guard.specs.Guard.{Guard}
use Rattle.reader.specs.declared.Tables.{Tables}
use Rattle.mergewriter.specs.Merging.{TablesOf}
use Rattle.mergewriter.proofs.Held.{lines_are}
use Rattle.merge.proofs.Questions.{many-lines, many-rows, no-question, other-types}
use Rattle.merge.proofs.ask.Goals as goal

few-lines : {t : Tables} {g : Guard} → TablesOf t g → t.literals.many ≤ 32
few-lines k = omega (arith, lines_are k, k.fits.line_count)

pub returns-then-not-n-clause-asks : goal.returns-then-not-n-clause-asks
returns-then-not-n-clause-asks c = record { asks = λ g h b are. other-types b are c.if-not-n.true }

pub returns-then-n-gt24-clause-asks : goal.returns-then-n-gt24-clause-asks
returns-then-n-gt24-clause-asks c = record { asks = λ g h b are. many-rows b are c.if-not-n.false c.if-n-gt24.true }

pub overflow_add-lines : goal.overflow_add-lines
overflow_add-lines c = let both = c.requires.both in
    record { fits = omega (arith, few-lines both.one, few-lines both.other) }

pub returns-then-lines-gt32-clause-asks : goal.returns-then-lines-gt32-clause-asks
returns-then-lines-gt32-clause-asks c = record { asks = λ g h b are. many-lines b are c.if-not-n.false c.if-n-gt24.false c.if-lines-gt32.true }

pub returns-clause-asks : goal.returns-clause-asks
returns-clause-asks c = record { asks = λ g h b are. no-question b are c.if-not-n.false c.if-n-gt24.false c.if-lines-gt32.false }
