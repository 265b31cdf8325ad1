-- `types_question`: what the types part, its facts and its count of number types say. Assumes nothing.
use Rattle.std.proofs.Common.{◌∙◌, sym}
use Rattle.std.proofs.lemmas.Result.{err_from_is_err_and}
use Rattle.guard.specs.Question.{number_of}
use Rattle.numbertypes.proofs.AskedLaws.{at_most_one, facts_stop, part_stops, several, table-range}
use Rattle.numbertypes.proofs.types_question.Goals as goal

pub returns-in_err-t : goal.returns-in_err-t
returns-in_err-t c = let p = err_from_is_err_and c.from_residual.result c.from_residual.ensures.1 in
    rw (p.1, p.2) (part_stops c.args.file.now (number_of c.in_err-t.field-0.0) c.in_err-t.ensures)

pub type_facts-requires : goal.type_facts-requires
type_facts-requires c = table-range c.args.file.now c.in_ok-t.t.value c.in_ok-t.t.at c.in_ok-t.ensures

pub returns-in_err-type_facts : goal.returns-in_err-type_facts
returns-in_err-type_facts c = let p = err_from_is_err_and c.from_residual-in_err-type_facts.result c.from_residual-in_err-type_facts.ensures.1 in
    rw (p.1, p.2) (facts_stop c.args.file.now c.in_ok-t.t.value c.in_ok-t.t.at c.in_ok-t.ensures c.in_err-type_facts.field-0.0 (sym c.type_facts.ensures ∙ c.in_err-type_facts.was))

pub one_number_type-requires : goal.one_number_type-requires
one_number_type-requires c = (table-range c.args.file.now c.in_ok-t.t.value c.in_ok-t.t.at c.in_ok-t.ensures).many

pub returns-then-not-one_number_type : goal.returns-then-not-one_number_type
returns-then-not-one_number_type c = several c.args.file.now c.in_ok-t.t.value c.in_ok-t.t.at c.in_ok-t.ensures c.in_ok-type_facts.field-0 (sym c.type_facts.ensures ∙ c.in_ok-type_facts.was) c.one_number_type.result c.one_number_type.ensures c.if-not-one_number_type.true

pub returns : goal.returns
returns c = at_most_one c.args.file.now c.in_ok-t.t.value c.in_ok-t.t.at c.in_ok-t.ensures c.in_ok-type_facts.field-0 (sym c.type_facts.ensures ∙ c.in_ok-type_facts.was) c.one_number_type.result c.one_number_type.ensures c.if-not-one_number_type.false
