-- `head_of`: what the types part, its facts and N say. Assumes nothing.
use Rattle.std.proofs.Common.{◌∙◌, sym}
use Rattle.std.proofs.lemmas.Result.{err_from_is_err_and}
use Rattle.guard.specs.Question.{number_of}
use Rattle.restore.proofs.HeadLaws.{count_stop, facts_stop, found, head-taken, types_stop}
use Rattle.restore.proofs.head_of.Goals as goal

pub returns-in_err-t : goal.returns-in_err-t
returns-in_err-t c = let p = err_from_is_err_and c.from_residual.result c.from_residual.ensures.1 in
    rw (p.1, p.2) (types_stop c.args.stored.now (number_of c.in_err-t.field-0.0) c.in_err-t.ensures)

pub type_facts-requires : goal.type_facts-requires
type_facts-requires c = (found c.args.stored.now c.in_ok-t.t.value c.in_ok-t.t.at c.in_ok-t.ensures).range

pub returns-in_err-type_facts : goal.returns-in_err-type_facts
returns-in_err-type_facts c = let t = c.in_ok-t.t in
    let p = err_from_is_err_and c.from_residual-in_err-type_facts.result c.from_residual-in_err-type_facts.ensures.1 in
    rw (p.1, p.2) (facts_stop c.args.stored.now t.value t.at c.in_ok-t.ensures c.in_err-type_facts.field-0.0 (sym c.type_facts.ensures ∙ c.in_err-type_facts.was))

pub returns-in_err-n : goal.returns-in_err-n
returns-in_err-n c = let t = c.in_ok-t.t in
    let p = err_from_is_err_and c.from_residual-in_err-n.result c.from_residual-in_err-n.ensures.1 in
    rw (p.1, p.2) (count_stop c.args.stored.now t.value t.at c.in_ok-t.ensures c.in_ok-type_facts.field-0 (sym c.type_facts.ensures ∙ c.in_ok-type_facts.was) (number_of c.in_err-n.field-0.0) c.in_err-n.ensures)

pub returns : goal.returns
returns c = let t = c.in_ok-t.t in
    head-taken c.args.stored.now t.value t.at c.in_ok-t.ensures c.in_ok-type_facts.field-0 (sym c.type_facts.ensures ∙ c.in_ok-type_facts.was) c.in_ok-n.n.value c.in_ok-n.n.at c.in_ok-n.ensures
