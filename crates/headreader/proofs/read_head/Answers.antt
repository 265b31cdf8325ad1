-- `read_head` meets its contract: it asks the readers of the parts in the order of the file. Assumes nothing.
use Rattle.std.proofs.Common.{◌∙◌, sym}
use Rattle.std.proofs.lemmas.Result.{err_from_is_err_and}
use Rattle.guard.specs.Question.{number_of}
use Rattle.typereader.proofs.TypeReaderLaws.{types-found}
use Rattle.headreader.proofs.HeadLaws.{all_read, facts_stop, rows_stop, types_stop}
use Rattle.headreader.proofs.read_head.Goals as goal

pub returns-in_err-t : goal.returns-in_err-t
returns-in_err-t c = let p = err_from_is_err_and c.from_residual.result c.from_residual.ensures.1 in
    rw (p.1, p.2) (types_stop c.args.types c.args.terms c.args.bytes.now (number_of c.in_err-t.field-0.0) c.in_err-t.ensures)

pub type_facts-requires : goal.type_facts-requires
type_facts-requires c = (types-found c.args.bytes.now c.args.types c.requires.0 c.in_ok-t.t.value c.in_ok-t.t.at c.in_ok-t.ensures).range

pub returns-in_err-defaults : goal.returns-in_err-defaults
returns-in_err-defaults c = let a = c.args in
    let t = c.in_ok-t.t in
    let found = types-found a.bytes.now a.types c.requires.0 t.value t.at c.in_ok-t.ensures in
    let p = err_from_is_err_and c.from_residual-in_err-defaults.result c.from_residual-in_err-defaults.ensures.1 in
    rw (p.1, p.2) (facts_stop a.types a.terms a.bytes.now t.value t.at found c.in_err-defaults.field-0.0 (sym c.type_facts.ensures ∙ c.in_err-defaults.was))

pub read_rows-requires : goal.read_rows-requires
read_rows-requires c = ((types-found c.args.bytes.now c.args.types c.requires.0 c.in_ok-t.t.value c.in_ok-t.t.at c.in_ok-t.ensures).range, c.requires.1)

pub returns-in_err-n : goal.returns-in_err-n
returns-in_err-n c = let a = c.args in
    let t = c.in_ok-t.t in
    let found = types-found a.bytes.now a.types c.requires.0 t.value t.at c.in_ok-t.ensures in
    let p = err_from_is_err_and c.from_residual-in_err-n.result c.from_residual-in_err-n.ensures.1 in
    rw (p.1, p.2) (rows_stop a.types a.terms a.bytes.now t.value t.at found c.in_ok-defaults.defaults (sym c.type_facts.ensures ∙ c.in_ok-defaults.was) (number_of c.in_err-n.field-0.0) c.in_err-n.ensures)

pub returns : goal.returns
returns c = let a = c.args in
    let t = c.in_ok-t.t in
    let found = types-found a.bytes.now a.types c.requires.0 t.value t.at c.in_ok-t.ensures in
    all_read a.types a.terms a.bytes.now t.value t.at found c.in_ok-defaults.defaults (sym c.type_facts.ensures ∙ c.in_ok-defaults.was) c.in_ok-n.n.value c.in_ok-n.n.at c.in_ok-n.ensures
