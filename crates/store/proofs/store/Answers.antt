-- `store`: the file is read, and its guard put by column. Assumes nothing.
use lib.ListN.{length}
use Rattle.std.proofs.lemmas.Result.{err_from_is_err_and}
use Rattle.guard.specs.Limits.{base}
use Rattle.guard.specs.Question.{number_of}
use Rattle.guard.specs.declared.Question.{Question}
use Rattle.reader.proofs.TablesRead.{refused-file}
use Rattle.filewriter.proofs.Answers.{answers-refused, answers-short, answers-written}
use Rattle.mergewriter.proofs.Held.{opened}
use Rattle.columnfile.specs.Columns.{stored_bytes}
use Rattle.store.proofs.store.Goals as goal

pub returns-in_err-t : goal.returns-in_err-t
returns-in_err-t c = let p = err_from_is_err_and c.from_residual.result c.from_residual.ensures.1 in
    let q : Question = c.in_err-t.field-0.0 in
    let a = answers-refused stored_bytes q (refused-file base c.args.bytes.now (number_of q) c.in_err-t.ensures) (length c.args.out.now) c.clear.ensures in
    rw (p.1, p.2) (record { value = a.0; out_after = a.1 })

pub put_stored-requires : goal.put_stored-requires
put_stored-requires c = record { g = _; is = (opened c.args.bytes.now c.in_ok-t.t c.in_ok-t.ensures).tables }

pub returns-in_default : goal.returns-in_default
returns-in_default c = let k = opened c.args.bytes.now c.in_ok-t.t c.in_ok-t.ensures in
    let a = answers-short stored_bytes k.is c.args.out.now c.clear.ensures (c.in_default.ensures.puts k.guard k.tables) c.clear-in_default.ensures in
    record { value = a.0; out_after = a.1 }

pub returns : goal.returns
returns c = let k = opened c.args.bytes.now c.in_ok-t.t c.in_ok-t.ensures in
    let a = answers-written stored_bytes k.is c.args.out.now c.clear.ensures (c.in-Some.ensures.puts k.guard k.tables) in
    record { value = a.0; out_after = a.1 }
