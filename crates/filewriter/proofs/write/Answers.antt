-- `write` meets its contract. Assumes nothing.
use Rattle.std.proofs.Common.{refl, arith}
use Rattle.std.specs.Prelude.{Some, None}
use Rattle.serialize.specs.Tokens.{bytes_of}
use Rattle.filewriter.proofs.Answers.{answers-short, answers-written}
use Rattle.filewriter.proofs.WriteLaws.{all-marked, file-puts, lines-few, list_length, listed-tables, rows_end}
use Rattle.filewriter.proofs.write.Goals as goal

pub overflow_sub-rows_end : goal.overflow_sub-rows_end
overflow_sub-rows_end c = omega (arith, list_length c.args.list.now c.in_ok-t.ensures.reads_list)

pub overflow_mul-rows_end : goal.overflow_mul-rows_end
overflow_mul-rows_end c = omega (arith, lines-few c.args.list.now c.in_ok-t.ensures.reads_list)

pub overflow_sub-rows_end-2 : goal.overflow_sub-rows_end-2
overflow_sub-rows_end-2 c = omega (arith, list_length c.args.list.now c.in_ok-t.ensures.reads_list)

pub mark_values-requires : goal.mark_values-requires
mark_values-requires c = let list = c.args.list.now in
    let k = c.in_ok-t.ensures.reads_list in
    record { guard = k.guard; listed = listed-tables list k; ends = rows_end list k; blank = refl }

pub put_numbers-requires : goal.put_numbers-requires
put_numbers-requires c = record { tokens = _; marked = all-marked c.args.list.now c.in_ok-t.ensures.reads_list c.mark_values.ensures }

pub returns-in_default : goal.returns-in_default
returns-in_default c = let list = c.args.list.now in
    let k = c.in_ok-t.ensures.reads_list in
    let w = file-puts list k _ None _ (c.in_default.ensures.puts _ (all-marked list k c.mark_values.ensures)) in
    let a = answers-short bytes_of k.is c.args.out.now c.clear.ensures w c.clear-in_default.ensures in
    record { value = a.0; not_malformed = λ e. omega arith; out_after = a.1 }

pub returns : goal.returns
returns c = let list = c.args.list.now in
    let k = c.in_ok-t.ensures.reads_list in
    let w = file-puts list k _ (Some c.in-Some.end) _ (c.in-Some.ensures.puts _ (all-marked list k c.mark_values.ensures)) in
    let a = answers-written bytes_of k.is c.args.out.now c.clear.ensures w in
    record { value = a.0; not_malformed = tt; out_after = a.1 }
