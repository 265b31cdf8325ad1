-- `decide_within`: a refusal clears both buffers; else the answer to the tables is the answer to the file. Assumes nothing.
use mathlib.Core.Path.{◌∙◌}
use native.Mathlib.Omega.{arith}
use Rattle.guard.specs.Question.{number_of}
use Rattle.decidewithin.proofs.Buffers.{caller_rows, caller_supported, caller_tables}
use Rattle.decidewithin.proofs.Decided.{file-refused, read-room, short_places, short-rows, tables_decide}
use Rattle.roots.proofs.TablesRead.{tables-read}
use Rattle.decidewithin.proofs.decide_within.Goals as goal

pub returns-then-rows-row_buffer : goal.returns-then-rows-row_buffer
returns-then-rows-row_buffer c = let r = c.refuse.ensures in
    rw r.value (short-rows _ _ _ _ _ _ _ r.rows_after r.places_after (omega arith))

pub returns-then-places-place_buffer : goal.returns-then-places-place_buffer
returns-then-places-place_buffer c = let r = c.refuse-then-places-place_buffer.ensures in
    rw r.value (short_places _ _ _ _ _ _ _ r.rows_after r.places_after (omega arith))

pub returns-in-Err : goal.returns-in-Err
returns-in-Err c = let a = c.args in
    let r = c.refuse-in-Err.ensures in
    rw r.value (file-refused _ _ _ _ _ _ _ r.rows_after r.places_after (omega (arith, c.row_buffer.ensures)) (omega (arith, c.place_buffer.ensures)) (number_of c.in-Err.q) (caller_tables a.types a.terms a.lines a.file.now ∙ c.in-Err.ensures))

pub answer_search-requires : goal.answer_search-requires
answer_search-requires c = let a = c.args in
    let read = caller_tables a.types a.terms a.lines a.file.now ∙ c.in-Ok.ensures in record {
      guards_tables = tables-read _ (caller_supported a.types a.terms a.lines) a.file.now c.in-Ok.t read;
      room_for = read-room _ a.file.now a.budget a.rows.now a.places.now a.rows.now a.places.now (caller_supported a.types a.terms a.lines) (caller_rows a.types a.terms a.lines) (omega (arith, c.row_buffer.ensures)) (omega (arith, c.place_buffer.ensures)) c.in-Ok.t read;
    }

pub returns-in-Ok : goal.returns-in-Ok
returns-in-Ok c = let a = c.args in
    tables_decide _ a.file.now a.budget a.rows.now a.places.now c.answer_search.new.rows c.answer_search.new.places
    (caller_supported a.types a.terms a.lines) (caller_rows a.types a.terms a.lines) (omega (arith, c.row_buffer.ensures)) (omega (arith, c.place_buffer.ensures)) c.in-Ok.t (caller_tables a.types a.terms a.lines a.file.now ∙ c.in-Ok.ensures) c.answer_search.result c.answer_search.ensures
