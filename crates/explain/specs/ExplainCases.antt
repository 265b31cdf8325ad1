-- What the second call says of cases of document 01, with record buffers that are just long enough and others. Assumes nothing.
use Rattle.std.specs.Prelude.{◌≡◌, refl, List, [], ◌∷◌, map, ℕ}
use Rattle.std.specs.Int.Count.{ones, ones_in}
use Rattle.guard.specs.Answer.{Outcome, Outcome.refusal, Outcome.sat, Outcome.spent, Outcome.unsat, questions}
use Rattle.guard.specs.Cases.{counts, file_c, file_e, file_g, file_h}
use Rattle.guard.specs.Closure.{closure_of, consequences, initial, saturate}
use Rattle.guard.specs.File.{file}
use Rattle.guard.specs.Limits.{base, place_buffer, row_buffer}
use Rattle.guard.specs.Node.{is_closed, kind_of, split_of}
use Rattle.guard.specs.Search.{search, search_of, search_to}
use Rattle.guard.specs.Terms.{table_of}
use Rattle.encoding.specs.Encoding.{encoded}
use Rattle.refutations.specs.Record.{closing, entries, entries_to, record_of}
use Rattle.explain.specs.Explains.{explained, padded, recorded}

-- a file, a budget, the length of the record buffer, the answer, and what the buffer is left with
pub record Case : Type 0 where
  pub bytes : List ℕ
  pub budget : ℕ
  pub room : ℕ
  pub answer : Outcome
  pub left : List ℕ

abbrev pub cases : List Case
cases =
    -- just long enough, one byte longer, one byte too short
    record { bytes = file_e; budget = 1; room = 2; answer = unsat (counts 1 0 0); left = 0x03 ∷ 0x00 ∷ [] }
    ∷ record { bytes = file_g; budget = 1; room = 3; answer = unsat (counts 1 0 0); left = 0x01 ∷ 0x00 ∷ 0x00 ∷ [] }
    ∷ record { bytes = file_e; budget = 1; room = 1; answer = refusal 11; left = 0x00 ∷ [] }
    ∷ record { bytes = file_h; budget = 11; room = 26; answer = refusal 11; left = 0x00 ∷ 0x00 ∷ 0x00 ∷ 0x00 ∷ 0x00 ∷ 0x00 ∷ 0x00 ∷ 0x00 ∷ 0x00 ∷ 0x00 ∷ 0x00 ∷ 0x00 ∷ 0x00 ∷ 0x00 ∷ 0x00 ∷ 0x00 ∷ 0x00 ∷ 0x00 ∷ 0x00 ∷ 0x00 ∷ 0x00 ∷ 0x00 ∷ 0x00 ∷ 0x00 ∷ 0x00 ∷ 0x00 ∷ [] }
    -- other answers
    ∷ record { bytes = file_h; budget = 10; room = 3; answer = spent (counts 10 0 5); left = 0x00 ∷ 0x00 ∷ 0x00 ∷ [] }
    ∷ record { bytes = file_c; budget = 3; room = 1; answer = sat (counts 3 1 0); left = 0x00 ∷ [] }
    ∷ record { bytes = []; budget = 1; room = 1; answer = refusal 2; left = 0x00 ∷ [] }
    ∷ []

pub answers-right : map (λ c. explained base c.bytes c.budget (row_buffer base) (place_buffer base) c.room) cases ≡ map (λ c. c.answer) cases
unfolding explained questions file search_of search search_to table_of closure_of initial saturate consequences is_closed split_of kind_of ones ones_in encoded closing entries_to entries record_of
answers-right = refl

pub records_right : map (λ c. padded (recorded base c.bytes c.budget (row_buffer base) (place_buffer base) c.room) c.room) cases ≡ map (λ c. c.left) cases
unfolding recorded questions file search_of search search_to table_of closure_of initial saturate consequences is_closed split_of kind_of ones ones_in encoded closing entries_to entries record_of
records_right = refl
