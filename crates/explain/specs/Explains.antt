-- What the second call says and leaves in the three buffers. Assumes nothing: definitions.
-- Quoted sentences are document 02's, of request #101, or as in `decide/specs/Decides` document 01's.
use Rattle.std.specs.Prelude.{◌≡◌, Bool, true, false, cond, Option, List, [], ◌++◌, ℕ, ◌-◌, leb, ℤ, pos, length, replicate}
use Rattle.guard.specs.Answer.{Outcome, Outcome.refusal, Outcome.sat, Outcome.spent, Outcome.unsat, outcome_of, questions, rows_of, with_budget}
use Rattle.guard.specs.File.{file}
use Rattle.guard.specs.Guard.{Guard}
use Rattle.guard.specs.Limits.{Limits, base}
use Rattle.guard.specs.Meaning.{Satisfiable}
use Rattle.guard.specs.Number.{Parsed, Parsed.accepted, Parsed.refused}
use Rattle.guard.specs.Search.{Counts, search_of}
use Rattle.guard.specs.Shown.{Shows}
use Rattle.guard.specs.declared.Answer.{Answer}
use Rattle.guard.specs.declared.Answer.TheVariants.{Refused, Sat, Unsat, Spent}
use Rattle.refutations.specs.Record.{record_bytes}
use Rattle.bytebuffer.specs.Puts.{filled}
use Rattle.recordwriter.specs.Records.{written_of}
use Rattle.explain.specs.declared.Explained.{Explained}

-- ---- the answer

-- "11, asked after UNSAT, when the record outgrows its buffer"
abbrev pub ask_record : ℕ → Guard → Outcome → Outcome
ask_record room g (refusal q) = refusal q
ask_record room g (sat n) = sat n
ask_record room g (unsat n) = cond (leb (length (record_bytes g)) room) (unsat n) (refusal 11)
ask_record room g (spent b) = spent b

abbrev pub explained_by : ℕ → ℕ → Parsed Guard → Outcome
explained_by budget room (refused q) = refusal q
explained_by budget room (accepted g rest) = ask_record room g (with_budget budget (search_of g))

-- the answer for a file, a budget, and the lengths of the three buffers
unfoldable pub explained : Limits → List ℕ → ℕ → ℕ → ℕ → ℕ → Outcome
explained limits bytes budget row_length place_length room = explained_by budget room (questions limits bytes row_length place_length)

-- ---- the record

-- "writes an UNSAT walk into a lent byte buffer too"; nothing "after any other answer"
abbrev pub record_after : Guard → Outcome → List ℕ
record_after g (refusal q) = []
record_after g (sat n) = []
record_after g (unsat n) = record_bytes g
record_after g (spent b) = []

abbrev pub record_by : ℕ → ℕ → Parsed Guard → List ℕ
record_by budget room (refused q) = []
record_by budget room (accepted g rest) = record_after g (ask_record room g (with_budget budget (search_of g)))

unfoldable pub recorded : Limits → List ℕ → ℕ → ℕ → ℕ → ℕ → List ℕ
recorded limits bytes budget row_length place_length room = record_by budget room (questions limits bytes row_length place_length)

-- "the rest is 0"
abbrev pub padded : List ℕ → ℕ → List ℕ
padded bytes room = bytes ++ replicate (room - length bytes) 0

-- ---- the contract

-- of the answer r, and the buffers as they were and as they are left
pub record Explains (limits : Limits) (bytes : List ℕ) (budget : ℕ) (rows places : List ℤ) (lent : List ℕ) (r : Explained) (rows' places' : List ℤ) (lent' : List ℕ) : Type 0 where
  pub says : outcome_of r.answer ≡ explained limits bytes budget (length rows) (length places) (length lent)
  -- the number of bytes of the record
  pub many : r.bytes ≡ length (recorded limits bytes budget (length rows) (length places) (length lent))
  -- "The written bytes are handed back as the filled front part of that buffer; the rest is 0, and all of it after any other answer."
  pub written : lent' ≡ padded (recorded limits bytes budget (length rows) (length places) (length lent)) (length lent)
  -- the other two buffers are as after the desk's one call, and after 11 all 0
  pub long_rows : length rows' ≡ length rows
  pub long_places : length places' ≡ length places
  pub cleared : ((n : Counts) → ¬ (outcome_of r.answer ≡ sat n)) → (rows' ≡ replicate (length rows) (pos 0)) × (places' ≡ replicate (length places) (pos 0))
  pub shown : (g : Guard) (rest : List ℕ) → questions limits bytes (length rows) (length places) ≡ accepted g rest → (n : Counts) → outcome_of r.answer ≡ sat n → Shows limits g (rows_of r.answer) rows' places'
  pub dead : (g : Guard) (rest : List ℕ) → questions limits bytes (length rows) (length places) ≡ accepted g rest → (n : Counts) → outcome_of r.answer ≡ unsat n → ¬ Satisfiable g

-- ---- its parts

abbrev pub is_unsat : Answer → Bool
is_unsat (Refused q) = false
is_unsat (Sat n f s r) = false
is_unsat (Unsat n f s) = true
is_unsat (Spent b f s) = false

-- the file is accepted
pub record Taken (bytes : List ℕ) : Type 0 where
  pub guard : Guard
  pub rest : List ℕ
  pub is : file base bytes ≡ accepted guard rest

-- the record of an accepted file
pub record RecordsFile (bytes : List ℕ) (r : Option ℕ) (lent lent' : List ℕ) : Type 0 where
  pub says : (g : Guard) (rest : List ℕ) → file base bytes ≡ accepted g rest → r ≡ written_of (record_bytes g) (length lent)
  pub left : (g : Guard) (rest : List ℕ) → file base bytes ≡ accepted g rest → lent' ≡ filled (record_bytes g) (length lent)
