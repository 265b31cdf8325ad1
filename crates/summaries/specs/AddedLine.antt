-- What is asked of a file and of a line that is added, and what is left in the summary's buffer. Assumes nothing: definitions.
-- Quoted sentences are document 02's, of request #114.
use Rattle.std.specs.Prelude.{cond, List, [], ◌∷◌, ◌++◌, ℕ, ltb, drop, length}
use Rattle.guard.specs.File.{file, literal}
use Rattle.guard.specs.Grammar.{ended}
use Rattle.guard.specs.Guard.{Guard}
use Rattle.guard.specs.Limits.{base}
use Rattle.guard.specs.Number.{Parsed, Parsed.accepted, Parsed.refused, Parser, ◌>>=◌, ◌>>◌, ask, return}
use Rattle.verdictcodes.specs.Codes.{with_more}
use Rattle.summaries.specs.Summary.{summary_length, summary_of, updated}

-- document 01's first question, of the buffer of the summary: a shorter one is 1; then the questions 2 to 10 of the file
unfoldable pub asks_file : List ℕ → ℕ → Parsed Guard
asks_file bytes long = cond (ltb long summary_length) (refused 1) (file base bytes)

-- "a thirty-third line gets 4, then the base's are asked of the added line's bytes, 10 included": the guard with the line
abbrev pub added_line : Guard → Parser Guard
added_line g = do
  ask 4 (ltb (length g.literals) base.lines)
  l ← literal g.types g.rows
  ended
  return (with_more g (l ∷ []))

-- "After the file's questions .."
abbrev pub then_line : List ℕ → Parsed Guard → Parsed Guard
then_line line (refused q) = refused q
then_line line (accepted g rest) = added_line g line

unfoldable pub asks_line : List ℕ → List ℕ → ℕ → Parsed Guard
asks_line bytes line long = then_line line (asks_file bytes long)

-- what is handed back: the question that gets a no, or 0
abbrev pub question_in : Parsed Guard → ℕ
question_in (refused q) = q
question_in (accepted g rest) = 0

-- what is left in the buffer: the summary, and behind it what was there; "after a refusal the summary is as it was"
abbrev pub made_anew : ℕ → List ℕ → Parsed Guard → List ℕ
made_anew budget buffer (refused q) = buffer
made_anew budget buffer (accepted g rest) = summary_of budget g ++ drop summary_length buffer

abbrev pub brought : ℕ → List ℕ → Parsed Guard → List ℕ
brought budget buffer (refused q) = buffer
brought budget buffer (accepted g rest) = updated budget buffer g ++ drop summary_length buffer
