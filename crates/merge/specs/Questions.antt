-- What is asked of two guards with the same types, and answered. Assumes nothing: definitions.
use Rattle.std.specs.Prelude.{◌≡◌, List, [], ℕ, length, Result, Ok, Err}
use Rattle.guard.specs.Guard.{Guard}
use Rattle.guard.specs.Limits.{base}
use Rattle.guard.specs.Number.{Parsed.accepted, Parsed.refused}
use Rattle.guard.specs.Question.{number_of}
use Rattle.guard.specs.declared.Question.{Question}
use Rattle.reader.specs.declared.Tables.{Tables}
use Rattle.filewriter.specs.Writer.{Answered, answer_to, left_by}
use Rattle.renaming.specs.declared.Names.{Names}
use Rattle.renaming.specs.Names.{NamesOf}
use Rattle.merged.specs.Merge.{asked_of_same, merged}
use Rattle.mergewriter.specs.Merging.{BothOf}

-- they are merged, or a question refuses them
abbrev pub Asks : Guard → Guard → Result (Unit {0}) Question → Type 0
Asks g h (Ok u) = asked_of_same base g h ≡ accepted (merged g h) []
Asks g h (Err q) = asked_of_same base g h ≡ refused (number_of q)

pub record AsksBoth (first second : Tables) (n : Names) (r : Result (Unit {0}) Question) : Type 0 where
  pub asks : (g h : Guard) → BothOf first second g h → NamesOf first.rows second.rows n → Asks g h r

pub record AnswersBoth (first second : Tables) (out : List ℕ) (r : Result ℕ Question) (out' : List ℕ) : Type 0 where
  pub answers : (g h : Guard) → BothOf first second g h → Answered (answer_to (asked_of_same base g h) (length out)) r × (out' ≡ left_by (asked_of_same base g h) (length out))
