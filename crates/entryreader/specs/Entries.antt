-- What an entry of a record is read as. Assumes nothing: definitions.
use Rattle.std.specs.Prelude.{◌≡◌, List, ℕ, Result, Ok, Err}
use Rattle.guard.specs.Number.{Parsed, Parsed.refused, Parser, ◌>>=◌, unsigned}
use Rattle.guard.specs.Question.{number_of}
use Rattle.guard.specs.declared.Question.{Question}
use Rattle.numbers.specs.Reader.{Found}
use Rattle.numbers.specs.declared.Read.{Read}
use Rattle.refutations.specs.Checker.{entry_of}
use Rattle.refutations.specs.Record as refutations
use Rattle.refutations.specs.Record.{Entry.split_on}
use Rattle.closings.specs.Closing as closings
use Rattle.entryreader.specs.declared.Entry.{Entry}
use Rattle.entryreader.specs.declared.Entry.TheVariants.{Closing, Split}

-- an entry, with each number's own question
abbrev pub entry_by_kind : Parser refutations.Entry
entry_by_kind = unsigned >>= entry_of

-- the entry of a record that the code's stands for
abbrev pub entry_in : Entry → refutations.Entry
entry_in (Closing c) = closings.entry_in c
entry_in (Split x v) = split_on (record { term = x; variant = v })

-- a reader of an entry has what stands for it
abbrev pub ReadsEntry : Parsed refutations.Entry → List ℕ → Result (Read Entry) Question → Type 0
ReadsEntry p bytes (Ok r) = Found p bytes (entry_in r.value) r.at
ReadsEntry p bytes (Err q) = p ≡ refused (number_of q)
