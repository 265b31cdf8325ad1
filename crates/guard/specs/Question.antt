-- The number of each question. Assumes nothing: a definition.
use Rattle.std.specs.Prelude.{ℕ}
use Rattle.guard.specs.declared.Question.{Question}
use Rattle.guard.specs.declared.Question.TheVariants.{ShortBuffer, Truncated, Malformed, TooMany, UnknownName, UnknownKind, TypeMismatch, NoDefault, NoInfiniteField, TrailingBytes, RecordTooLong, FalseEntry, RecordEnd, FileTooLong, TypesDiffer, VariablesDiffer, TwoNumberTypes, BranchCount}

-- Document 01 has 1 to 10, document 02 the others: 11 to 13 of a record (#101), 14 of what is written (#102), 15 and 16 of two files that are
-- merged (#107), 18 of a list (#112), 19 of a procedure (#113).
abbrev pub number_of : Question → ℕ
number_of ShortBuffer = 1
number_of Truncated = 2
number_of Malformed = 3
number_of TooMany = 4
number_of UnknownName = 5
number_of UnknownKind = 6
number_of TypeMismatch = 7
number_of NoDefault = 8
number_of NoInfiniteField = 9
number_of TrailingBytes = 10
number_of RecordTooLong = 11
number_of FalseEntry = 12
number_of RecordEnd = 13
number_of FileTooLong = 14
number_of TypesDiffer = 15
number_of VariablesDiffer = 16
number_of TwoNumberTypes = 18
number_of BranchCount = 19
