-- A list of numbers as plain bytes, one for each number, so that the reader of bytes answers for the list. Assumes nothing.
-- The numbers of the list are folded, as the parsers read them.
use Rattle.std.specs.Prelude.{List, map, ℕ, ◌+◌, ◌*◌, min, take}
use Rattle.guard.specs.Limits.{Limits, total_variant_limit}
use Rattle.guard.specs.Number.{unfold_signed}
use Rattle.serialize.specs.NumberList.{unsigned_by}

-- beyond every count, name and kind, and the largest number that has a byte to itself
abbrev pub largest : ℕ
largest = 127

-- As a count, a name or a kind, this byte gets the answer that the number gets. As a value it is a number like any other.
abbrev pub plain_byte : ℕ → ℕ
plain_byte w = min (unsigned_by (unfold_signed w)) largest

-- the plain bytes of so many numbers
abbrev pub plain_of : ℕ → List ℕ → List ℕ
plain_of n ws = map plain_byte (take n ws)

-- The most numbers that are asked for, and one more to see that the list goes on: T, N and L; a number for each type, four for
-- each variant, six for each row, three for each line.
abbrev pub most_numbers : Limits → ℕ
most_numbers limits = 4 + limits.types + 4 * total_variant_limit + 6 * limits.terms + 3 * limits.lines

-- room for the numbers of any file of the base
abbrev pub room : ℕ
room = 448
