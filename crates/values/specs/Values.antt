-- A constant's value over 64 bits, in terms of the parsers of the guard file. Assumes nothing: a definition.
use Rattle.std.specs.Prelude.{ℤ}
use Rattle.guard.specs.Number.{Parser, ◌>>=◌, return, unfold_signed, unsigned_of, value_width}

-- the value that the number read is written for
abbrev pub value : Parser ℤ
value = unsigned_of value_width >>= λ n. return (unfold_signed n)
