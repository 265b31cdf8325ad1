-- Sets of small numbers as masks. Assumes nothing.
use Rattle.std.specs.Prelude.{ℕ, ◌/◌, ◌%◌, ◌^◌}

-- bit v of n: 0 or 1
abbrev pub bit : ℕ → ℕ → ℕ
bit n v = n / 2 ^ v % 2
