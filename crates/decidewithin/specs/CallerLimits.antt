-- The limits of a caller, and the buffers that go with them. Assumes nothing: definitions.
use Rattle.std.specs.Prelude.{◌&&◌, cond, ℕ, min, leb}
use Rattle.guard.specs.Limits.{Limits}

-- document 01: "Within these limits 4,096 rows always suffice"; document 02, #110: "at most 3 types, 8 terms"; "For these 1,024 rows
-- always suffice."
abbrev pub rows_sufficing : ℕ → ℕ → ℕ
rows_sufficing types terms = cond (leb types 3 && leb terms 8) 1024 4096

-- document 02, #110: "what is shared is proved for any limits up to 6 types, 24 terms and 64 lines": what a caller asks for above
-- these counts as these. "Questions 1 and 4 read each caller's limits."
abbrev pub limits_for : ℕ → ℕ → ℕ → Limits
limits_for types terms lines = record { types = min types 6; terms = min terms 24; lines = min lines 64; rows = rows_sufficing (min types 6) (min terms 24) }

-- document 02, #110: "at most 3 types, 8 terms and 8 lines, a row buffer of at least 4,096 numbers and a place buffer of at least 8"
abbrev pub loader : Limits
loader = record { types = 3; terms = 8; lines = 8; rows = 1024 }
