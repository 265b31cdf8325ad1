-- Entries of columns: masks of variants, numbers of types, a column filled from the front, and places written one after the
-- other. Assumes nothing: definitions.
use Rattle.std.specs.Prelude.{Bool, cond, List, map, ℕ, zero, suc, ◌+◌, ◌-◌, ◌^◌, ltb, set}
use Rattle.laws.specs.Lists.{from}
use Rattle.guard.specs.Closure.{every_variant}
use Rattle.guard.specs.Limits.{variant_limit}
use Rattle.tables.specs.Layout.{pad}

-- n places, the first i of them filled
abbrev pub filled : ℕ → (ℕ → ℕ) → ℕ → List ℕ
filled n f i = pad n (map f (from i 0))

-- a column whose places from `at` on are written: f 0, f 1 and so on, k of them
abbrev pub written : ℕ → List ℕ → ℕ → (ℕ → ℕ) → List ℕ
written zero column at f = column
written (suc k) column at f = set (written k column at f) (at + k) (f k)

-- the mask of one variant
unfoldable pub bit_of : ℕ → ℕ
bit_of v = cond (ltb v variant_limit) (2 ^ v) 0

-- the mask of the first n variants
unfoldable pub ones_of : ℕ → ℕ
ones_of n = cond (ltb n variant_limit) (2 ^ n - 1) every_variant

-- the number of a type, plus one
unfoldable pub plus_one : ℕ → ℕ
plus_one t = cond (ltb t 6) (t + 1) 0

unfoldable pub plus_one_if : Bool → ℕ → ℕ
plus_one_if test t = cond test (plus_one t) 0
