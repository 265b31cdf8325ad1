-- When a file is within limits: each of its counts T, N and L is, as far as its reading gets. Assumes nothing: definitions.
-- Document 02, #110: "a file within the small limits gets the same refusal, or verdict, node and split counts, from both".
use Rattle.std.specs.Prelude.{Bool, true, ◌&&◌, List, [], ℕ, ◌≤◌, leb}
use Rattle.guard.specs.File.{rows, types}
use Rattle.guard.specs.Guard.{Row}
use Rattle.guard.specs.Limits.{Limits}
use Rattle.guard.specs.Number.{Parsed, Parsed.accepted, Parsed.refused, ask, unsigned}
use Rattle.guard.specs.Types.{Types, all_defaults, infinite_fields}

-- a test of what was read and what is left to read; where the reading ended before, nothing is tested
module _ {A : Type 0} where
  abbrev pub as_far_as_read : Parsed A → (A → List ℕ → Bool) → Bool
  as_far_as_read (refused q) test = true
  as_far_as_read (accepted a bytes) test = test a bytes

module _ (limits : Limits) where
  -- "L (0 to 32)"
  abbrev pub lines_within : ℕ → List ℕ → Bool
  lines_within l bytes = leb l limits.lines

  -- "N (0 to 24), then N term rows"
  abbrev pub rows_within : Types → ℕ → List ℕ → Bool
  rows_within ts n bytes = leb n limits.terms && as_far_as_read (rows n ts [] bytes) (λ (rs : List Row) (left : List ℕ). as_far_as_read (unsigned left) lines_within)

  -- "T (0 to 6)", then the types and the questions 8 and 9
  abbrev pub types_within : ℕ → List ℕ → Bool
  types_within many bytes =
      leb many limits.types
      && as_far_as_read (types many many 0 bytes)
      (λ (ts : Types) (left : List ℕ).
      as_far_as_read (ask 8 (all_defaults ts) left) (λ (u : Unit {0}) (left : List ℕ). as_far_as_read (ask 9 (infinite_fields ts) left) (λ (u : Unit {0}) (left : List ℕ). as_far_as_read (unsigned left) (rows_within ts))))

  unfoldable pub within : List ℕ → Bool
  within bytes = as_far_as_read (unsigned bytes) types_within

-- one caller's limits on a file are no larger than another's
pub record Smaller (small large : Limits) : Type 0 where
  pub types : small.types ≤ large.types
  pub terms : small.terms ≤ large.terms
  pub lines : small.lines ≤ large.lines
