-- Bytes put into a buffer, if they fit. Assumes nothing: definitions.
use Rattle.std.specs.Prelude.{◌≡◌, cond, Option, Some, None, List, ◌++◌, ℕ, ◌+◌, ◌-◌, ◌≤◌, ◌<◌, leb, length, take, drop, replicate}

-- the buffer with these bytes from place `at` on
abbrev pub put_at : List ℕ → List ℕ → ℕ → List ℕ
put_at bytes out at = take at out ++ bytes ++ drop (at + length bytes) out

-- they fit, and stand in the buffer from `at` on up to `end`; nothing else has changed
pub record Stand (bytes out : List ℕ) (at end : ℕ) (out' : List ℕ) : Type 0 where
  pub fit : at + length bytes ≤ length out
  pub ends : end ≡ at + length bytes
  pub is : out' ≡ put_at bytes out at

-- they don't fit: the buffer stays as long as it is, and what stands in it from `at` on counts for nothing
pub record Outgrow (bytes out : List ℕ) (at : ℕ) (out' : List ℕ) : Type 0 where
  pub long : length out' ≡ length out
  pub over : length out < at + length bytes

-- the place behind the bytes, or none where they don't fit
abbrev pub Puts : List ℕ → List ℕ → ℕ → Option ℕ → List ℕ → Type 0
Puts bytes out at (Some end) out' = Stand bytes out at end out'
Puts bytes out at None out' = Outgrow bytes out at out'

-- bytes, and then zeros; nothing but zeros where they outgrow so much room
abbrev pub filled : List ℕ → ℕ → List ℕ
filled bytes room = cond (leb (length bytes) room) (bytes ++ replicate (room - length bytes) 0) (replicate room 0)
