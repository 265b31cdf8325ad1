-- The plain bytes of a list in an array. Assumes nothing: definitions.
use Rattle.std.specs.Prelude.{◌≡◌, List, map, ℕ, ◌≤◌, ℤ, length, take}
use Rattle.laws.specs.All.{All}
use Rattle.guard.specs.Number.{fold_signed, value_width}
use Rattle.listreader.specs.Plain.{plain_of, room}

-- a number that can be a constant's value, folded
abbrev pub Narrow : ℕ → Type 0
Narrow w = w ≤ value_width.most

-- the first bytes of the array are the plain bytes, and every number that was looked at has 64 bits
pub record Written (list : List ℤ) (out : List ℕ) (many : ℕ) : Type 0 where
  pub few : many ≤ room
  pub long : length out ≡ room
  pub bytes : take many out ≡ plain_of room (map fold_signed list)
  pub narrow : All Narrow (take room (map fold_signed list))
