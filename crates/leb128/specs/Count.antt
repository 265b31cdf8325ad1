-- The byte count of a number, in terms of the definition's groups. Assumes nothing: definitions.
use Rattle.std.specs.Prelude.{◌≡◌, List, ℕ, ◌≤◌, length, drop, take}
use Rattle.guard.specs.Number.{Parsed.accepted, Parsed.refused, groups}

-- What a byte count of at most `most` says of the definition's groups: 0, that the bytes end before the number does; else that so
-- many bytes are read.
pub record Counted (most : ℕ) (bs : List ℕ) (count : ℕ) : Type 0 where
  pub few : count ≤ most
  pub within : count ≤ length bs
  pub ends : count ≡ 0 → groups most bs ≡ refused 2
  pub counted : ¬ (count ≡ 0) → groups most bs ≡ accepted (take count bs) (drop count bs)
