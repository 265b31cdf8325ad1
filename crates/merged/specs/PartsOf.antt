-- The parts of an assignment for two guards as one. The first guard's part is the assignment itself, since its rows keep their
-- numbers. Assumes nothing: definitions.
use Rattle.std.specs.Prelude.{ℕ}
use Rattle.guard.specs.Guard.{Guard}
use Rattle.guard.specs.Message.{Message}
use Rattle.merged.specs.Merge.{named, names}

-- the part of an assignment that is the second guard's
abbrev pub second_part : Guard → Guard → (ℕ → Message) → ℕ → Message
second_part g h ρ i = ρ (named (names g h) i)
