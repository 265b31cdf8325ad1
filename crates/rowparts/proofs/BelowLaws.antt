-- For callers of `read_asked`: a number that is read is below its limit. Assumes nothing.
use Rattle.std.proofs.Common.{◌≡◌, ℕ, ◌<◌, List, arith}
use Rattle.guard.specs.Number.{Parsed.accepted}
use Rattle.numbers.specs.Reader.{below}

pub below-small : (limit q n : ℕ) (bs rest : List ℕ) → below limit q bs ≡ accepted n rest → n < limit
below-small limit q n bs rest e = grind arith
