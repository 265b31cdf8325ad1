-- `read_below` meets its contract where the number isn't below the limit. Assumes nothing.
use Rattle.std.proofs.Common.{refl, inr, arith}
use Rattle.numbers.proofs.read_below.Goals as goal

pub returns-then-limit-n : goal.returns-then-limit-n
returns-then-limit-n g c = let n = c.in_ok-n in
    inr (n.n.value, _, n.ensures.accepts, omega arith, refl)
