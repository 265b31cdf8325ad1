-- `put_types`: the number of types is small. Assumes nothing.
use native.Mathlib.Omega.{arith}
use Rattle.typewriter.proofs.TypeLaws.{many-held}
use Rattle.typewriter.proofs.put_types.Goals as goal

pub overflow_cast-types : goal.overflow_cast-types
overflow_cast-types c = let h = c.requires.held in record { fits = omega (arith, many-held h, h.many) }
