-- `variant_growing` meets its contract. Invariant: whether there is an infinite field is whether the rest have one.
-- Assumes nothing.
use mathlib.Core.Path.{◌≡◌}
use Prim.Native.Nat.{◌-◌}
use Rattle.laws.specs.Lists.{any, from}
use Rattle.finite.specs.TypeColumns.{fields_at}
use Rattle.datatypes.specs.Facts.{growing}
use Rattle.datatypes.proofs.QuestionLaws.{infinite_at}
use Rattle.datatypes.proofs.variant_growing.Given as goal

abbrev pub invariant-loop-j : goal.invariant-loop-j
invariant-loop-j l = growing l.finite (fields_at l.arities l.sorts l.w) ≡ any (infinite_at l.arities l.sorts l.finite l.w) (from (l.arity - l.j) l.j)
