-- `variant_ready` meets its contract. Invariant: whether all field types are settled is whether the rest are. Assumes nothing.
use mathlib.Core.Path.{◌≡◌}
use Prim.Native.Nat.{◌+◌, ◌*◌, ◌-◌}
use lib.ListN.{get_or}
use Rattle.laws.specs.Lists.{all, from}
use Rattle.finite.specs.TypeColumns.{fields_at}
use Rattle.defaults.specs.Settled.{is_settled}
use Rattle.defaults.proofs.variant_ready.Given as goal

abbrev pub invariant-loop-j : goal.invariant-loop-j
invariant-loop-j l = all (is_settled l.settled) (fields_at l.arities l.sorts l.w) ≡ all (λ j. is_settled l.settled (get_or l.sorts (3 * l.w + j) 0)) (from (l.arity - l.j) l.j)
