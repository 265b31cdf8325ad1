-- `type_finite` and `variant_finite` meet their contracts. The rounds fall at each call. Invariants: what the test of the
-- whole says is what the test of the rest says. Assumes nothing.
use Rattle.std.proofs.Common.{◌-◌, ◌≡◌}
use Rattle.laws.specs.Lists.{all, from}
use Rattle.finite.specs.TypeColumns.{fields_at, types_in}
use Rattle.finite.specs.Finite.{finite_type_from, finite_variant_from}
use Rattle.finite.proofs.FiniteLaws.{variant_test, field_test}
use Rattle.finite.proofs.+type_finite_variant_finite.Given as goal

abbrev pub decreases-type_finite : goal.decreases-type_finite
decreases-type_finite l = l.rounds

abbrev pub decreases-variant_finite : goal.decreases-variant_finite
decreases-variant_finite l = l.rounds

abbrev pub invariant-type_finite-loop-v : goal.invariant-type_finite-loop-v
invariant-type_finite-loop-v l = finite_type_from l.known l.rounds (types_in l.many l.variants l.first l.arities l.sorts) l.t ≡ all (variant_test l.many l.variants l.first l.arities l.sorts l.known l.rounds l.t) (from (l.n - l.v) l.v)

abbrev pub invariant-variant_finite-loop-j : goal.invariant-variant_finite-loop-j
invariant-variant_finite-loop-j l = finite_variant_from l.known l.rounds (types_in l.many l.variants l.first l.arities l.sorts) (fields_at l.arities l.sorts l.w) ≡ all (field_test l.many l.variants l.first l.arities l.sorts l.known l.rounds l.w) (from (l.n - l.j) l.j)
