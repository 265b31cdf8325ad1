-- `values::value_of` meets its contract: two halves make the whole. Assumes nothing.
use mathlib.Core.Path.{◌≡◌, ap, sym}
use Prim.Native.Nat.{◌+◌, ◌*◌}
use native.Mathlib.Omega.{arith}
use Rattle.guard.specs.Number.{value_of_groups}
use Rattle.values.proofs.Halves.{first, halves, second}
use Rattle.values.proofs.value_of.Goals as goal
use Rattle.values.proofs.value_of.Goals.{After-value_of-high}

pub slice_bounds-value_of-end : goal.slice_bounds-value_of-end
slice_bounds-value_of-end c = sym (first c.args.number.now (omega arith))

pub value_of-low-requires : goal.value_of-low-requires
value_of-low-requires c = let five = first c.args.number.now (omega arith) in
    (omega (arith, five), omega (arith, five))

sum : (c : After-value_of-high) → c.value_of-low.result + c.value_of-high.result * 34359738368 ≡ value_of_groups c.args.number.now
sum c =
    let l = c.args.number.now in
    omega (arith, c.value_of-low.ensures, c.value_of-high.ensures, ap value_of_groups (second l), halves l (omega arith))

pub overflow_mul-result : goal.overflow_mul-result
overflow_mul-result c = record { fits = omega (arith, sum c) }

pub overflow_add-result : goal.overflow_add-result
overflow_add-result c = record { fits = omega (arith, sum c) }

pub returns : goal.returns
returns c = sum c
