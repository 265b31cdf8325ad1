-- `same_parts` meets its contract. Assumes nothing.
use mathlib.Core.Path.{refl}
use Prim.Native.Nat.{ℕ}
use native.Mathlib.Omega.{arith}
use Rattle.std.proofs.Common.{rules}
use Rattle.std.proofs.lemmas.Iterator.{YieldsList-from_range}
use Rattle.std.proofs.lemmas.Iterator.Search.{all_from_yields_List}
use Rattle.guard.specs.Closure.{same_class}
use Rattle.arrays.specs.Slots.{many_at, part_at}
use Rattle.congruence.proofs.Tests.{parts_walked}
use Rattle.congruence.proofs.same_parts.Goals as goal

pub returns : goal.returns
returns c = let a = c.args in
    let s = a.shapes.now.slots in
    parts_walked s a.state.now a.k a.i c.all.result
    (all_from_yields_List (λ (p : ℕ). same_class a.state.now (part_at s a.i p) (part_at s a.k p)) _ _ _ c.all.ensures.ran (YieldsList-from_range 0 (many_at s a.k) (many_at s a.k) (rw c.many.ensures refl) (omega arith)) (λ x b q k. search rules))
