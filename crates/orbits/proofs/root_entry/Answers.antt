-- `root_entry` meets its contract. Invariant: the lowest of the types after so many steps from the start. Assumes nothing.
use mathlib.Core.Path.{◌≡◌, ap, ◌∙◌}
use Prim.Native.Nat.{ℕ}
use native.Mathlib.Omega.{arith}
use Rattle.growth.proofs.Orbit.{lowest}
use Rattle.orbits.specs.Orbits.{on_to}
use Rattle.orbits.proofs.OrbitLaws.{root_is, root-next}
use Rattle.orbits.proofs.root_entry.Goals as goal

pub loop-k-preserved : goal.loop-k-preserved
loop-k-preserved c = let l = c.loop-k in
    root-next c.args.next.now l.k c.after-start.result l.root c.after.result c.min-root.result l.invariant c.after.ensures (omega arith)

pub returns : goal.returns
returns c = let a = c.args in
    let start = c.after-start in
    let l = c.loop-k in
    let e : l.k ≡ a.many = omega arith in
    root_is a.next.now a.many a.t start.result l.root start.ensures (l.invariant ∙ ap (λ (k : ℕ). lowest (on_to a.next.now) k start.result) e)
