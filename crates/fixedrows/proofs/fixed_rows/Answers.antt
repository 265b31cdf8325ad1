-- `fixed_rows` meets its contract. Assumes nothing.
use mathlib.Core.Path.{◌≡◌, subst}
use Prim.Native.Nat.{ℕ, suc, ◌+◌}
use native.Mathlib.Omega.{arith}
use Rattle.fixedrows.specs.Stage.{Advances}
use Rattle.fixedrows.proofs.StageLaws.{advances-long, advances-none, advances-then, staged-then}
use Rattle.fixedrows.proofs.fixed_rows.Goals as goal

pub loop-n-init : goal.loop-n-init
loop-n-init c = let a = c.args in advances-none a.leaf.now a.at.now a.rows.now a.many 0 0

pub draw_rank-count-requires : goal.draw_rank-count-requires
draw_rank-count-requires c = let a = c.args in
    let l = c.loop-n in
    staged-then a.leaf.now a.at.now a.rows.now a.many 0 0 l.at l.rows l.count l.n 0 l.invariant c.requires.staged

pub loop-n-preserved : goal.loop-n-preserved
loop-n-preserved c = let a = c.args in
    let l = c.loop-n in
    let d = c.draw_rank-count in
    let one : suc l.n ≡ l.n + 1 = omega arith in subst (λ (k : ℕ). Advances a.leaf.now a.at.now a.rows.now a.many 0 0 d.new.at d.new.rows d.result k 0) one
    (advances-then a.leaf.now a.at.now a.rows.now a.many 0 0 l.at l.rows l.count l.n 0 l.invariant d.new.at d.new.rows d.result (suc l.n) 0 d.ensures)

pub shape_of-rows : goal.shape_of-rows
shape_of-rows c = let a = c.args in let l = c.loop-n in advances-long a.leaf.now a.at.now a.rows.now a.many 0 0 l.at l.rows l.count l.n 0 l.invariant c.requires.staged

pub returns : goal.returns
returns c = let a = c.args in
    let l = c.loop-n in
    let all : l.n ≡ suc a.most = omega (arith, c.loop-n-test.false) in
    subst (λ (k : ℕ). Advances a.leaf.now a.at.now a.rows.now a.many 0 0 l.at l.rows l.count k 0) all l.invariant
