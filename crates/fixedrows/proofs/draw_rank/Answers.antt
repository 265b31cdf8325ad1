-- `draw_rank` meets its contract. Assumes nothing.
use mathlib.Core.Path.{◌≡◌, sym, ◌∙◌, subst}
use Prim.Native.Nat.{ℕ, suc, ◌+◌}
use native.Mathlib.Omega.{arith}
use Rattle.fixedrows.specs.Stage.{Advances}
use Rattle.fixedrows.proofs.StageLaws.{advances_as, advances-long, advances-none, advances-then, next-rank, noted_advances, passed_over, staged-then}
use Rattle.fixedrows.proofs.draw_rank.Goals as goal
use Rattle.fixedrows.proofs.draw_rank.Goals.{else-is_due, then-is_due}

pub loop-c-init : goal.loop-c-init
loop-c-init c = let a = c.args in advances-none a.leaf.now a.at.now a.rows.now a.many a.n 0

pub is_due-requires : goal.is_due-requires
is_due-requires c = omega (arith, c.loop-c-test.true)

pub draw_class-count-requires : goal.draw_class-count-requires
draw_class-count-requires c = let a = c.args in
    let l = c.loop-c in
    record {
      c_bound = c.loop-c-test.true;
      due_now = record { rank = a.n; staged = staged-then a.leaf.now a.at.now a.rows.now a.many a.n 0 l.at l.rows l.count a.n l.c l.invariant c.requires; due = sym c.is_due.ensures ∙ c.if-is_due.true };
    }

pub loop-c-preserved : goal.loop-c-preserved
loop-c-preserved c = let a = c.args in
    let l = c.loop-c in
    let m = c.if-is_due in
    let d = c.is_due in
    let one : suc l.c ≡ l.c + 1 = omega arith in
    let step : Advances a.leaf.now l.at l.rows l.count a.n l.c m.at m.rows m.count a.n (suc l.c) =
    elim m.branch [
      | then-is_due w ↦
          advances_as a.leaf.now l.at l.rows l.count a.n l.c a.n (suc l.c) _ m.at _ m.rows _ m.count w.at-is w.rows-is w.count-is
          (noted_advances a.leaf.now l.at l.rows l.count a.n l.c _ _ _ c.loop-c-test.true (sym d.ensures ∙ w.if-is_due.true) w.draw_class-count.ensures)
      | else-is_due w ↦
          advances_as a.leaf.now l.at l.rows l.count a.n l.c a.n (suc l.c) l.at m.at l.rows m.rows l.count m.count w.at-is w.rows-is w.count-is
          (passed_over a.leaf.now l.at l.rows l.count a.n l.c (sym d.ensures ∙ w.if-is_due.false))
    ]
    in subst (λ (k : ℕ). Advances a.leaf.now a.at.now a.rows.now a.many a.n 0 m.at m.rows m.count a.n k) one
    (advances-then a.leaf.now a.at.now a.rows.now a.many a.n 0 l.at l.rows l.count a.n l.c l.invariant m.at m.rows m.count a.n (suc l.c) step)

pub shape_of-rows : goal.shape_of-rows
shape_of-rows c = let a = c.args in let l = c.loop-c in advances-long a.leaf.now a.at.now a.rows.now a.many a.n 0 l.at l.rows l.count a.n l.c l.invariant c.requires

pub returns : goal.returns
returns c = let a = c.args in
    let l = c.loop-c in
    advances-then a.leaf.now a.at.now a.rows.now a.many a.n 0 l.at l.rows l.count a.n l.c l.invariant l.at l.rows l.count (suc a.n) 0 (next-rank a.leaf.now l.at l.rows l.count a.n l.c (omega (arith, c.loop-c-test.false)))
