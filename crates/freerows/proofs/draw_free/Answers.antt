-- `draw_free` meets its contract. Assumes nothing.
use Rattle.freerows.proofs.StageLaws.{stage-low, stage-next, stage_now}
use mathlib.Core.Path.{sym, subst}
use Prim.Native.Nat.{ℕ, suc}
use native.Mathlib.Omega.{arith}
use native.Mathlib.Numerals.{add-one}
use lib.ListN.{set}
use Rattle.forms.specs.Forms.{types_in}
use Rattle.leaf.specs.Leaf.{open_state}
use Rattle.freerows.specs.Free.{FreeStage}
use Rattle.freerows.proofs.draw_free.Goals as goal

pub free_row-d-requires : goal.free_row-d-requires
free_row-d-requires c = let a = c.args in
    let ts = types_in a.forms.now in
    record {
      forms_fit = c.requires.forms_fit;
      free_now = stage_now (open_state ts a.leaf.now) a.c c.requires.c_bound a.at.now a.rows.now a.many a.drawn.now a.tops.now a.last c.requires.free_stage c.requires.c_value c.requires.free_fits a.most c.requires.most_value;
    }

pub overflow_cast-at : goal.overflow_cast-at
overflow_cast-at c = let a = c.args in
    let d = c.free_row-d in
    record { fits = omega (arith, stage-low (open_state (types_in a.forms.now) a.leaf.now) a.c c.requires.c_bound a.at.now a.rows.now a.many a.drawn.now a.tops.now a.last c.requires.free_stage c.requires.c_value d.new.rows d.result.many d.new.drawn d.new.tops d.result.last d.result.row d.ensures) }

pub returns : goal.returns
returns c = let a = c.args in
    let x = open_state (types_in a.forms.now) a.leaf.now in
    let d = c.free_row-d in
    record {
      free_stage_2 = subst (λ (n : ℕ). FreeStage x (suc a.c) (set a.at.now a.c n) d.new.rows d.result.many d.new.drawn d.new.tops d.result.last) (sym (add-one d.result.row)) (stage-next x a.c c.requires.c_bound a.at.now a.rows.now a.many a.drawn.now a.tops.now a.last c.requires.free_stage c.requires.c_value d.new.rows d.result.many d.new.drawn d.new.tops d.result.last d.result.row d.ensures);
      grown = d.ensures.drew.grown;
    }
