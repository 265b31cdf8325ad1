-- `free_rows` meets its contract. Invariant: the free classes below are drawn. Assumes nothing.
use Rattle.freerows.proofs.StageLaws.{Reached, free-read, reached_as, six_zeros, stage_end, stage_skip, stage-start}
use mathlib.Core.Path.{refl, sym, ◌∙◌, subst}
use mathlib.Core.List.{[], ◌∷◌}
use Prim.Native.Nat.{ℕ, suc}
use native.Mathlib.Omega.{arith}
use native.Mathlib.Numerals.{add-one}
use Rattle.rowstore.proofs.StoreLaws.{grown-itself, grown_twice}
use Rattle.forms.specs.Forms.{types_in}
use Rattle.leaf.specs.Leaf.{open_state}
use Rattle.freerows.proofs.free_rows.Goals as goal
use Rattle.freerows.proofs.free_rows.Goals.{then-is_free, else-is_free}

pub loop-c-init : goal.loop-c-init
loop-c-init c = let a = c.args in
    (grown-itself a.rows.now 0, stage-start (open_state (types_in a.forms.now) a.leaf.now) a.at.now c.requires.blank a.rows.now c.requires.enough (0 ∷ 0 ∷ 0 ∷ 0 ∷ 0 ∷ 0 ∷ []) refl six_zeros)

pub is_free-requires : goal.is_free-requires
is_free-requires c = omega (arith, c.loop-c-test.true)

pub draw_free-d-requires : goal.draw_free-d-requires
draw_free-d-requires c = let a = c.args in
    let l = c.loop-c in
    record {
      c_bound = omega (arith, c.loop-c-test.true);
      forms_fit = c.requires.forms_fit;
      free_fits = c.requires.free_fits;
      most_value = c.requires.most_value;
      free_stage = l.invariant.1;
      c_value = free-read (types_in a.forms.now) a.leaf.now l.c ∙ sym c.is_free.ensures ∙ c.if-is_free.true;
    }

pub loop-c-preserved : goal.loop-c-preserved
loop-c-preserved c = let a = c.args in
    let l = c.loop-c in
    let m = c.if-is_free in
    let ts = types_in a.forms.now in
    let x = open_state ts a.leaf.now in
    let step : Reached x (suc l.c) a.rows.now m.at m.rows m.many m.drawn m.tops m.last =
    elim m.branch [
      | then-is_free w ↦
          let d = w.draw_free-d in
          reached_as x (suc l.c) a.rows.now _ m.at _ m.rows _ m.many _ m.drawn _ m.tops _ m.last w.at-is w.rows-is w.drawn-is w.tops-is w.many-is w.last-is
          (grown_twice a.rows.now 0 l.rows l.many d.new.rows d.result.many l.invariant.0 d.ensures.grown, d.ensures.free_stage_2)
      | else-is_free w ↦
          reached_as x (suc l.c) a.rows.now l.at m.at l.rows m.rows l.many m.many l.drawn m.drawn l.tops m.tops l.last m.last w.at-is w.rows-is w.drawn-is w.tops-is w.many-is w.last-is
          (l.invariant.0, stage_skip x l.c (omega (arith, c.loop-c-test.true)) l.at l.rows l.many l.drawn l.tops l.last l.invariant.1 (free-read ts a.leaf.now l.c ∙ sym c.is_free.ensures ∙ w.if-is_free.false))
    ]
    in
    subst (λ (k : ℕ). Reached x k a.rows.now m.at m.rows m.many m.drawn m.tops m.last) (sym (add-one l.c)) step

pub shape_of-rows : goal.shape_of-rows
shape_of-rows c = c.loop-c.invariant.0.long

pub returns : goal.returns
returns c = let a = c.args in
    let l = c.loop-c in
    stage_end (types_in a.forms.now) a.leaf.now a.rows.now l.at l.rows l.many l.drawn l.tops l.last l.c (omega (arith, c.loop-c-test.false)) l.invariant.0 l.invariant.1
