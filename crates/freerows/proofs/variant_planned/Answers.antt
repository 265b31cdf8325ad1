-- `variant_planned` meets its contract. Assumes nothing.
use Rattle.freerows.proofs.FreeLaws.{circled_free, class_starts, ended-free, last-low, tops_typed, type-known, variant_fits_lem, variant-wide}
use Rattle.chains.proofs.ChainLaws.{room-less, start-less, steps-most, steps-read}
use Rattle.drawnrows.specs.Drawing.{growth_rows}
use mathlib.Core.Path.{ap, ◌∙◌}
use Prim.Native.Nat.{ℕ, ◌*◌, ◌-◌}
use lib.ListN.{length}
use Rattle.forms.specs.Forms.{types_in}
use Rattle.forms.proofs.FormLaws.{type-small}
use Rattle.leaf.specs.Leaf.{open_state}
use Rattle.plans.specs.Chosen.{variant_in}
use Rattle.tables.proofs.Held.{held-many}
use native.Mathlib.Omega.{arith}
use Rattle.freerows.proofs.variant_planned.Goals as goal

pub class_label-requires : goal.class_label-requires
class_label-requires c = omega (arith, c.requires.free_now.small)

pub variant_for-v-requires : goal.variant_for-v-requires
variant_for-v-requires c = let a = c.args in
    let n = c.requires.free_now in
    record {
      types_in_range = c.requires.forms_fit.range;
      t_lt_many = omega (arith, held-many a.forms.now.table, type-known a.forms.now c.requires.forms_fit a.leaf.now a.c n.fits a.t c.requires.t_value);
    }

pub start-s-requires : goal.start-s-requires
start-s-requires c = let a = c.args in
    let n = c.requires.free_now in
    let v = c.variant_for-v in
    record {
      forms_fit = c.requires.forms_fit;
      t_in_bounds = type-known a.forms.now c.requires.forms_fit a.leaf.now a.c n.fits a.t c.requires.t_value;
      v_in_bounds = variant_fits_lem a.forms.now c.requires.forms_fit a.leaf.now a.c n.fits a.t c.requires.t_value c.requires.t_value_2 v.result (v.ensures ∙ ap (λ (l : ℕ). variant_in (types_in a.forms.now) l a.t) c.class_label.ensures);
      nonzero = variant-wide a.forms.now c.requires.forms_fit a.leaf.now a.c n.fits a.t c.requires.t_value c.requires.t_value_2 v.result (v.ensures ∙ ap (λ (l : ℕ). variant_in (types_in a.forms.now) l a.t) c.class_label.ensures);
    }

pub bounds-forms-s : goal.bounds-forms-s
bounds-forms-s c = let a = c.args in
    let n = c.requires.free_now in
    let v = c.variant_for-v in
    let w = c.start-s in
    type-small a.forms.now c.requires.forms_fit w.result (start-less a.forms.now c.requires.forms_fit a.t v.result w.result (class_starts a.forms.now c.requires.forms_fit a.leaf.now a.c n.fits a.t c.requires.t_value c.requires.t_value_2 v.result (v.ensures ∙ ap (λ (l : ℕ). variant_in (types_in a.forms.now) l a.t) c.class_label.ensures) w.result w.ensures))

pub overflow_cast-s : goal.overflow_cast-s
overflow_cast-s c = let a = c.args in
    let n = c.requires.free_now in
    let v = c.variant_for-v in
    let w = c.start-s in
    record { fits = omega (arith, (steps-read a.forms.now c.requires.forms_fit w.result (start-less a.forms.now c.requires.forms_fit a.t v.result w.result (class_starts a.forms.now c.requires.forms_fit a.leaf.now a.c n.fits a.t c.requires.t_value c.requires.t_value_2 v.result (v.ensures ∙ ap (λ (l : ℕ). variant_in (types_in a.forms.now) l a.t) c.class_label.ensures) w.result w.ensures))), steps-most a.forms.now c.requires.forms_fit w.result) }

pub ended_planned-requires : goal.ended_planned-requires
ended_planned-requires c = let a = c.args in
    let n = c.requires.free_now in
    let v = c.variant_for-v in
    let w = c.start-s in
    record {
      forms_fit = c.requires.forms_fit;
      store = n.store;
      room = room-less a.rows.now a.many a.drawn.now (growth_rows (types_in a.forms.now) a.most) (3 * length (types_in a.forms.now) - 1) (omega arith) n.room;
      last_bound = last-low (open_state (types_in a.forms.now) a.leaf.now) a.c a.last n.small n.fresh;
      starts = class_starts a.forms.now c.requires.forms_fit a.leaf.now a.c n.fits a.t c.requires.t_value c.requires.t_value_2 v.result (v.ensures ∙ ap (λ (l : ℕ). variant_in (types_in a.forms.now) l a.t) c.class_label.ensures) w.result w.ensures;
      s_in_bounds = omega (arith, (steps-read a.forms.now c.requires.forms_fit w.result (start-less a.forms.now c.requires.forms_fit a.t v.result w.result (class_starts a.forms.now c.requires.forms_fit a.leaf.now a.c n.fits a.t c.requires.t_value c.requires.t_value_2 v.result (v.ensures ∙ ap (λ (l : ℕ). variant_in (types_in a.forms.now) l a.t) c.class_label.ensures) w.result w.ensures))), held-many a.forms.now.table, c.if-forms-s.true);
    }

pub returns-then-forms-s : goal.returns-then-forms-s
returns-then-forms-s c = let a = c.args in
    let n = c.requires.free_now in
    let v = c.variant_for-v in
    let w = c.start-s in
    let d = c.ended_planned in
    ended-free a.forms.now c.requires.forms_fit a.leaf.now a.c n.fits a.t c.requires.t_value c.requires.t_value_2 v.result (v.ensures ∙ ap (λ (l : ℕ). variant_in (types_in a.forms.now) l a.t) c.class_label.ensures) w.result w.ensures a.rows.now a.many a.drawn.now a.tops.now a.most a.last n (omega (arith, (steps-read a.forms.now c.requires.forms_fit w.result (start-less a.forms.now c.requires.forms_fit a.t v.result w.result (class_starts a.forms.now c.requires.forms_fit a.leaf.now a.c n.fits a.t c.requires.t_value c.requires.t_value_2 v.result (v.ensures ∙ ap (λ (l : ℕ). variant_in (types_in a.forms.now) l a.t) c.class_label.ensures) w.result w.ensures))), held-many a.forms.now.table, c.if-forms-s.true)) d.result.last d.ensures.last_value d.new.rows d.result.many d.new.drawn d.result.row d.ensures.drew

pub circled_row-d-requires : goal.circled_row-d-requires
circled_row-d-requires c = let a = c.args in
    let n = c.requires.free_now in
    let v = c.variant_for-v in
    let w = c.start-s in
    record {
      forms_fit = c.requires.forms_fit;
      store = n.store;
      room = n.room;
      tops_typed = tops_typed a.forms.now c.requires.forms_fit a.leaf.now a.c a.rows.now a.many a.tops.now n.chains;
      starts = class_starts a.forms.now c.requires.forms_fit a.leaf.now a.c n.fits a.t c.requires.t_value c.requires.t_value_2 v.result (v.ensures ∙ ap (λ (l : ℕ). variant_in (types_in a.forms.now) l a.t) c.class_label.ensures) w.result w.ensures;
      forms_len_bound = omega (arith, (steps-read a.forms.now c.requires.forms_fit w.result (start-less a.forms.now c.requires.forms_fit a.t v.result w.result (class_starts a.forms.now c.requires.forms_fit a.leaf.now a.c n.fits a.t c.requires.t_value c.requires.t_value_2 v.result (v.ensures ∙ ap (λ (l : ℕ). variant_in (types_in a.forms.now) l a.t) c.class_label.ensures) w.result w.ensures))), held-many a.forms.now.table, c.if-forms-s.false);
    }

pub returns : goal.returns
returns c = let a = c.args in
    let n = c.requires.free_now in
    let v = c.variant_for-v in
    let w = c.start-s in
    let d = c.circled_row-d in
    circled_free a.forms.now c.requires.forms_fit a.leaf.now a.c n.fits a.t c.requires.t_value c.requires.t_value_2 v.result (v.ensures ∙ ap (λ (l : ℕ). variant_in (types_in a.forms.now) l a.t) c.class_label.ensures) w.result w.ensures a.rows.now a.many a.drawn.now a.tops.now a.most a.last n (omega (arith, (steps-read a.forms.now c.requires.forms_fit w.result (start-less a.forms.now c.requires.forms_fit a.t v.result w.result (class_starts a.forms.now c.requires.forms_fit a.leaf.now a.c n.fits a.t c.requires.t_value c.requires.t_value_2 v.result (v.ensures ∙ ap (λ (l : ℕ). variant_in (types_in a.forms.now) l a.t) c.class_label.ensures) w.result w.ensures))), held-many a.forms.now.table, c.if-forms-s.false)) d.new.rows d.result.many d.new.drawn d.new.tops d.result.row d.ensures.drew d.ensures.lap_noted
