-- `start` meets its contract. Assumes nothing.
use Rattle.growth.proofs.Growth.{chosen-inside}
use mathlib.Core.Path.{ap, sym, ◌∙◌, subst}
use Prim.Native.Nat.{ℕ, ◌<◌}
use lib.ListN.{length}
use Rattle.guard.specs.Types.{field_type, fields_of}
use Rattle.forms.specs.Forms.{types_in}
use Rattle.chains.proofs.start.Goals as goal

pub sort-requires : goal.sort-requires
sort-requires c = let a = c.args in
    let ts = types_in a.forms in
    record {
      forms_fit = c.requires.forms_fit;
      t_in_bounds = c.requires.t_in_bounds;
      v_in_bounds = c.requires.v_in_bounds;
      p_in_bounds = subst (λ (k : ℕ). k < length (fields_of ts a.t a.v)) (sym c.chosen-p.ensures) (chosen-inside ts c.requires.forms_fit.accepted a.t a.v c.requires.nonzero);
    }

pub returns : goal.returns
returns c = let a = c.args in
    c.sort.ensures ∙ ap (field_type (types_in a.forms) a.t a.v) c.chosen-p.ensures
