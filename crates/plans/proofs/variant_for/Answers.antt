-- `variant_for` meets its contract. Assumes nothing.
use mathlib.Core.Path.{◌∙◌}
use native.Mathlib.Omega.{arith}
use Rattle.plans.proofs.CodeTests.{variant-entry}
use Rattle.plans.proofs.variant_for.Goals as goal

pub variant_in-requires : goal.variant_in-requires
variant_in-requires c = let r = c.requires.types_in_range in
    record {
      t_bound = omega (arith, c.requires.t_lt_many, r.many);
      t_bound_2 = r.variants c.args.t;
      t_bound_3 = r.first c.args.t;
    }

pub returns : goal.returns
returns c = c.variant_in.ensures ∙ variant-entry c.args.table.now c.args.label c.args.t c.requires.t_lt_many
