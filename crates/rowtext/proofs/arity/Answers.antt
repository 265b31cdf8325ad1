-- `arity`: no type, no variant, or the entry of the table. Assumes nothing.
use native.Mathlib.Omega.{arith}
use Rattle.rowtext.proofs.Arities.{a_variant, no_variant_lem}
use Rattle.rowtext.proofs.arity.Goals as goal

pub returns-then-t-ge6 : goal.returns-then-t-ge6
returns-then-t-ge6 c = no_variant_lem c.args.types.now c.args.t c.args.v (omega (arith, c.requires.six c.args.t (omega arith)))

pub returns-then-types-t : goal.returns-then-types-t
returns-then-types-t c = no_variant_lem c.args.types.now c.args.t c.args.v (omega arith)

pub bounds-types-types : goal.bounds-types-types
bounds-types-types c = c.requires.inside c.args.t c.args.v (omega arith)

pub returns : goal.returns
returns c = a_variant c.args.types.now c.args.t c.args.v (omega arith)
