-- `leaf_of` meets its contract. Assumes nothing.
use mathlib.Core.Path.{refl}
use native.Mathlib.Omega.{arith}
use Rattle.messages.proofs.LeafLaws.{kinds-there, leaf-made, ranks-there, shapes-there, sorts-there, terms-few}
use Rattle.messages.proofs.leaf_of.Goals as goal

pub invariant_of-shapes : goal.invariant_of-shapes
invariant_of-shapes c = let t = c.requires.open_tables in
    record { fit = shapes-there c.args.tables.now c.args.problem.now c.requires.problem_value t.guard t.accepted t.is }

pub new-requires : goal.new-requires
new-requires c = let t = c.requires.open_tables in
    sorts-there c.args.tables.now c.args.problem.now c.requires.problem_value t.guard t.accepted t.is

pub needed-requires : goal.needed-requires
needed-requires c = let t = c.requires.open_tables in
    omega (arith, terms-few c.args.tables.now c.args.problem.now c.requires.problem_value t.guard t.accepted t.is)

pub invariant_of-result : goal.invariant_of-result
invariant_of-result c = let t = c.requires.open_tables in
    record {
      kinds = kinds-there c.args.tables.now c.args.problem.now c.requires.problem_value t.guard t.accepted t.is;
      ranks_low = ranks-there c.args.tables.now c.args.problem.now c.requires.problem_value t.guard t.accepted t.is c.args.state.now c.rank_classes.new.ranks c.rank_classes.ensures.ranks_after;
    }

pub returns : goal.returns
returns c = λ g ok is.
    let n = c.new.ensures in
    leaf-made c.args.tables.now c.args.problem.now c.requires.problem_value g ok is _ refl n.sorts_kept n.fieldless_kept refl refl c.needed.ensures c.rank_classes.ensures.ranks_after
