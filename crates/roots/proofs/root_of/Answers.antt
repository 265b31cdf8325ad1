-- `root_of` meets its contract. Assumes nothing.
use mathlib.Core.Path.{refl}
use Rattle.roots.specs.Guards.{GuardsTables}
use Rattle.roots.proofs.RootLaws.{LooksAt, arrays_of, few-lines-here, lines-fit-here, literals-fit-here, reads-fit-here, root_begun, shapes-fit-here, sorts-fit-here}
use Rattle.roots.proofs.root_of.Goals as goal

pub new-requires : goal.new-requires
new-requires c = let k : GuardsTables _ = c.requires.guards_tables in sorts-fit-here c.args.tables.now c.args.problem.now c.requires.problem_value k.guard k.accepted k.is

pub invariant_of-instance : goal.invariant_of-instance
invariant_of-instance c =
    let k : GuardsTables _ = c.requires.guards_tables in
    record { fit = shapes-fit-here c.args.tables.now c.args.problem.now c.requires.problem_value k.guard k.accepted k.is }

pub begin-requires : goal.begin-requires
begin-requires c = let k : GuardsTables _ = c.requires.guards_tables in literals-fit-here c.args.tables.now c.args.problem.now c.requires.problem_value k.guard k.accepted k.is

pub invariant_of-result : goal.invariant_of-result
invariant_of-result c =
    let k : GuardsTables _ = c.requires.guards_tables in
    record { fit = reads-fit-here c.args.tables.now c.args.problem.now c.requires.problem_value k.guard k.accepted k.is }

pub returns : goal.returns
returns c =
    let t = c.args.tables.now in
    let p = c.args.problem.now in
    let k : GuardsTables _ = c.requires.guards_tables in
    let looks : LooksAt t p _ p.reads = record {
      shapes = refl;
      reads-kept = refl;
      sorts = c.new.ensures.sorts_kept;
      full = c.new.ensures.full_kept;
      fieldless = c.new.ensures.fieldless_kept;
      constants = refl;
      values = refl;
      lines = refl;
    } in
    record {
      lines_fit = lines-fit-here t p c.requires.problem_value k.guard k.accepted k.is;
      few_lines = few-lines-here t p c.requires.problem_value k.guard k.accepted k.is;
      arrays = λ g ok is. arrays_of t p c.requires.problem_value g ok is _ p.reads looks;
      begun = λ g ok is. root_begun t p c.requires.problem_value g ok is _ p.reads looks c.begin.result c.begin.ensures;
    }
