-- `problem_of` meets its contract. Assumes nothing.
use Rattle.problem.specs.Columns.{problem_by}
use Rattle.problem.proofs.ProblemLaws.{all-columns}
use Rattle.problem.proofs.problem_of.Goals as goal

pub returns : goal.returns
unfolding problem_by
returns c = let s = c.args in
    let shapes = c.shape_entries-shapes in
    let reads = c.read_entries-reads in
    let sorts = c.sort_entries-terms in
    let full = c.full_entries-full in
    let fieldless = c.fieldless_entries-fieldless in
    let constants = c.constant_entries-constants in
    all-columns (problem_by s.tables) shapes.result reads.result sorts.result full.result fieldless.result constants.result shapes.ensures reads.ensures sorts.ensures full.ensures fieldless.ensures constants.ensures
