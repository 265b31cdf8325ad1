-- The problem that is computed from a guard's tables, column by column; each crate of a column says what its places are.
-- For the tables of a well-formed guard it is that of `Problem`. Assumes nothing: definitions.
use Rattle.reader.specs.declared.Tables.{Tables}
use Rattle.columns.specs.Entries.{filled}
use Rattle.shapecolumn.specs.Shapes.{shape_entry}
use Rattle.readcolumn.specs.Reads.{constant_entry, read_entry}
use Rattle.sortcolumn.specs.Sorts.{fieldless_entry, full_entry, sort_entry}
use Rattle.problem.specs.declared.Problem.{Problem}

-- what `problem_of` computes
unfoldable pub problem_by : Tables → Problem
problem_by t =
    let rows = t.rows in
    let types = t.types in
    record {
      shapes = filled 256 (shape_entry rows.kinds rows.types rows.variants rows.parts t.siblings.fields types.variants t.defaults types.first types.arities types.sorts) 256;
      reads = filled 96 (read_entry rows.kinds rows.types rows.variants rows.parts) 96;
      sorts = filled 96 (sort_entry rows.many types.many rows.types t.siblings.sorts) 96;
      full = filled 8 (full_entry types.variants) 8;
      fieldless = filled 8 (fieldless_entry types.variants types.first types.arities) 8;
      constants = filled 32 (constant_entry types.many rows.kinds rows.types types.variants) 32;
    }
