-- `part_of`: by how many parts the row has. Assumes nothing.
use native.Mathlib.Omega.{arith}
use Rattle.rowterms.proofs.RowLaws.{built-parts}
use Rattle.columnwriter.proofs.EntryLaws.{part-is}
use Rattle.columnwriter.proofs.part_of.Goals as goal

pub overflow_add-result : goal.overflow_add-result
overflow_add-result c = let p = built-parts c.requires.built_row c.part_count.ensures in record { fits = omega (arith, p.place, p.few, c.if-part_count-part.false) }

pub bounds-rows-r : goal.bounds-rows-r
bounds-rows-r c = let p = built-parts c.requires.built_row c.part_count.ensures in omega (arith, p.place, p.few, c.if-part_count-part.false)

pub returns : goal.returns
returns c = let k = c.part_count in
    let p = built-parts c.requires.built_row k.ensures in
    part-is c.requires.built_row k.result k.ensures c.args.j c.requires.le_j (omega (arith, c.if-part_count-part.false)) (omega (arith, c.if-part_count-part.false, p.few))
