-- The count of a type's variants, by one limit, then they. Assumes nothing.
use Rattle.typereader.proofs.Readers.{type-done, type-inside, type-stored}
use Rattle.typereader.proofs.read_type.Goals as goal

pub read_variants-requires : goal.read_variants-requires
read_variants-requires c = (type-inside _ _ c.args.many _ _ c.room_after.ensures _ _ c.in_ok-n.ensures c.requires.0, c.requires.1, c.in_ok-n.ensures.within)

pub returns-clause-reads : goal.returns-clause-reads
returns-clause-reads c = type-done _ _ _ _ _ c.room_after.ensures _ _ c.in_ok-n.ensures _ _ c.in_ok-p.ensures.reads

pub returns-clause-stores : goal.returns-clause-stores
returns-clause-stores c = type-stored _ _ _ _ _ c.room_after.ensures _ _ c.in_ok-n.ensures _ _ _ _ c.in_ok-p.ensures.stores
