-- Whether two tables of types have the same type parts. Assumes nothing: definitions.
use Rattle.std.specs.Prelude.{◌≡◌, Bool}
use Rattle.guard.specs.Types.{Types}
use Rattle.tables.specs.declared.TypeTable.{TypeTable}
use Rattle.heldparts.specs.Held.{HoldsTypes}
use Rattle.merged.specs.Merge.{same_bytes, type_part}

pub record SameTypes (a b : TypeTable) (r : Bool) : Type 0 where
  pub is : (ts us : Types) → HoldsTypes a ts → HoldsTypes b us → r ≡ same_bytes (type_part ts) (type_part us)
