-- The arrays of an open node as one value. Assumes nothing: definitions.
use Rattle.guard.specs.Types.{Types}
use Rattle.plans.specs.Plans.{OpenState}
use Rattle.leaf.specs.declared.Leaf.{Leaf}

-- the open node of a guard with these types
abbrev pub open_state : Types → Leaf → OpenState
open_state ts leaf =
    record {
      types = ts;
      classes = leaf.state.classes;
      labels = leaf.state.labels;
      shapes = leaf.shapes.slots;
      sorts = leaf.sorts.sorts;
      fieldless = leaf.sorts.fieldless;
      constants = leaf.constants.sorts;
      values = leaf.constants.values;
      marks = leaf.marks;
      ranks = leaf.ranks;
    }
