-- What is told of the variants of the guard in tables: the number of each, the masks of a row, the whole summary. Assumes nothing: definitions.
use Rattle.std.specs.Prelude.{◌≡◌, Bool, cond, List, ◌++◌, ℕ, ◌<◌, drop}
use Rattle.guard.specs.Guard.{Guard}
use Rattle.guard.specs.Limits.{Limits}
use Rattle.tables.specs.declared.LiteralTable.{LiteralTable}
use Rattle.tables.specs.declared.RowTable.{RowTable}
use Rattle.tables.specs.declared.TypeTable.{TypeTable}
use Rattle.summaries.specs.InTables.{InTables, longer}
use Rattle.summaries.specs.Summary.{possible_by, ruled_out, settled_by, summary_length, summary_of, updated, variant_count, walked}
use Rattle.variantmasks.specs.declared.Masks.{Masks}

-- the number of variant v of row i, by the masks that the row had
abbrev pub number_by : ℕ → Guard → ℕ → ℕ → ℕ → ℕ → ℕ
number_by budget g settled possible i v = cond (ruled_out settled possible v) 2 (walked budget g i v)

-- ---- whatever guard the tables hold

pub record VariantsOf (types : TypeTable) (rows : RowTable) (i r : ℕ) : Type 0 where
  pub are : (limits : Limits) (lines : LiteralTable) (g : Guard) → InTables limits types rows lines g → r ≡ variant_count g i

pub record HasVariant (types : TypeTable) (rows : RowTable) (lines : LiteralTable) (i v : ℕ) : Type 0 where
  pub guard : Guard
  pub held : InTables longer types rows lines guard
  pub there : v < variant_count guard i

pub record NumberOf (types : TypeTable) (rows : RowTable) (lines : LiteralTable) (budget i v settled possible r : ℕ) : Type 0 where
  pub is : (g : Guard) → InTables longer types rows lines g → v < variant_count g i → r ≡ number_by budget g settled possible i v

pub record MasksOf (types : TypeTable) (rows : RowTable) (lines : LiteralTable) (budget i settled possible : ℕ) (m : Masks) : Type 0 where
  pub are : (g : Guard) → InTables longer types rows lines g
      → (m.settled ≡ settled_by (number_by budget g settled possible i) (variant_count g i)) × (m.possible ≡ possible_by (number_by budget g settled possible i) (variant_count g i))

pub record Fills (types : TypeTable) (rows : RowTable) (lines : LiteralTable) (budget : ℕ) (anew : Bool) (old new : List ℕ) : Type 0 where
  pub fills : (g : Guard) → InTables longer types rows lines g → new ≡ cond anew (summary_of budget g) (updated budget old g) ++ drop summary_length old
