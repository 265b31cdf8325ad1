-- What the drawing of rows looks at: the table of types, the variants of the defaults, and how messages grow.
-- Assumes nothing: definitions.
use Rattle.std.specs.Prelude.{◌≡◌}
use Rattle.guard.specs.Types.{Types, defaults}
use Rattle.tables.specs.Layout.{TypesInRange, default_column, types_of}
use Rattle.growth.proofs.Growth.{TypesAccepted}
use Rattle.growthtables.specs.Growth.{growth_by}
use Rattle.forms.specs.declared.Forms.{Forms}

-- the types that the forms are of
abbrev pub types_in : Forms → Types
types_in forms = types_of forms.table

-- the forms are those of accepted types
pub record FormsFit (forms : Forms) : Type 0 where
  pub range : TypesInRange forms.table
  pub accepted : TypesAccepted (types_in forms)
  pub defaults : forms.defaults ≡ default_column (defaults (types_in forms))
  pub growth : forms.growth ≡ growth_by forms.table
