-- The bytes of types, variants and fields that a table of types holds, put into a buffer. Assumes nothing: definitions.
use Rattle.std.specs.Prelude.{Option, List, [], ℕ, ◌<◌, length, get_or}
use Rattle.laws.specs.Lists.{concat_map}
use Rattle.guard.specs.Types.{Types, Variant, variants_of}
use Rattle.tables.specs.Layout.{flat}
use Rattle.tables.specs.declared.TypeTable.{TypeTable}
use Rattle.heldparts.specs.Held.{HoldsTypes}
use Rattle.serialize.specs.Tokens.{token_bytes, type_tokens, variant_tokens}
use Rattle.merged.specs.Merge.{type_part}
use Rattle.bytebuffer.specs.declared.Writer.{Writer}
use Rattle.bytebuffer.specs.Appends.{Appends}

abbrev pub variant_bytes : Variant → List ℕ
variant_bytes fs = concat_map token_bytes (variant_tokens fs)

abbrev pub type_bytes : List Variant → List ℕ
type_bytes vs = concat_map token_bytes (type_tokens vs)

-- ---- what is asked of a table

pub record SomeTypes (table : TypeTable) : Type 0 where
  pub ts : Types
  pub held : HoldsTypes table ts

pub record HasType (table : TypeTable) (t : ℕ) : Type 0 where
  pub ts : Types
  pub held : HoldsTypes table ts
  pub inside : t < length ts

-- variant w among those of all types
pub record HasVariant (table : TypeTable) (w : ℕ) : Type 0 where
  pub ts : Types
  pub held : HoldsTypes table ts
  pub inside : w < length (flat ts)

-- ---- what is put, for all types that the table may hold

pub record PutsVariant (table : TypeTable) (variant : ℕ) (w : Writer) (r : Option (Unit {0})) (w' : Writer) : Type 0 where
  pub puts : (ts : Types) → HoldsTypes table ts → variant < length (flat ts) → Appends (variant_bytes (get_or (flat ts) variant [])) w r w'

pub record PutsType (table : TypeTable) (t : ℕ) (w : Writer) (r : Option (Unit {0})) (w' : Writer) : Type 0 where
  pub puts : (ts : Types) → HoldsTypes table ts → t < length ts → Appends (type_bytes (variants_of ts t)) w r w'

pub record PutsTypes (table : TypeTable) (w : Writer) (r : Option (Unit {0})) (w' : Writer) : Type 0 where
  pub puts : (ts : Types) → HoldsTypes table ts → Appends (type_part ts) w r w'
