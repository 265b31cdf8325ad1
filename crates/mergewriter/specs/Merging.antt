-- Two guards by their tables, and the bytes that are put of them. Assumes nothing: definitions.
use Rattle.std.specs.Prelude.{◌≡◌, Option, List, ◌∷◌, ℕ, ◌+◌, ◌≤◌, length}
use Rattle.laws.specs.Lists.{concat_map}
use Rattle.guard.specs.Guard.{Guard}
use Rattle.guard.specs.Limits.{base, total_variant_limit}
use Rattle.guard.specs.WellFormed.{WellFormed}
use Rattle.tables.specs.Layout.{flat}
use Rattle.reader.specs.declared.Tables.{Tables}
use Rattle.reader.specs.Reader.{guard_tables}
use Rattle.serialize.specs.Tokens.{Token.plain, bytes_of, literal_tokens, row_tokens, token_bytes}
use Rattle.bytebuffer.specs.declared.Writer.{Writer}
use Rattle.bytebuffer.specs.Appends.{Appends}
use Rattle.bytebuffer.specs.Puts.{Puts}
use Rattle.renaming.specs.declared.Names.{Names}
use Rattle.renaming.specs.Names.{NamesOf}
use Rattle.merged.specs.Merge.{merged}

-- a guard that a reader took, and its tables
pub record TablesOf (tables : Tables) (g : Guard) : Type 0 where
  pub are : tables ≡ guard_tables g
  pub fits : WellFormed base g
  pub total : length (flat g.types) ≤ total_variant_limit

-- two of them with the same types
pub record BothOf (first second : Tables) (g h : Guard) : Type 0 where
  pub one : TablesOf first g
  pub other : TablesOf second h
  pub types : g.types ≡ h.types

pub record TwoGuards (first second : Tables) : Type 0 where
  pub one : Guard
  pub other : Guard
  pub both : BothOf first second one other

-- the same with the names of the second's rows, where there is room for all rows and lines
pub record Merging (first second : Tables) (n : Names) : Type 0 where
  pub guards : TwoGuards first second
  pub names : NamesOf first.rows second.rows n
  pub rows : n.rows ≤ 24
  pub lines : first.literals.many + second.literals.many ≤ 32

-- ---- bytes

-- N and all rows; L and all lines
abbrev pub all_rows : Guard → List ℕ
all_rows g = concat_map token_bytes (plain (length g.rows) ∷ concat_map row_tokens g.rows)

abbrev pub all_literals : Guard → List ℕ
all_literals g = concat_map token_bytes (plain (length g.literals) ∷ concat_map literal_tokens g.literals)

pub record PutsAllRows (first second : Tables) (w : Writer) (result : Option (Unit {0})) (w' : Writer) : Type 0 where
  pub puts : (g h : Guard) → BothOf first second g h → Appends (all_rows (merged g h)) w result w'

pub record PutsAllLiterals (first second : Tables) (w : Writer) (result : Option (Unit {0})) (w' : Writer) : Type 0 where
  pub puts : (g h : Guard) → BothOf first second g h → Appends (all_literals (merged g h)) w result w'

pub record PutsMerged (first second : Tables) (out : List ℕ) (result : Option ℕ) (out' : List ℕ) : Type 0 where
  pub puts : (g h : Guard) → BothOf first second g h → Puts (bytes_of (merged g h)) out 0 result out'
