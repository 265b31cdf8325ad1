-- Tables that hold a guard and lines behind its own, and the bytes that are put of them. Assumes nothing: definitions.
use Rattle.std.specs.Prelude.{◌≡◌, Option, List, ℕ, ◌≤◌, length}
use Rattle.guard.specs.Guard.{Guard, Literal}
use Rattle.guard.specs.Limits.{Limits, base, total_variant_limit}
use Rattle.guard.specs.WellFormed.{WellFormed}
use Rattle.guard.proofs.Accepted.{variants_in, with_lines}
use Rattle.tables.specs.Layout.{literal_table, row_table, type_table}
use Rattle.tables.specs.declared.LiteralTable.{LiteralTable}
use Rattle.tables.specs.declared.RowTable.{RowTable}
use Rattle.tables.specs.declared.TypeTable.{TypeTable}
use Rattle.serialize.specs.Tokens.{bytes_of}
use Rattle.bytebuffer.specs.declared.Writer.{Writer}
use Rattle.bytebuffer.specs.Appends.{Appends}
use Rattle.bytebuffer.specs.Puts.{Puts}
use Rattle.mergewriter.specs.Merging.{all_literals, all_rows}
use Rattle.verdictcodes.specs.Codes.{with_more}

-- the base's limits, but for 64 lines
abbrev pub wide : Limits
wide = with_lines base 64

-- the tables hold guard g, and in the last one lines that go behind its own
pub record AskedOf (types : TypeTable) (rows : RowTable) (first second : LiteralTable) (g : Guard) (more : List Literal) : Type 0 where
  pub type_tables : types ≡ type_table g.types
  pub row_tables : rows ≡ row_table g.types g.rows
  pub first_lines : first ≡ literal_table g.literals
  pub second_lines : second ≡ literal_table more
  pub fits : WellFormed wide (with_more g more)
  pub total : length (variants_in g.types) ≤ total_variant_limit

-- they hold some guard and some lines
pub record Askable (types : TypeTable) (rows : RowTable) (first second : LiteralTable) : Type 0 where
  pub guard : Guard
  pub more : List Literal
  pub asked : AskedOf types rows first second guard more

-- ---- what is put, whatever guard and lines they hold

pub record PutsRows (types : TypeTable) (rows : RowTable) (first second : LiteralTable) (w : Writer) (r : Option (Unit {0})) (w' : Writer) : Type 0 where
  pub puts : (g : Guard) (more : List Literal) → AskedOf types rows first second g more → Appends (all_rows (with_more g more)) w r w'

pub record PutsLines (types : TypeTable) (rows : RowTable) (first second : LiteralTable) (w : Writer) (r : Option (Unit {0})) (w' : Writer) : Type 0 where
  pub puts : (g : Guard) (more : List Literal) → AskedOf types rows first second g more → Appends (all_literals (with_more g more)) w r w'

pub record PutsGuard (types : TypeTable) (rows : RowTable) (first second : LiteralTable) (out : List ℕ) (r : Option ℕ) (out' : List ℕ) : Type 0 where
  pub puts : (g : Guard) (more : List Literal) → AskedOf types rows first second g more → Puts (bytes_of (with_more g more)) out 0 r out'
