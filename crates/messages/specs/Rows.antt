-- The leaf that messages are drawn from, all rows, and the places. Assumes nothing: definitions.
use Rattle.std.specs.Prelude.{◌≡◌, List, ℕ, ◌-◌, ◌<◌, ℤ, pos, length, get_or, drop}
use Rattle.guard.specs.Closure.{State}
use Rattle.guard.specs.Guard.{Guard}
use Rattle.guard.specs.Message.{Message}
use Rattle.guard.specs.Types.{Types}
use Rattle.tables.specs.Layout.{row_table}
use Rattle.reader.specs.Reader.{guard_tables}
use Rattle.reader.specs.declared.Tables.{Tables}
use Rattle.arrays.specs.Arrays.{constants_of, fieldless_of, shapes_of, sorts_of}
use Rattle.ranks.specs.Ranks.{ranking_of}
use Rattle.search.specs.Nodes.{Accepted}
use Rattle.rowstore.specs.Store.{Grown}
use Rattle.needed.specs.Needed.{Marks}
use Rattle.leaf.specs.declared.Leaf.{Leaf}
use Rattle.leaf.specs.Leaf.{open_state}
use Rattle.leaf.specs.Picture.{Pictured, Wanted}
use Rattle.leaf.specs.Sheet.{HasRow, Sheet}

-- the leaf has the state and the guard's arrays, with marks at the classes that get a message and the ranks of all
pub record LeafOf (g : Guard) (s : State) (leaf : Leaf) : Type 0 where
  pub state : leaf.state ≡ s
  pub shapes : leaf.shapes.slots ≡ shapes_of g
  pub sorts : leaf.sorts.sorts ≡ sorts_of g
  pub fieldless : leaf.sorts.fieldless ≡ fieldless_of g
  pub constants : leaf.constants.sorts ≡ constants_of g
  pub values : leaf.constants.values ≡ (row_table g.types g.rows).values
  pub marks : Marks (shapes_of g) s (length g.rows) leaf.marks
  pub ranks : leaf.ranks ≡ (ranking_of (shapes_of g) s).ranks

-- of whatever guard the tables are
abbrev pub LeafFor : Tables → State → Leaf → Type 0
LeafFor tables s leaf = (g : Guard) → Accepted g → tables ≡ guard_tables g → LeafOf g s leaf

-- there are messages that the leaf says
pub record Drawable (ts : Types) (leaf : Leaf) : Type 0 where
  pub val : ℕ → Message
  pub pictured : Pictured (open_state ts leaf) val

-- every class that gets a message has a row, and only these rows are written
pub record RowsDrawn (ts : Types) (leaf : Leaf) (entry : List ℤ) (at : List ℕ) (rows : List ℤ) (many : ℕ) : Type 0 where
  pub drawn : List ℕ
  pub grown : Grown entry 0 rows many
  pub sheet : (val : ℕ → Message) → Pictured (open_state ts leaf) val → Sheet (open_state ts leaf) val rows many drawn at
  pub all : (c : ℕ) → Wanted (open_state ts leaf) c → HasRow at c

-- the first n places have the rows of the terms' classes; the others are as they were
pub record PlacesSet (classes at : List ℕ) (n : ℕ) (entry places : List ℤ) : Type 0 where
  pub set : (i : ℕ) → i < n → get_or places i (pos 0) ≡ pos (get_or at (get_or classes i 0) 0 - 1)
  pub kept : drop n places ≡ drop n entry
  pub long : length places ≡ length entry
