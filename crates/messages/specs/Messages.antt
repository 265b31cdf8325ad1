-- What is asked of the drawing of messages, and what it gives. Assumes nothing: definitions.
use Rattle.std.specs.Prelude.{◌≡◌, true, List, map, ℕ, ◌+◌, ◌*◌, ◌≤◌, ◌<◌, ℤ, pos, length, get_or, drop}
use Rattle.laws.specs.Lists.{from}
use Rattle.guard.specs.Closure.{State}
use Rattle.guard.specs.Guard.{Guard}
use Rattle.guard.specs.Limits.{row_width}
use Rattle.guard.specs.Meaning.{Holds, values}
use Rattle.guard.specs.Message.{no_message}
use Rattle.guard.specs.Shown.{Reached, decode, is_below, row_fits, row_numbers, shown}
use Rattle.reader.specs.Reader.{guard_tables}
use Rattle.reader.specs.declared.Tables.{Tables}
use Rattle.search.specs.Nodes.{Accepted, OpenLeaf}

-- the tables are those of a guard that a reader took, and the state is the closure of one of its open nodes
pub record OpenTables (tables : Tables) (s : State) : Type 0 where
  pub guard : Guard
  pub accepted : Accepted guard
  pub is : tables ≡ guard_tables guard
  pub leaf : OpenLeaf guard s

-- Rows that always suffice for a guard with so many types and terms: one for each of 6 defaults and 96 numbers of classes, and
-- for each term and sibling field what a free class takes: with ranks up to 30, a lap, the way to it and a variant over both.
abbrev pub rows_enough : ℕ → ℕ → ℕ
rows_enough types terms = 102 + (3 * types + 29) * (3 * terms)

-- the buffers are long enough for what the tables hold
abbrev pub RoomFor : Tables → List ℤ → List ℤ → Type 0
RoomFor tables rows places = (row_width * rows_enough tables.types.many tables.rows.many ≤ length rows) × (tables.rows.many ≤ length places)

-- n rows and a place for each term show messages that make the guard hold; what lies past them is as it was
pub record Draws (g : Guard) (n : ℕ) (rows places rows' places' : List ℤ) : Type 0 where
  -- "4,096 rows always suffice", and fewer for a small guard
  pub few : n ≤ rows_enough (length g.types) (length g.rows)
  pub fit : (i : ℕ) → i < n → row_fits g.types (decode g.types rows' i) i (row_numbers rows' i) ≡ true
  -- "No two rows are alike"
  pub apart : (i j : ℕ) → i < n → j < n → get_or (decode g.types rows' n) i no_message ≡ get_or (decode g.types rows' n) j no_message → i ≡ j
  -- "every row is reached from a place"
  pub reached : (i : ℕ) → i < n → Reached g rows' places' i
  -- "Number i of the place buffer is the row of term i."
  pub placed : (i : ℕ) → i < length g.rows → is_below n (get_or places' i (pos 0)) ≡ true
  -- the messages shown are the values of the rows under the assignment that gives each variable what it shows
  pub valued : values g (shown g n rows' places') ≡ map (shown g n rows' places') (from (length g.rows) 0)
  pub holds : Holds g (shown g n rows' places')
  pub kept_rows : drop (row_width * n) rows' ≡ drop (row_width * n) rows
  pub kept_places : drop (length g.rows) places' ≡ drop (length g.rows) places
  pub long_rows : length rows' ≡ length rows
  pub long_places : length places' ≡ length places

-- the same of whatever guard the tables and the state are of
unfoldable pub DrawsFor : Tables → State → List ℤ → List ℤ → ℕ → List ℤ → List ℤ → Type 0
DrawsFor tables s rows places n rows' places' = (g : Guard) → Accepted g → tables ≡ guard_tables g → OpenLeaf g s → Draws g n rows places rows' places'
