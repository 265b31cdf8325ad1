-- Rows drawn class by class: for each class 0, or one more than its row. Assumes nothing: definitions.
use Rattle.std.specs.Prelude.{◌≡◌, cond, List, ℕ, zero, suc, ◌+◌, ◌*◌, ◌≤◌, ◌<◌, ℤ, length, get_or}
use Rattle.guard.specs.Message.{Message}
use Rattle.rowstore.specs.Store.{message_at}
use Rattle.drawnrows.specs.Drawing.{Store, Under, growth_rows, unset}
use Rattle.plans.specs.Plans.{OpenState, highest_rank, is_free}
use Rattle.leaf.specs.Picture.{Wanted}

-- class c has row r
abbrev pub Placed : List ℕ → ℕ → ℕ → Type 0
Placed at c r = get_or at c 0 ≡ suc r

-- class c has a row
abbrev pub HasRow : List ℕ → ℕ → Type 0
HasRow at c = (r : ℕ) × Placed at c r

-- the rows that the free classes below c take at most
unfoldable pub free_rows : OpenState → ℕ → ℕ
free_rows x zero = 0
free_rows x (suc c) = free_rows x c + cond (is_free x c) (growth_rows x.types (highest_rank x)) 0

-- those of all classes: one for each of the six defaults and the 96 numbers of classes, and what the free ones grow by
abbrev pub rows_for : OpenState → ℕ
rows_for x = 102 + free_rows x 78

-- the buffer has room for them, and rows are numbers below 4,096
abbrev pub Enough : OpenState → List ℤ → Type 0
Enough x rows = (rows_for x ≤ 4096) × (4 * rows_for x ≤ length rows)

-- The rows of the classes drawn so far show their messages, and every row lies under one of them. There is room for the
-- rest: a row for each class and for each default that has none.
pub record Sheet (x : OpenState) (val : ℕ → Message) (rows : List ℤ) (many : ℕ) (drawn at : List ℕ) : Type 0 where
  pub store : Store x.types rows many drawn
  pub long : length at ≡ 96
  pub enough : Enough x rows
  pub room : many + unset drawn + unset at ≤ rows_for x
  pub only : (c : ℕ) → HasRow at c → Wanted x c
  pub there : (c r : ℕ) → Placed at c r → r < many
  pub shows : (c r : ℕ) → Placed at c r → message_at x.types rows many r ≡ val c
  pub under : (i : ℕ) → i < many → (c : ℕ) × (r : ℕ) × Placed at c r × Under x.types rows r i
