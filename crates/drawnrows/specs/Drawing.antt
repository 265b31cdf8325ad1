-- Rows drawn into a store: which rows lie under a row, the store with its defaults, and what a drawing gives.
-- Assumes nothing: definitions.
use Rattle.std.specs.Prelude.{◌≡◌, true, List, map, ℕ, suc, ◌+◌, ◌*◌, ◌-◌, ◌≤◌, ◌<◌, eqb, ℤ, pos, length, get_or}
use Rattle.laws.specs.Lists.{filter}
use Rattle.guard.specs.Message.{Message, Message.number, no_message, to_parts}
use Rattle.guard.specs.Shown.{message_type, natural, part_count, row_numbers}
use Rattle.guard.specs.Types.{Types, Variant, default_of, is_number}
use Rattle.guard.proofs.MessageLaws.{message_size, part_sizes}
use Rattle.rowstore.specs.Store.{Grown, Stored, message_at}
use Rattle.growth.proofs.Grow.{fill}

-- the rows under row r: itself, and the parts of every row under it
pub data Under (ts : Types) (rows : List ℤ) (r : ℕ) : ℕ → Type 0 where
  here : Under ts rows r r
  part : (i p : ℕ) → Under ts rows r i → p < part_count ts (row_numbers rows i) → Under ts rows r (natural (get_or (row_numbers rows i) (suc p) (pos 0)))

-- the types whose default has no row yet
abbrev pub unset : List ℕ → ℕ
unset drawn = length (filter (λ x. eqb x 0) drawn)

-- a store of messages, and for each type 0, or one more than the row of its default
pub record Store (ts : Types) (rows : List ℤ) (many : ℕ) (drawn : List ℕ) : Type 0 where
  pub stored : Stored ts rows many
  pub six : length drawn ≡ 6
  pub known : (t x : ℕ) → get_or drawn t 0 ≡ suc x → (t < length ts) × (x < many) × (message_at ts rows many x ≡ default_of ts t)

-- room for so many rows, and for all defaults besides; a row is a number below 4,096
pub record Room (rows : List ℤ) (many : ℕ) (drawn : List ℕ) (cost : ℕ) : Type 0 where
  pub few : many + unset drawn + cost ≤ 4096
  pub long : 4 * (many + unset drawn + cost) ≤ length rows

-- the rows that growth takes at most, where no rank is above `most`: a lap of a cycle, the way to it, and a variant over both
abbrev pub growth_rows : Types → ℕ → ℕ
growth_rows ts most = most + (3 * length ts - 1)

-- message m stands in row r of a later store: it took so many rows besides defaults, and every new row lies under r
pub record Drew (ts : Types) (rows : List ℤ) (many : ℕ) (drawn : List ℕ) (price : ℕ) (m : Message) (rows' : List ℤ) (many' : ℕ) (drawn' : List ℕ) (r : ℕ) : Type 0 where
  pub store : Store ts rows' many' drawn'
  pub grown : Grown rows many rows' many'
  pub cost : many' + unset drawn' ≤ many + unset drawn + price
  pub there : r < many'
  pub message : message_at ts rows' many' r ≡ m
  pub under : (i : ℕ) → many ≤ i → i < many' → Under ts rows' r i

-- the defaults that are larger are as they were
abbrev pub Sparing : Types → List ℕ → ℕ → List ℕ → Type 0
Sparing ts drawn size drawn' = (u : ℕ) → size < message_size (default_of ts u) → get_or drawn' u 0 ≡ get_or drawn u 0

-- number z of type t is drawn, whatever the types of the store
abbrev pub NumberDrawn : List ℤ → ℕ → ℕ → ℤ → List ℤ → ℕ → ℕ → Type 0
NumberDrawn rows many t z rows' many' r =
    (ts : Types) (drawn : List ℕ) → t < length ts → is_number ts t ≡ true → Store ts rows many drawn → Drew ts rows many drawn 1 (number t z) rows' many' drawn r

-- three rows of the row buffer
abbrev pub LowRows : List ℕ → Type 0
LowRows ps = (length ps ≡ 3) × ((q : ℕ) → get_or ps q 0 < 4096)

-- the sizes of the defaults of fields, together
abbrev pub default_sizes : Types → Variant → ℕ
default_sizes ts fs = part_sizes (to_parts (map (default_of ts) fs))

-- ---- parts of a row to be

-- row `row` may stand in field c, if there is such a field
abbrev pub Given : Types → List ℤ → ℕ → Variant → ℕ → ℕ → Type 0
Given ts rows many fs c row = c < length fs → (row < many) × (message_type (message_at ts rows many row) ≡ get_or fs c 0)

-- the parts over fields fs: what row `row` shows in field c, defaults in the others
abbrev pub parts_over : Types → List ℤ → ℕ → Variant → ℕ → ℕ → List Message
parts_over ts rows many fs c row = fill (default_of ts) fs c (message_at ts rows many row)

-- the rows ps of the first p parts are drawn; every new row lies under one of them
pub record Parted (ts : Types) (fs : Variant) (c row : ℕ) (rows : List ℤ) (many : ℕ) (drawn : List ℕ) (p : ℕ) (ps : List ℕ) (rows' : List ℤ) (many' : ℕ) (drawn' : List ℕ) : Type 0 where
  pub store : Store ts rows' many' drawn'
  pub grown : Grown rows many rows' many'
  pub cost : many' + unset drawn' ≤ many + unset drawn
  pub three : length ps ≡ 3
  pub low : (q : ℕ) → q < p → get_or ps q 0 < many'
  pub shows : (q : ℕ) → q < p → message_at ts rows' many' (get_or ps q 0) ≡ get_or (parts_over ts rows many fs c row) q no_message
  pub given : c < p → get_or ps c 0 ≡ row
  pub unused : (q : ℕ) → p ≤ q → get_or ps q 0 ≡ 0
  pub under : (i : ℕ) → many ≤ i → i < many' → (q : ℕ) × (q < p) × Under ts rows' (get_or ps q 0) i
