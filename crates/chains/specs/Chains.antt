-- Chains of messages at the roots of cycles: for each root 0, or one more than the row of the last message made there.
-- Assumes nothing: definitions.
use Rattle.std.specs.Prelude.{◌≡◌, List, ℕ, zero, suc, ◌<◌, ℤ, length, get_or, set}
use Rattle.guard.specs.Message.{Message}
use Rattle.guard.specs.Shown.{message_type}
use Rattle.guard.specs.Types.{Types, default_of, fields_of, variants_of}
use Rattle.rowstore.specs.Store.{message_at}
use Rattle.growth.proofs.ClosedPlans.{lap}
use Rattle.growth.proofs.Growth.{chosen_type, grow_from}

-- variant v of type t has fields, and grows in one of type s
pub record Starts (ts : Types) (t v s : ℕ) : Type 0 where
  pub known : t < length ts
  pub fits : v < length (variants_of ts t)
  pub wide : 0 < length (fields_of ts t v)
  pub start : s ≡ chosen_type ts t v

-- the last message made at root r, by its note: that of the row, or the default
abbrev pub top_from : Types → List ℤ → ℕ → ℕ → ℕ → Message
top_from ts rows many r zero = default_of ts r
top_from ts rows many r (suc row) = message_at ts rows many row

unfoldable pub top_message : Types → List ℤ → ℕ → List ℕ → ℕ → Message
top_message ts rows many tops r = top_from ts rows many r (get_or tops r 0)

-- a lap more
abbrev pub lap_message : Types → ℕ → List ℤ → ℕ → List ℕ → ℕ → Message
lap_message ts most rows many tops r = grow_from ts (lap ts most r) r (top_message ts rows many tops r)

-- the rows noted are there, and their messages are of the roots' types
pub record TopsTyped (ts : Types) (rows : List ℤ) (many : ℕ) (tops : List ℕ) : Type 0 where
  pub six : length tops ≡ 6
  pub there : (r row : ℕ) → get_or tops r 0 ≡ suc row → row < many
  pub typed : (r row : ℕ) → r < length ts → get_or tops r 0 ≡ suc row → message_type (message_at ts rows many row) ≡ r

-- a lap more is drawn at root r, and noted
pub record LapNoted (ts : Types) (most : ℕ) (rows : List ℤ) (many : ℕ) (tops : List ℕ) (r : ℕ) (rows' : List ℤ) (many' : ℕ) (tops' : List ℕ) : Type 0 where
  pub row : ℕ
  pub is : tops' ≡ set tops r (suc row)
  pub there : row < many'
  pub shows : message_at ts rows' many' row ≡ lap_message ts most rows many tops r
