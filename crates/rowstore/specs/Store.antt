-- Rows of messages in a lent buffer: the row that has four numbers, the buffer with them, and what a store is.
-- Assumes nothing: definitions.
use Rattle.std.specs.Prelude.{◌≡◌, Bool, true, false, ◌&&◌, cond, List, [], ◌∷◌, ◌++◌, map, ℕ, suc, ◌+◌, ◌*◌, ◌-◌, ◌≤◌, ◌<◌, leb, ltb, ℤ, pos, negsuc, length, get_or, drop, replicate}
use Rattle.std.proofs.lemmas.List.Edits.{sets}
use Rattle.laws.proofs.Positions.{least}
use Rattle.guard.specs.Closure.{eq_z}
use Rattle.guard.specs.Limits.{field_limit, row_width}
use Rattle.guard.specs.Message.{Message, no_message}
use Rattle.guard.specs.Shown.{decode, decode_row, is_below, message_type, natural, row_fits, row_numbers}
use Rattle.guard.specs.Types.{Types, Variant}
use Rattle.guard.specs.Words.{high_of, low_of}

-- ---- what the code finds and writes

abbrev pub same_numbers : List ℤ → List ℤ → Bool
same_numbers [] [] = true
same_numbers [] (y ∷ ys) = false
same_numbers (x ∷ xs) [] = false
same_numbers (x ∷ xs) (y ∷ ys) = eq_z x y && same_numbers xs ys

-- row i is looked at, and has the numbers
abbrev pub row_is : List ℤ → ℕ → List ℤ → ℕ → Bool
row_is rows start numbers i = leb start i && same_numbers (row_numbers rows i) numbers

-- the lowest row from `start` on with the numbers, of the first `many`; else `many`
unfoldable pub row_found : List ℤ → ℕ → ℕ → List ℤ → ℕ
row_found rows start many numbers = least (row_is rows start numbers) many

-- the numbers in row `many`
abbrev pub appended : List ℤ → ℕ → List ℤ → List ℤ
appended rows many numbers = sets rows (row_width * many) numbers

-- the buffer after the search: row `many` is written if it is the one found
unfoldable pub with_row : List ℤ → ℕ → ℕ → List ℤ → List ℤ
with_row rows many r numbers = cond (ltb r many) rows (appended rows many numbers)

-- how many rows there are then
unfoldable pub many_after : ℕ → ℕ → ℕ
many_after many r = cond (ltb r many) many (suc many)

-- ---- stores

abbrev pub message_at : Types → List ℤ → ℕ → ℕ → Message
message_at ts rows n i = get_or (decode ts rows n) i no_message

-- the first n rows are laid out right, and "No two rows are alike"
pub record Stored (ts : Types) (rows : List ℤ) (n : ℕ) : Type 0 where
  pub fit : (i : ℕ) → i < n → row_fits ts (decode ts rows i) i (row_numbers rows i) ≡ true
  pub apart : (i j : ℕ) → i < n → j < n → message_at ts rows n i ≡ message_at ts rows n j → i ≡ j

-- n rows with others after them: the rows before are as they were, and so is what lies past the last row
pub record Grown (rows : List ℤ) (n : ℕ) (rows' : List ℤ) (n' : ℕ) : Type 0 where
  pub more : n ≤ n'
  pub kept : (i : ℕ) → i < n → row_numbers rows' i ≡ row_numbers rows i
  pub rest : drop (row_width * n') rows' ≡ drop (row_width * n') rows
  pub long : length rows' ≡ length rows

-- a store with one message more: its numbers stand in row r, one of the n' rows there are now
pub record Added (ts : Types) (rows : List ℤ) (n : ℕ) (numbers : List ℤ) (r : ℕ) (rows' : List ℤ) (n' : ℕ) : Type 0 where
  pub stored : Stored ts rows' n'
  pub grown : Grown rows n rows' n'
  pub few : n' ≤ suc n
  pub there : r < n'
  pub written : row_numbers rows' r ≡ numbers
  pub message : message_at ts rows' n' r ≡ decode_row ts (decode ts rows n) numbers

-- ---- rows as callers make them

-- document 02, #104: "A number's row holds −1 − t, then the low 32 bits as a signed number, then the value divided by
-- 4,294,967,296 rounded down." Document 01: "Unused numbers of a row are 0."
abbrev pub number_row : ℕ → ℤ → List ℤ
number_row t z = negsuc t ∷ low_of z ∷ high_of z ∷ pos 0 ∷ []

-- "A message of type t and variant v has 16 × t + v, then the rows of its parts"
abbrev pub made_row : ℕ → ℕ → List ℤ → List ℤ
made_row t v xs = pos (16 * t + v) ∷ xs

-- xs are rows below n, one for each field, that show the messages f of the fields' types; unused numbers are 0
pub record PartRows (ms : List Message) (n : ℕ) (fs : Variant) (xs : List ℤ) (f : ℕ → Message) : Type 0 where
  pub long : length fs ≤ length xs
  pub low : (q : ℕ) → q < length fs → is_below n (get_or xs q (pos 0)) ≡ true
  pub shows : (q : ℕ) → q < length fs → get_or ms (natural (get_or xs q (pos 0))) no_message ≡ f q
  pub typed : (q : ℕ) → q < length fs → message_type (f q) ≡ get_or fs q 0
  pub unused : (q : ℕ) → length fs ≤ q → get_or xs q (pos 0) ≡ pos 0

-- the numbers of part rows ps
abbrev pub part_numbers : List ℕ → List ℤ
part_numbers ps = map pos ps ++ replicate (field_limit - length ps) (pos 0)
