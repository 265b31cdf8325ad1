-- The messages that a SAT shows, as the two buffers hold them. Assumes nothing.
use Rattle.std.specs.Prelude.{◌≡◌, Bool, true, false, ◌&&◌, List, [], ◌∷◌, ◌++◌, map, ℕ, zero, suc, ◌+◌, ◌*◌, ◌-◌, ◌/◌, ◌%◌, ◌≤◌, ◌<◌, ltb, eqb, ℤ, pos, negsuc, length, get_or, take, drop, replicate}
use Rattle.laws.specs.Lists.{all, from}
use Rattle.guard.specs.Limits.{Limits, row_width}
use Rattle.guard.specs.Message.{Message, Message.number, Message.made, to_parts, no_message}
use Rattle.guard.specs.Types.{Types, Variant, variants_of, fields_of, is_number}
use Rattle.guard.specs.Guard.{Guard}
use Rattle.guard.specs.Meaning.{values, Holds}
use Rattle.guard.specs.Words.{is_word, value_of}

-- ---- rows as numbers

-- "Row i lies in numbers 4 × i to 4 × i + 3 of the row buffer."
abbrev pub row_numbers : List ℤ → ℕ → List ℤ
row_numbers rows i = take row_width (drop (row_width * i) rows)

-- a number of a buffer that names a row
abbrev pub natural : ℤ → ℕ
natural (pos n) = n
natural (negsuc n) = 0

abbrev pub is_zero : ℤ → Bool
is_zero (pos n) = eqb n 0
is_zero (negsuc n) = false

abbrev pub is_below : ℕ → ℤ → Bool
is_below i (pos n) = ltb n i
is_below i (negsuc n) = false

-- "A message of type t and variant v has 16 × t + v": the type, and the variant
abbrev pub tag_type : ℕ → ℕ
tag_type k = k / 16

abbrev pub tag_variant : ℕ → ℕ
tag_variant k = k % 16

-- ---- decoding

-- "then the rows of its parts"
abbrev pub part_messages : List Message → Variant → List ℤ → List Message
part_messages ms [] xs = []
part_messages ms (f ∷ fs) [] = []
part_messages ms (f ∷ fs) (x ∷ xs) = get_or ms (natural x) no_message ∷ part_messages ms fs xs

-- the message of a row, from the messages of the rows before it. "A message of type t and variant v has 16 × t + v, then
-- the rows of its parts"; document 02, #104: "A number's row holds −1 − t, then the low 32 bits as a signed number, then
-- the value divided by 4,294,967,296 rounded down."
abbrev pub decode_row : Types → List Message → List ℤ → Message
decode_row ts ms [] = no_message
decode_row ts ms (negsuc t ∷ xs) = number t (value_of (get_or xs 0 (pos 0)) (get_or xs 1 (pos 0)))
decode_row ts ms (pos k ∷ xs) = made (tag_type k) (tag_variant k) (to_parts (part_messages ms (fields_of ts (tag_type k) (tag_variant k)) xs))

-- the messages of the first n rows
abbrev pub decode : Types → List ℤ → ℕ → List Message
decode ts rows zero = []
decode ts rows (suc n) = let ms = decode ts rows n in ms ++ (decode_row ts ms (row_numbers rows n) ∷ [])

-- ---- layout

abbrev pub message_type : Message → ℕ
message_type (number t z) = t
message_type (made t v ms) = t

-- "the rows of its parts, all lower than i", each of its field's type; "Unused numbers of a row are 0."
abbrev pub parts_fit : List Message → ℕ → Variant → List ℤ → Bool
parts_fit ms i [] xs = all is_zero xs
parts_fit ms i (f ∷ fs) [] = false
parts_fit ms i (f ∷ fs) (x ∷ xs) = is_below i x && (eqb (message_type (get_or ms (natural x) no_message)) f && parts_fit ms i fs xs)

-- row i is laid out right over the messages of the rows before it
abbrev pub row_fits : Types → List Message → ℕ → List ℤ → Bool
row_fits ts ms i [] = false
row_fits ts ms i (negsuc t ∷ xs) = ltb t (length ts) && (is_number ts t && (is_word (get_or xs 0 (pos 0)) && all is_zero (drop 2 xs)))
row_fits ts ms i (pos k ∷ xs) = ltb (tag_variant k) (length (variants_of ts (tag_type k))) && parts_fit ms i (fields_of ts (tag_type k) (tag_variant k)) xs

-- "Number i of the place buffer is the row of term i."
abbrev pub place_of : List ℤ → ℕ → ℕ
place_of places i = natural (get_or places i (pos 0))

-- how many parts a row has
abbrev pub part_count : Types → List ℤ → ℕ
part_count ts [] = 0
part_count ts (negsuc t ∷ xs) = 0
part_count ts (pos k ∷ xs) = length (fields_of ts (tag_type k) (tag_variant k))

-- "every row is reached from a place": a place's row is, and so are the parts of a row that is
pub data Reached (g : Guard) (rows places : List ℤ) : ℕ → Type 0 where
  place : (i : ℕ) → i < length g.rows → Reached g rows places (place_of places i)
  part : (r p : ℕ) → Reached g rows places r → p < part_count g.types (row_numbers rows r)
      → Reached g rows places (natural (get_or (row_numbers rows r) (suc p) (pos 0)))

-- the message that term i shows
abbrev pub shown : Guard → ℕ → List ℤ → List ℤ → ℕ → Message
shown g n rows places i = get_or (decode g.types rows n) (place_of places i) no_message

-- n rows and the places show messages that make the guard hold
pub record Shows (limits : Limits) (g : Guard) (n : ℕ) (rows places : List ℤ) : Type 0 where
  -- "4,096 rows always suffice"
  pub few : n ≤ limits.rows
  pub fit : (i : ℕ) → i < n → row_fits g.types (decode g.types rows i) i (row_numbers rows i) ≡ true
  -- "No two rows are alike"
  pub apart : (i j : ℕ) → i < n → j < n → get_or (decode g.types rows n) i no_message ≡ get_or (decode g.types rows n) j no_message → i ≡ j
  pub reached : (i : ℕ) → i < n → Reached g rows places i
  -- "Number i of the place buffer is the row of term i."
  pub placed : (i : ℕ) → i < length g.rows → is_below n (get_or places i (pos 0)) ≡ true
  -- the messages shown are the values of the rows under an assignment, the one that gives each variable what it shows
  pub valued : values g (shown g n rows places) ≡ map (shown g n rows places) (from (length g.rows) 0)
  -- "SAT comes with finite messages that make every line true"
  pub holds : Holds g (shown g n rows places)
  -- "Every number past the last row, and past the last place, is 0."
  pub rest_rows : drop (row_width * n) rows ≡ replicate (length rows - row_width * n) (pos 0)
  pub rest_places : drop (length g.rows) places ≡ replicate (length places - length g.rows) (pos 0)
