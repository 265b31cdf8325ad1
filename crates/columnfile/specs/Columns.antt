-- Guard files with their term rows by column, and the way back. Assumes nothing: definitions.
-- Quoted sentences are document 02's, of request #111, where no other document is named.
use Rattle.std.specs.Prelude.{not, cond, List, [], ◌∷◌, ◌++◌, map, ℕ, zero, suc, ◌+◌, ltb, length, get_or, take, drop}
use Rattle.laws.specs.Lists.{concat_map, from}
use Rattle.guard.specs.File.{count, file, kind, name, types}
use Rattle.guard.specs.Guard.{Guard, Row}
use Rattle.guard.specs.Limits.{Limits}
use Rattle.guard.specs.Number.{Parsed, Parsed.accepted, Parsed.refused, Parser, ◌>>=◌, ◌>>◌, and_then, ask, return, unsigned, value_width}
use Rattle.guard.specs.Number as number
use Rattle.guard.specs.Types.{Types, all_defaults, fields_of, infinite_fields, is_number, variants_of}
use Rattle.encoding.specs.Encoding.{encoded, encoded_value}
use Rattle.serialize.specs.Tokens.{Token.plain, literal_tokens, row_tokens, token_bytes, unsigned_of}
use Rattle.merged.specs.Merge.{type_part}

-- ---- storing

-- a row's numbers as they are written: its kind, then up to five more
abbrev pub row_numbers : Row → List ℕ
row_numbers r = map unsigned_of (row_tokens r)

-- number j of a row, counted from 0, if it has one
abbrev pub entry : ℕ → Row → List ℕ
entry j r = take 1 (drop j (row_numbers r))

-- A number's bytes. Counts, names and kinds have the same among numbers of 64 bits as among numbers of 32.
abbrev pub bytes_for : List ℕ → List ℕ
bytes_for ns = concat_map encoded_value ns

-- column j: the number of each row that has one, "in row order"
abbrev pub column_bytes : ℕ → List Row → List ℕ
column_bytes j rs = concat_map (λ r. bytes_for (entry j r)) rs

-- "all kinds in row order, then all second numbers, then third to sixth, missing ones left out"
abbrev pub columns_bytes : List Row → List ℕ
columns_bytes rs = concat_map (λ j. column_bytes j rs) (from 6 0)

-- L and the lines
abbrev pub line_part : Guard → List ℕ
line_part g = concat_map token_bytes (plain (length g.literals) ∷ concat_map literal_tokens g.literals)

-- "An accepted file's term rows are stored as" columns; "other numbers keep their order"
unfoldable pub stored_bytes : Guard → List ℕ
stored_bytes g = type_part g.types ++ (encoded (length g.rows) ++ (columns_bytes g.rows ++ line_part g))

-- ---- back again

-- how many numbers a row has, by its kind and, if it is built, by its second and third number, which are its type and its variant
abbrev pub width : Types → ℕ → ℕ → ℕ → ℕ
width ts zero s v = 2
width ts (suc zero) s v = 3
width ts (suc (suc zero)) s v = 3 + length (fields_of ts s v)
width ts (suc (suc (suc k))) s v = 4

-- "in the columns each number is asked 2 and 3, each kind 6, and a built row's type and variant 5 and 7". A missing number counts
-- as 0, and nothing is read.

-- the second number of a row of this kind
abbrev pub second : Types → ℕ → Parser ℕ
second ts zero = unsigned
second ts (suc zero) = unsigned
second ts (suc (suc zero)) = name (length ts) >>= λ t. ask 7 (not (is_number ts t)) >> return t
second ts (suc (suc (suc k))) = unsigned

-- the third of a row of this kind with this second number; a constant's is its value
abbrev pub third : Types → ℕ → ℕ → Parser ℕ
third ts zero s = return 0
third ts (suc zero) s = number.unsigned_of value_width
third ts (suc (suc zero)) s = name (length (variants_of ts s))
third ts (suc (suc (suc k))) s = unsigned

-- number j of a row, whose kind, second and third number are known as far as they stand before it
abbrev pub cell : Types → ℕ → ℕ → ℕ → ℕ → Parser ℕ
cell ts zero k s v = kind
cell ts (suc zero) k s v = second ts k
cell ts (suc (suc zero)) k s v = third ts k s
cell ts (suc (suc (suc j))) k s v = cond (ltb (suc (suc (suc j))) (width ts k s v)) unsigned (return 0)

-- so many numbers more of a column, of which these are read; `p` reads that of each row
abbrev pub column_from : (ℕ → Parser ℕ) → ℕ → List ℕ → Parser (List ℕ)
column_from p zero xs = return xs
column_from p (suc left) xs = p (length xs) >>= λ x. column_from p left (xs ++ (x ∷ []))

-- column j of n rows, after the first three columns, as far as they stand before it
abbrev pub column : Types → ℕ → ℕ → List ℕ → List ℕ → List ℕ → Parser (List ℕ)
column ts j n ks ss vs = column_from (λ i. cell ts j (get_or ks i 0) (get_or ss i 0) (get_or vs i 0)) n []

-- number i of column j, 0 where there is none
abbrev pub number_in : List (List ℕ) → ℕ → ℕ → ℕ
number_in cs j i = get_or (get_or cs j []) i 0

-- so many columns more of n rows, of which these are read
abbrev pub columns_from : Types → ℕ → ℕ → List (List ℕ) → Parser (List (List ℕ))
columns_from ts n zero cs = return cs
columns_from ts n (suc left) cs = column ts (length cs) n (get_or cs 0 []) (get_or cs 1 []) (get_or cs 2 []) >>= λ xs. columns_from ts n left (cs ++ (xs ∷ []))

abbrev pub columns : Types → ℕ → Parser (List (List ℕ))
columns ts n = columns_from ts n 6 []

-- the numbers of row i
abbrev pub restored_row : Types → List (List ℕ) → ℕ → List ℕ
restored_row ts cs i = take (width ts (number_in cs 0 i) (number_in cs 1 i) (number_in cs 2 i)) (map (λ c. get_or c i 0) cs)

-- N, and n rows in row order
abbrev pub restored_rows : Types → ℕ → List (List ℕ) → List ℕ
restored_rows ts n cs = encoded n ++ concat_map (λ i. bytes_for (restored_row ts cs i)) (from n 0)

-- "Back again, up to N the base's questions are asked": the restored file up to its last row; what is left of the stored bytes stands
-- behind it
unfoldable pub restored_head : Limits → Parser (List ℕ)
restored_head limits = do
  many ← count limits.types
  ts ← types many many 0
  ask 8 (all_defaults ts)
  ask 9 (infinite_fields ts)
  n ← count limits.terms
  cs ← columns ts n
  return (type_part ts ++ restored_rows ts n cs)

-- "the rest are asked of the restored file"
unfoldable pub restored_file : Limits → List ℕ → Parsed Guard
restored_file limits stored = and_then (λ head rest. file limits (head ++ rest)) (restored_head limits stored)
