-- What is asked and put on the way from cells to a restored file. Assumes nothing: definitions.
use Rattle.std.specs.Prelude.{◌≡◌, true, Option, List, ◌++◌, ℕ, ◌≤◌, ◌<◌, drop, length, Result, Ok, Err}
use Rattle.laws.specs.All.{All}
use Rattle.guard.specs.File.{file, literal}
use Rattle.guard.specs.Guard.{Guard, Row}
use Rattle.guard.specs.Limits.{base, field_limit, total_variant_limit, variant_limit}
use Rattle.guard.specs.Number.{Parsed, Parsed.accepted, Parsed.refused, Parser, ◌>>=◌, and_then, return, value_width, width32}
use Rattle.guard.specs.Question.{number_of}
use Rattle.guard.specs.declared.Question.{Question}
use Rattle.guard.specs.Types.{Types, all_defaults, infinite_fields}
use Rattle.tables.specs.Layout.{TypesInRange, flat, type_table, types_of}
use Rattle.tables.specs.declared.TypeTable.{TypeTable}
use Rattle.merged.specs.Merge.{type_part}
use Rattle.rowreader.specs.RowReader.{counted_rows}
use Rattle.literalreader.specs.LiteralReader.{literals_by}
use Rattle.bytebuffer.specs.Puts.{Puts}
use Rattle.filewriter.specs.Writer.{Answered, answer_to, left_by}
use Rattle.columnfile.specs.Columns.{columns, number_in, restored_head, restored_rows}
use Rattle.columnreader.specs.Cells.{Holds}
use Rattle.restore.specs.declared.Head.{Head}

-- ---- types

-- types that were read, with the questions 8 and 9, and their table
pub record TypesTaken (table : TypeTable) (ts : Types) : Type 0 where
  pub are : table ≡ type_table ts
  pub many : length ts ≤ 6
  pub total : length (flat ts) ≤ total_variant_limit
  pub fit : All (λ vs. (length vs ≤ variant_limit) × All (λ fs. (length fs ≤ field_limit) × All (λ f. f < length ts) fs) vs) ts
  pub range : TypesInRange table
  pub back : types_of table ≡ ts
  pub ready : all_defaults ts ≡ true
  pub infinite : infinite_fields ts ≡ true

pub record SomeTypes (table : TypeTable) : Type 0 where
  pub ts : Types
  pub taken : TypesTaken table ts

-- the restored file up to its last row
abbrev pub head_of : Types → ℕ → List (List ℕ) → List ℕ
head_of ts n cs = type_part ts ++ restored_rows ts n cs

pub record HeadTaken (bytes : List ℕ) (r : Head) : Type 0 where
  pub ts : Types
  pub taken : TypesTaken r.table ts
  pub few : r.rows ≤ 24
  pub within : r.at ≤ length bytes
  pub rest : restored_head base bytes ≡ and_then (λ cs. return (head_of ts r.rows cs)) (columns ts r.rows (drop r.at bytes))

-- the head of a stored file, or the question that refuses
abbrev pub HeadSays : List ℕ → Result Head Question → Type 0
HeadSays bytes (Ok h) = HeadTaken bytes h
HeadSays bytes (Err q) = restored_head base bytes ≡ refused (number_of q)

-- ---- rows and lines

-- L and the lines, after the rows
abbrev pub after_rows : Types → List Row → Parser Guard
after_rows ts rs = literals_by 32 (literal ts rs) >>= λ ls. return (record { types = ts; rows = rs; literals = ls })

-- the questions from N on, of rows in row order and of what stands behind them
abbrev pub asked_of : Types → List ℕ → List ℕ → Parsed Guard
asked_of ts rows rest = and_then (λ rs left. after_rows ts rs rest) (counted_rows 24 ts rows)

pub record GuardRead (ts : Types) (rows rest : List ℕ) : Type 0 where
  pub guard : Guard
  pub left : List ℕ
  pub parsed : asked_of ts rows rest ≡ accepted guard left

-- a guard of these types, or the question that refuses
abbrev pub Asks : TypeTable → List ℕ → List ℕ → Result (Unit {0}) Question → Type 0
Asks table rows rest (Ok u) = (ts : Types) → TypesTaken table ts → GuardRead ts rows rest
Asks table rows rest (Err q) = (ts : Types) → TypesTaken table ts → asked_of ts rows rest ≡ refused (number_of q)

-- ---- what is put

pub record PutsRestored (table : TypeTable) (rows rest out : List ℕ) (result : Option ℕ) (out' : List ℕ) : Type 0 where
  pub puts : (ts : Types) → TypesTaken table ts → Puts (type_part ts ++ (rows ++ rest)) out 0 result out'

-- ---- from cells

-- how large the numbers of columns are
pub record Bounded (n : ℕ) (cs : List (List ℕ)) : Type 0 where
  pub small : (j i : ℕ) → ¬ (j ≡ 2) → i < n → number_in cs j i ≤ width32.most
  pub third : (i : ℕ) → i < n → ¬ (number_in cs 0 i ≡ 1) → number_in cs 2 i ≤ width32.most
  pub value : (i : ℕ) → i < n → number_in cs 2 i ≤ value_width.most

-- types, and columns that the cells hold
pub record Restored (table : TypeTable) (n : ℕ) (cells : List ℕ) (ts : Types) (cs : List (List ℕ)) : Type 0 where
  pub taken : TypesTaken table ts
  pub holds : Holds cells cs
  pub many : length cs ≡ 6
  pub few : n ≤ 24
  pub bounded : Bounded n cs

pub record Restorable (table : TypeTable) (n : ℕ) (cells : List ℕ) : Type 0 where
  pub ts : Types
  pub cs : List (List ℕ)
  pub is : Restored table n cells ts cs

pub record AnswersRestored (table : TypeTable) (n : ℕ) (cells rest out : List ℕ) (r : Result ℕ Question) (out' : List ℕ) : Type 0 where
  pub answers : (ts : Types) (cs : List (List ℕ)) → Restored table n cells ts cs → All (λ b. b < 256) rest
      → Answered (answer_to (file base (head_of ts n cs ++ rest)) (length out)) r × (out' ≡ left_by (file base (head_of ts n cs ++ rest)) (length out))
