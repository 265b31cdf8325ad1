-- Cells that hold columns, and what reading columns into them says. Assumes nothing: definitions.
use Rattle.std.specs.Prelude.{◌≡◌, List, [], ◌∷◌, ◌++◌, ℕ, ◌+◌, ◌*◌, ◌<◌, drop, get_or, length, Result, Ok, Err}
use Rattle.guard.specs.Number.{Parsed.refused, Parser}
use Rattle.guard.specs.Question.{number_of}
use Rattle.guard.specs.declared.Question.{Question}
use Rattle.guard.specs.Types.{Types}
use Rattle.numbers.specs.Reader.{Found}
use Rattle.columnfile.specs.Columns.{column, columns, number_in}

-- number i of column j stands at place 24 × j + i; all other cells are 0
pub record Holds (cells : List ℕ) (cs : List (List ℕ)) : Type 0 where
  pub long : length cells ≡ 144
  pub is : (j i : ℕ) → i < 24 → get_or cells (24 * j + i) 0 ≡ number_in cs j i

-- column j, after the columns `cs`
abbrev pub next_column : Types → ℕ → List (List ℕ) → Parser (List ℕ)
next_column ts n cs = column ts (length cs) n (get_or cs 0 []) (get_or cs 1 []) (get_or cs 2 [])

-- a column was read behind the columns `cs`
pub record ColumnRead (bytes : List ℕ) (at : ℕ) (ts : Types) (n : ℕ) (cs : List (List ℕ)) (next : ℕ) (cells : List ℕ) : Type 0 where
  pub xs : List ℕ
  pub found : Found (next_column ts n cs (drop at bytes)) bytes xs next
  pub holds : Holds cells (cs ++ (xs ∷ []))

-- whatever columns the cells hold: a reader of column j has the next one and a cursor behind it, or the question that refuses
abbrev pub ReadsColumn : List ℕ → ℕ → Types → ℕ → ℕ → List ℕ → Result ℕ Question → List ℕ → Type 0
ReadsColumn bytes at ts j n cells (Ok next) cells' = (cs : List (List ℕ)) → Holds cells cs → length cs ≡ j → ColumnRead bytes at ts n cs next cells'
ReadsColumn bytes at ts j n cells (Err q) cells' = (cs : List (List ℕ)) → Holds cells cs → length cs ≡ j → next_column ts n cs (drop at bytes) ≡ refused (number_of q)

-- all columns were read
pub record ColumnsRead (bytes : List ℕ) (at : ℕ) (ts : Types) (n next : ℕ) (cells : List ℕ) : Type 0 where
  pub cs : List (List ℕ)
  pub found : Found (columns ts n (drop at bytes)) bytes cs next
  pub holds : Holds cells cs
  pub many : length cs ≡ 6

abbrev pub ReadsColumns : List ℕ → ℕ → Types → ℕ → Result ℕ Question → List ℕ → Type 0
ReadsColumns bytes at ts n (Ok next) cells = ColumnsRead bytes at ts n next cells
ReadsColumns bytes at ts n (Err q) cells = columns ts n (drop at bytes) ≡ refused (number_of q)
