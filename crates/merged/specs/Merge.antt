-- Two guards as one. Assumes nothing: definitions.
-- Quoted sentences are document 02's, of request #107.
use Rattle.std.specs.Prelude.{Bool, true, false, cond, ◌&&◌, List, [], ◌∷◌, ◌++◌, map, ℕ, zero, suc, eqb, leb, length, get_or}
use Rattle.laws.specs.Lists.{concat_map}
use Rattle.guard.specs.File.{file}
use Rattle.guard.specs.Guard.{Guard, Literal, Literal.equal, Literal.is, Literal.isnt, Literal.unequal, Row, Row.built, Row.constant, Row.field, Row.variable, type_at}
use Rattle.guard.specs.Limits.{Limits}
use Rattle.guard.specs.Number.{Parsed, Parsed.accepted, Parsed.refused}
use Rattle.guard.specs.Types.{Types}
use Rattle.serialize.specs.Tokens.{Token, Token.plain, token_bytes, type_tokens}

-- ---- variables

-- the rows that are variables, where the rows are numbered from `i` on
abbrev pub variables_from : ℕ → List Row → List ℕ
variables_from i [] = []
variables_from i (variable t ∷ rs) = i ∷ variables_from (suc i) rs
variables_from i (constant t z ∷ rs) = variables_from (suc i) rs
variables_from i (built t v ps ∷ rs) = variables_from (suc i) rs
variables_from i (field t a v p ∷ rs) = variables_from (suc i) rs

abbrev pub variables : List Row → List ℕ
variables rs = variables_from 0 rs

-- "While both last, the second's variables are taken in order as the first's and not written again."
-- Of the second's rows, where the first's variables `vs` are not yet taken and the next row that is written gets number `next`:

-- the number that each of them gets
abbrev pub names_from : List ℕ → ℕ → List Row → List ℕ
names_from vs next [] = []
names_from [] next (r ∷ rs) = next ∷ names_from [] (suc next) rs
names_from (x ∷ vs) next (variable t ∷ rs) = x ∷ names_from vs next rs
names_from (x ∷ vs) next (constant t z ∷ rs) = next ∷ names_from (x ∷ vs) (suc next) rs
names_from (x ∷ vs) next (built t v ps ∷ rs) = next ∷ names_from (x ∷ vs) (suc next) rs
names_from (x ∷ vs) next (field t a v p ∷ rs) = next ∷ names_from (x ∷ vs) (suc next) rs

-- those that are written
abbrev pub written_of : List ℕ → List Row → List Row
written_of vs [] = []
written_of [] (r ∷ rs) = r ∷ rs
written_of (x ∷ vs) (variable t ∷ rs) = written_of vs rs
written_of (x ∷ vs) (constant t z ∷ rs) = constant t z ∷ written_of (x ∷ vs) rs
written_of (x ∷ vs) (built t v ps ∷ rs) = built t v ps ∷ written_of (x ∷ vs) rs
written_of (x ∷ vs) (field t a v p ∷ rs) = field t a v p ∷ written_of (x ∷ vs) rs

-- the rows at whose place the other list has 0: how code tells which are written
abbrev pub kept_rows : List ℕ → List Row → List Row
kept_rows [] rs = rs
kept_rows (s ∷ ss) [] = []
kept_rows (zero ∷ ss) (r ∷ rs) = r ∷ kept_rows ss rs
kept_rows (suc s ∷ ss) (r ∷ rs) = kept_rows ss rs

-- whether no "two variables taken as one differ in type", where the first's rows are `firsts`
abbrev pub types_agree : Types → List Row → List ℕ → List Row → Bool
types_agree ts firsts vs [] = true
types_agree ts firsts [] (r ∷ rs) = true
types_agree ts firsts (x ∷ vs) (variable t ∷ rs) = eqb (type_at ts firsts x) t && types_agree ts firsts vs rs
types_agree ts firsts (x ∷ vs) (constant t z ∷ rs) = types_agree ts firsts (x ∷ vs) rs
types_agree ts firsts (x ∷ vs) (built t v ps ∷ rs) = types_agree ts firsts (x ∷ vs) rs
types_agree ts firsts (x ∷ vs) (field t a v p ∷ rs) = types_agree ts firsts (x ∷ vs) rs

-- ---- renumbering

abbrev pub named : List ℕ → ℕ → ℕ
named names i = get_or names i 0

abbrev pub renamed_row : List ℕ → Row → Row
renamed_row names (variable t) = variable t
renamed_row names (constant t z) = constant t z
renamed_row names (built t v ps) = built t v (map (named names) ps)
renamed_row names (field t a v p) = field t (named names a) v p

abbrev pub renamed_literal : List ℕ → Literal → Literal
renamed_literal names (equal i j) = equal (named names i) (named names j)
renamed_literal names (unequal i j) = unequal (named names i) (named names j)
renamed_literal names (is i v) = is (named names i) v
renamed_literal names (isnt i v) = isnt (named names i) v

-- ---- two guards as one

module _ (g h : Guard) where
  -- the number that each of the second's rows gets
  unfoldable pub names : List ℕ
  names = names_from (variables g.rows) (length g.rows) h.rows

  -- the second's rows that are written
  unfoldable pub written : List Row
  written = written_of (variables g.rows) h.rows

  -- "the first's rows, then the second's renumbered, then the lines likewise"
  unfoldable pub merged : Guard
  merged =
      record {
        types = g.types;
        rows = g.rows ++ map (renamed_row names) written;
        literals = g.literals ++ map (renamed_literal names) h.literals;
      }

  -- whether "two variables taken as one" have one type
  unfoldable pub same_variables : Bool
  same_variables = types_agree g.types g.rows (variables g.rows) h.rows

-- ---- what is asked

abbrev pub same_bytes : List ℕ → List ℕ → Bool
same_bytes [] [] = true
same_bytes [] (y ∷ ys) = false
same_bytes (x ∷ xs) [] = false
same_bytes (x ∷ xs) (y ∷ ys) = eqb x y && same_bytes xs ys

-- "the type parts": the bytes before N
unfoldable pub type_part : Types → List ℕ
type_part ts = concat_map token_bytes (plain (length ts) ∷ concat_map type_tokens ts)

-- whether there is room for all rows and lines
unfoldable pub has_room : Limits → Guard → Bool
has_room limits g = leb (length g.rows) limits.terms && leb (length g.literals) limits.lines

-- of two guards with the same types: "16, asked next, when two variables taken as one differ in type"; "Asked after 16, too many rows
-- or lines is 4"
unfoldable pub asked_of_same : Limits → Guard → Guard → Parsed Guard
asked_of_same limits g h = cond (same_variables g h) (cond (has_room limits (merged g h)) (accepted (merged g h) []) (refused 4)) (refused 16)

-- "15, asked first after both files are accepted, when the type parts differ in any byte"
unfoldable pub asked : Limits → Guard → Guard → Parsed Guard
asked limits g h = cond (same_bytes (type_part g.types) (type_part h.types)) (asked_of_same limits g h) (refused 15)

-- "The first file is asked before the second."
abbrev pub merged_by : Limits → Parsed Guard → Parsed Guard → Parsed Guard
merged_by limits (refused q) second = refused q
merged_by limits (accepted g rest) (refused q) = refused q
merged_by limits (accepted g rest) (accepted h rest') = asked limits g h

-- "The merge takes two accepted files and writes one": the guard of that file, or the question that gets a no. How it is written, and
-- what "too short an output" gets, is the writer's (`answer_to` and `left_by` of `filewriter`).
unfoldable pub merged_file : Limits → List ℕ → List ℕ → Parsed Guard
merged_file limits first second = merged_by limits (file limits first) (file limits second)
