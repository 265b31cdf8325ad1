-- The guard file: its parts in order, and the questions 4 to 10, wherever its numbers come from. Assumes nothing.
use Rattle.std.specs.Prelude.{not, ◌&&◌, List, [], ◌∷◌, ◌++◌, ℕ, zero, suc, ◌+◌, leb, ltb, eqb, length}
use Rattle.guard.specs.Limits.{Limits, variant_limit, field_limit, total_variant_limit}
use Rattle.guard.specs.Types.{Types, Variant, variants_of, fields_of, is_number, all_defaults, infinite_fields}
use Rattle.guard.specs.Guard.{Row, Row.variable, Row.constant, Row.built, Row.field, Literal, Literal.equal, Literal.unequal, Literal.is, Literal.isnt, Guard, type_at}
use Rattle.guard.specs.Number.{Parser, Parsed.accepted, Parsed.refused, ◌>>=◌, ◌>>◌, return, times, ask, unfold_signed}

-- where the numbers of a file come from: its bytes, or a list of numbers
pub record Source : Type 0 where
  -- a count, a name or a kind
  pub number : Parser ℕ
  -- a constant's value, as it is written: `fold_signed` of it
  pub folded : Parser ℕ

-- question 10: "After the last line: has the file ended?"
abbrev pub ended : Parser (Unit {0})
ended [] = accepted tt []
ended (b ∷ bs) = refused 10

module _ (src : Source) where
  -- question 4: "If a count, is it within its limits, the total of 48 included?"
  abbrev pub count : ℕ → Parser ℕ
  count most = do
    n ← src.number
    ask 4 (leb n most)
    return n

  -- question 5: "If it names a type, term, variant or position, is that thing there (for a row, an earlier row)?"
  abbrev pub name : ℕ → Parser ℕ
  name many = do
    n ← src.number
    ask 5 (ltb n many)
    return n

  -- question 6: "If a kind, is it listed?"
  abbrev pub kind : Parser ℕ
  kind = do
    k ← src.number
    ask 6 (ltb k 4)
    return k

  -- ---- types

  -- "V variants follow, each as F (0 to 3) and F type numbers; a later type may be named"
  abbrev pub variant : ℕ → Parser Variant
  variant many = count field_limit >>= λ f. times f (name many)

  -- "for each type V (0 to 16)"; "All types together have at most 48 variants."
  -- so many types are left of `many`, and `total` variants are read
  abbrev pub types : ℕ → ℕ → ℕ → Parser Types
  types zero many total = return []
  types (suc left) many total = do
    v ← src.number
    ask 4 (leb v variant_limit && leb (total + v) total_variant_limit)
    vs ← times v (variant many)
    ts ← types left many (total + v)
    return (vs ∷ ts)

  -- ---- term rows, after the rows `rs`

  -- question 7: "a part has its field's type"
  abbrev pub parts : Types → List Row → Variant → Parser (List ℕ)
  parts ts rs [] = return []
  parts ts rs (f ∷ fs) = do
    p ← name (length rs)
    ask 7 (eqb (type_at ts rs p) f)
    ps ← parts ts rs fs
    return (p ∷ ps)

  -- question 7: "a read or tested term is of variant type"; the term
  abbrev pub variant_term : Types → List Row → Parser ℕ
  variant_term ts rs = do
    a ← name (length rs)
    ask 7 (not (is_number ts (type_at ts rs a)))
    return a

  -- question 7: "a constant names a number type, a built row a variant type"
  abbrev pub row_of : Types → List Row → ℕ → Parser Row
  row_of ts rs zero = name (length ts) >>= λ t. return (variable t)
  row_of ts rs (suc zero) = do
    t ← name (length ts)
    ask 7 (is_number ts t)
    n ← src.folded
    return (constant t (unfold_signed n))
  row_of ts rs (suc (suc zero)) = do
    t ← name (length ts)
    ask 7 (not (is_number ts t))
    v ← name (length (variants_of ts t))
    ps ← parts ts rs (fields_of ts t v)
    return (built t v ps)
  row_of ts rs (suc (suc (suc k))) = do
    a ← variant_term ts rs
    v ← name (length (variants_of ts (type_at ts rs a)))
    p ← name (length (fields_of ts (type_at ts rs a) v))
    return (field (type_at ts rs a) a v p)

  -- "A row names only rows before it."
  abbrev pub rows : ℕ → Types → List Row → Parser (List Row)
  rows zero ts rs = return rs
  rows (suc left) ts rs = do
    k ← kind
    r ← row_of ts rs k
    rows left ts (rs ++ (r ∷ []))

  -- ---- literals

  -- question 7: "the second term of an equal or unequal line has the first's type"
  abbrev pub two_terms : Types → List Row → (ℕ → ℕ → Literal) → Parser Literal
  two_terms ts rs make = do
    i ← name (length rs)
    j ← name (length rs)
    ask 7 (eqb (type_at ts rs i) (type_at ts rs j))
    return (make i j)

  abbrev pub term_and_variant : Types → List Row → (ℕ → ℕ → Literal) → Parser Literal
  term_and_variant ts rs make = do
    a ← variant_term ts rs
    v ← name (length (variants_of ts (type_at ts rs a)))
    return (make a v)

  abbrev pub literal_of : Types → List Row → ℕ → Parser Literal
  literal_of ts rs zero = two_terms ts rs equal
  literal_of ts rs (suc zero) = two_terms ts rs unequal
  literal_of ts rs (suc (suc zero)) = term_and_variant ts rs is
  literal_of ts rs (suc (suc (suc k))) = term_and_variant ts rs isnt

  abbrev pub literal : Types → List Row → Parser Literal
  literal ts rs = kind >>= literal_of ts rs

  -- ---- the file

  -- "The file holds, in order: T .., then for each type V ..; N .., then N term rows; ..": these, with the questions 8 and 9 between them, and then
  -- what `next` reads
  abbrev pub with_head : {A : Type 0} → Limits → (Types → List Row → Parser A) → Parser A
  with_head limits next = do
    many ← count limits.types
    ts ← types many many 0
    ask 8 (all_defaults ts)
    ask 9 (infinite_fields ts)
    n ← count limits.terms
    rs ← rows n ts []
    next ts rs

  -- ".. L .., then L lines."
  abbrev pub file_of : Limits → Parser Guard
  file_of limits = with_head limits (λ ts rs. do
    l ← count limits.lines
    ls ← times l (literal ts rs)
    ended
    return (record { types = ts; rows = rs; literals = ls }))
