-- The parsers of a row, which know the rows before it by their types alone. `SameRows` of `rowreader` has that they are
-- document 01's. Each kind of row has its own parser, and a built row and a field read also the rest of it, from the
-- type on: as the code has a function for each. Assumes nothing: definitions.
use Rattle.std.specs.Prelude.{not, List, [], ◌∷◌, ℕ, zero, suc, eqb, length, get_or}
use Rattle.guard.specs.File.{name}
use Rattle.guard.specs.Guard.{Row, Row.built, Row.constant, Row.field, Row.variable}
use Rattle.guard.specs.Number.{Parser, ◌>>=◌, ◌>>◌, ask, return, unfold_signed, unsigned_of, value_width}
use Rattle.guard.specs.Types.{Types, Variant, fields_of, is_number, variants_of}

-- parts of the types given; `us` are the types of the rows before
abbrev pub parts_by : List ℕ → Variant → Parser (List ℕ)
parts_by us [] = return []
parts_by us (f ∷ fs) = do
  p ← name (length us)
  ask 7 (eqb (get_or us p 0) f)
  ps ← parts_by us fs
  return (p ∷ ps)

abbrev pub variant_term_by : Types → List ℕ → Parser ℕ
variant_term_by ts us = do
  a ← name (length us)
  ask 7 (not (is_number ts (get_or us a 0)))
  return a

abbrev pub variable_row : Types → Parser Row
variable_row ts = name (length ts) >>= λ t. return (variable t)

abbrev pub constant_row : Types → Parser Row
constant_row ts = do
  t ← name (length ts)
  ask 7 (is_number ts t)
  n ← unsigned_of value_width
  return (constant t (unfold_signed n))

-- a built row of the type t, from its variant on
abbrev pub built_of : Types → List ℕ → ℕ → Parser Row
built_of ts us t = do
  v ← name (length (variants_of ts t))
  ps ← parts_by us (fields_of ts t v)
  return (built t v ps)

abbrev pub built_row : Types → List ℕ → Parser Row
built_row ts us = do
  t ← name (length ts)
  ask 7 (not (is_number ts t))
  built_of ts us t

-- a field of the term a, which is of the type t, from the variant on
abbrev pub field_of : Types → ℕ → ℕ → Parser Row
field_of ts t a = do
  v ← name (length (variants_of ts t))
  p ← name (length (fields_of ts t v))
  return (field t a v p)

abbrev pub field_row : Types → List ℕ → Parser Row
field_row ts us = variant_term_by ts us >>= λ a. field_of ts (get_or us a 0) a

abbrev pub row_by : Types → List ℕ → ℕ → Parser Row
row_by ts us zero = variable_row ts
row_by ts us (suc zero) = constant_row ts
row_by ts us (suc (suc zero)) = built_row ts us
row_by ts us (suc (suc (suc k))) = field_row ts us
