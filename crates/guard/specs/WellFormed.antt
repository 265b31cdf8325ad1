-- What the questions say of an accepted guard. Assumes nothing.
use Rattle.std.specs.Prelude.{◌≡◌, Bool, true, false, ℕ, ◌≤◌, ◌<◌, length, get_or}
use mathlib.Core.List.{List, map, Memᴰ}
use Rattle.std.proofs.Math.Option.{Option, none, some}
use Rattle.laws.specs.All.{All}
use Rattle.guard.specs.Limits.{Limits, variant_limit, field_limit}
use Rattle.guard.specs.Message.{Message}
use Rattle.guard.specs.Types.{Types, variants_of, fields_of, is_number, defaults, infinite_fields}
use Rattle.guard.specs.Guard.{Row, Row.variable, Row.constant, Row.built, Row.field, Literal, Literal.equal, Literal.unequal, Literal.is, Literal.isnt, Guard, row_at, type_at}
use Rattle.guard.specs.Number.{fold_signed, value_width}

-- row i after the rows before it: questions 5 and 7, and the range of a signed value
abbrev pub RowFits : Types → List Row → ℕ → Row → Type 0
RowFits ts rs i (variable t) = t < length ts
RowFits ts rs i (constant t z) = (t < length ts) × (is_number ts t ≡ true) × (fold_signed z ≤ value_width.most)
RowFits ts rs i (built t v ps) = (t < length ts) × (v < length (variants_of ts t)) × All (λ p. p < i) ps × (map (type_at ts rs) ps ≡ fields_of ts t v)
RowFits ts rs i (field t a v p) = (a < i) × (type_at ts rs a ≡ t) × (v < length (variants_of ts t)) × (p < length (fields_of ts t v))

abbrev pub LiteralFits : Types → List Row → Literal → Type 0
LiteralFits ts rs (equal i j) = (i < length rs) × (j < length rs) × (type_at ts rs i ≡ type_at ts rs j)
LiteralFits ts rs (unequal i j) = (i < length rs) × (j < length rs) × (type_at ts rs i ≡ type_at ts rs j)
LiteralFits ts rs (is i v) = (i < length rs) × (v < length (variants_of ts (type_at ts rs i)))
LiteralFits ts rs (isnt i v) = (i < length rs) × (v < length (variants_of ts (type_at ts rs i)))

pub record WellFormed (limits : Limits) (g : Guard) : Type 0 where
  pub type_count : length g.types ≤ limits.types
  pub variant_counts : (t : ℕ) → length (variants_of g.types t) ≤ variant_limit
  pub field_counts : (t v : ℕ) → length (fields_of g.types t v) ≤ field_limit
  pub field_types : (t v : ℕ) → All (λ f. f < length g.types) (fields_of g.types t v)
  -- question 8
  pub ready : (t : ℕ) → t < length g.types → (m : Message) × (get_or (defaults g.types) t none ≡ some m)
  -- question 9
  pub infinite : infinite_fields g.types ≡ true
  pub term_count : length g.rows ≤ limits.terms
  pub rows : (i : ℕ) → i < length g.rows → RowFits g.types g.rows i (row_at g.rows i)
  pub line_count : length g.literals ≤ limits.lines
  pub literals : (l : Literal) → Memᴰ l g.literals → LiteralFits g.types g.rows l
