-- The columns of sibling fields: for a guard, and place by place from the columns of its tables. Assumes nothing.
use Rattle.std.specs.Prelude.{cond, List, map, ℕ, suc, ◌+◌, ◌*◌, ◌/◌, ◌%◌, ◌<◌, eqb, ltb, get_or}
use Rattle.laws.specs.Lists.{concat_map, from}
use Rattle.guard.specs.Guard.{Row}
use Rattle.guard.specs.Terms.{Read, Term, from_rows, read_of, siblings_of}
use Rattle.guard.specs.Types.{Types}
use Rattle.tables.specs.Layout.{pad}
use Rattle.tables.specs.declared.RowTable.{RowTable}
use Rattle.tables.specs.declared.TypeTable.{TypeTable}
use Rattle.fieldterms.specs.FieldTerms.{field_term_at, place_at, sibling_position}
pub use Rattle.fieldterms.specs.FieldTerms.{ReadsInRange}
use Rattle.siblings.specs.declared.Siblings.{Siblings}

-- ---- of a guard

-- what row i puts into its three places: the terms of a read's fields
abbrev pub row_fields : Types → ℕ → Row → List ℕ
row_fields ts i r = pad 3 (concat_map (λ (x : Read). x.fields) (read_of ts i r))

-- and into its two places: the types of the sibling fields, each plus one
abbrev pub row_sorts : Types → ℕ → Row → List ℕ
row_sorts ts i r = pad 2 (map (λ (x : Term). suc x.type) (concat_map (siblings_of ts) (read_of ts i r)))

-- both columns, from the same `read_of` and `siblings_of` as the closure's table
unfoldable pub siblings_in : Types → List Row → Siblings
siblings_in ts rs = record { fields = pad 72 (from_rows (row_fields ts) 0 rs); sorts = pad 48 (from_rows (row_sorts ts) 0 rs) }

-- ---- by the columns of the tables

-- an entry of a field read, where the variant has such a field
abbrev pub entry : ℕ → ℕ → ℕ → ℕ → ℕ
entry kind arity q n = cond (eqb kind 3) (cond (ltb q arity) n 0) 0

module _ (kinds types variants parts first arities : List ℕ) where
  -- row i at position q
  unfoldable pub field_entry : ℕ → ℕ → ℕ
  field_entry i q = entry (get_or kinds i 0) (get_or arities (place_at types variants parts first i) 0) q (field_term_at i (get_or parts (3 * i + 1) 0) q)

  -- the first n places of the column
  unfoldable pub field_entries : ℕ → List ℕ
  field_entries n = pad 72 (map (λ x. field_entry (x / 3) (x % 3)) (from n 0))

  -- row i, sibling k
  unfoldable pub sort_entry : List ℕ → ℕ → ℕ → ℕ
  sort_entry sorts i k =
      let w = place_at types variants parts first i in
      let q = sibling_position (get_or parts (3 * i + 1) 0) k in
      entry (get_or kinds i 0) (get_or arities w 0) q (get_or sorts (3 * w + q) 0 + 1)

  unfoldable pub sort_entries : List ℕ → ℕ → List ℕ
  sort_entries sorts n = pad 48 (map (λ x. sort_entry sorts (x / 2) (x % 2)) (from n 0))

-- what `sibling_fields` computes; for the tables of a well-formed guard it is `siblings_in`
unfoldable pub siblings_by : TypeTable → RowTable → Siblings
siblings_by table rows =
    record {
      fields = field_entries rows.kinds rows.types rows.variants rows.parts table.first table.arities (3 * rows.many);
      sorts = sort_entries rows.kinds rows.types rows.variants rows.parts table.first table.arities table.sorts (2 * rows.many);
    }

-- ---- what a caller ensures

-- the types of fields are in range
abbrev pub SortsInRange : List ℕ → List ℕ → Type 0
SortsInRange arities sorts = (w j : ℕ) → j < get_or arities w 0 → get_or sorts (3 * w + j) 0 < 6
