-- A row from its variant on: behind the variant, its parts or the position are left to read. Assumes nothing.
use mathlib.Core.Path.{◌≡◌, refl, ap, sym, ◌∙◌}
use mathlib.Core.List.{List}
use Prim.Native.Nat.{ℕ, ◌+◌, ◌*◌, ◌<◌}
use native.Mathlib.Omega.{arith}
use lib.IntN.{pos}
use lib.ListN.{length, drop, get_or}
use Rattle.guard.specs.Guard as guard
use Rattle.guard.specs.Guard.{Row.built, Row.field}
use Rattle.guard.specs.File.{name}
use Rattle.guard.specs.Number.{Parsed, Parsed.accepted, Parsed.refused, Parser, ◌>>=◌, and_then, return}
use Rattle.guard.specs.Types.{Types, Variant, field_type, fields_of, variants_of}
use Rattle.numbers.specs.Reader.{below}
use Rattle.rowparts.proofs.BelowLaws.{below-small}
use Rattle.rowparts.specs.ByTypes.{built_of, field_of, parts_by}
use Rattle.rowparts.specs.RowParts.{as_row, fields_from, padded_parts, row_with, variant_number}
use Rattle.tables.specs.Layout.{pad, types_of}
use Rattle.tables.specs.declared.TypeTable.{TypeTable}
use Rattle.tables.proofs.Held.{held-arity, held-fields, held-sort, held-variants}

-- a built row has its parts in the table
parts-built : (ts : Types) (t v : ℕ) (r : Parsed (List ℕ))
    → and_then (λ o. return (as_row ts o)) (and_then (λ ps. return (built t v ps)) r)
    ≡ and_then (λ q. return (record { sort = t; variant = v; parts = q; value = pos 0 })) (and_then (λ ps. return (pad 3 ps)) r)
parts-built ts t v (refused q) = refl
parts-built ts t v (accepted ps rest) = refl

module _ (table : TypeTable) (bytes : List ℕ) (at t n : ℕ) (typed : t < table.many) (counted : n ≡ length (variants_of (types_of table) t)) (v to : ℕ) (read : below n 5 (drop at bytes) ≡ accepted v (drop to bytes)) (w : ℕ) (number : w ≡ variant_number table t v) where
  in_variants : v < get_or table.variants t 0
  in_variants = omega (arith, held-variants table t typed, below-small n 5 v (drop at bytes) (drop to bytes) read)

  fields-are : fields_of (types_of table) t v ≡ fields_from table.sorts w (get_or table.arities w 0) 0
  fields-are = held-fields table t typed v in_variants ∙ ap (λ (w : ℕ). fields_from table.sorts w (get_or table.arities w 0) 0) (sym number)

  arity-is : length (fields_of (types_of table) t v) ≡ get_or table.arities w 0
  arity-is = held-arity table t typed v in_variants ∙ ap (λ (w : ℕ). get_or table.arities w 0) (sym number)

  behind-variant : (f : ℕ → Parser guard.Row) → row_with (types_of table) (name (length (variants_of (types_of table) t)) >>= f) (drop at bytes)
      ≡ and_then (λ o. return (as_row (types_of table) o)) (f v (drop to bytes))
  behind-variant f =
      ap (λ (k : ℕ). row_with (types_of table) (below k 5 >>= f) (drop at bytes)) (sym counted)
      ∙ ap (λ r. and_then (λ o. return (as_row (types_of table) o)) (and_then f r)) read

  pub parts-left : (us : List ℕ) → row_with (types_of table) (built_of (types_of table) us t) (drop at bytes)
      ≡ and_then (λ q. return (record { sort = t; variant = v; parts = q; value = pos 0 })) (padded_parts us (fields_from table.sorts w (get_or table.arities w 0) 0) (drop to bytes))
  parts-left us =
      behind-variant (λ v. parts_by us (fields_of (types_of table) t v) >>= λ ps. return (built t v ps))
      ∙ parts-built (types_of table) t v (parts_by us (fields_of (types_of table) t v) (drop to bytes))
      ∙ ap (λ (fs : Variant). and_then (λ q. return (record { sort = t; variant = v; parts = q; value = pos 0 })) (padded_parts us fs (drop to bytes))) fields-are

  pub position-left : (a : ℕ) → row_with (types_of table) (field_of (types_of table) t a) (drop at bytes)
      ≡ and_then (λ o. return (as_row (types_of table) o)) (and_then (λ p. return (field t a v p)) (below (get_or table.arities w 0) 5 (drop to bytes)))
  position-left a =
      behind-variant (λ v. name (length (fields_of (types_of table) t v)) >>= λ p. return (field t a v p))
      ∙ ap (λ (k : ℕ). and_then (λ o. return (as_row (types_of table) o)) (and_then (λ p. return (field t a v p)) (below k 5 (drop to bytes)))) arity-is

  pub field-sort : (p : ℕ) → p < get_or table.arities w 0 → field_type (types_of table) t v p ≡ get_or table.sorts (3 * w + p) 0
  field-sort p h =
      held-sort table t typed v in_variants p (omega (arith, ap (λ (w : ℕ). get_or table.arities w 0) number))
      ∙ ap (λ (w : ℕ). get_or table.sorts (3 * w + p) 0) (sym number)
