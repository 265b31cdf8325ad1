-- A row behind its kind: what is left to read behind its type. Assumes nothing.
use mathlib.Core.Path.{◌≡◌, ap, sym, ◌∙◌}
use mathlib.Core.Bool.{Bool, true, false, not}
use mathlib.Core.List.{List}
use Prim.Native.Nat.{ℕ}
use native.Mathlib.Omega.{arith}
use lib.ListN.{length, drop, get_or, take}
use lib.Seq.{length-take-le}
use borrow.Author.Tests.{eq-eqb, ne_eqb}
use Rattle.guard.specs.File.{name}
use Rattle.guard.specs.Guard as guard
use Rattle.guard.specs.Guard.{Row.constant}
use Rattle.guard.specs.Number.{Parsed, Parsed.accepted, Parsed.refused, Parser, ◌>>=◌, ◌>>◌, and_then, ask, return, unfold_signed, unsigned_of, value_width}
use Rattle.guard.specs.Types.{is_number, variants_of}
use Rattle.numbers.specs.Reader.{below}
use Rattle.rowparts.specs.ByTypes.{built_of, built_row, constant_row, variant_term_by}
use Rattle.rowparts.specs.RowParts.{Before, as_row, row_with}
use Rattle.rowparts.specs.declared.Row.{Row}
use Rattle.tables.specs.Layout.{types_of}
use Rattle.tables.specs.declared.TypeTable.{TypeTable}
use Rattle.tables.proofs.Held.{held-many}

-- ---- rows that begin with a type

module _ (table : TypeTable) (bytes : List ℕ) (at : ℕ) where
  abbrev as_rows : Parsed guard.Row → Parsed Row
  as_rows r = and_then (λ o. return (as_row (types_of table) o)) r

  pub type-left : (f : ℕ → Parser guard.Row)
      → row_with (types_of table) (name (length (types_of table)) >>= f) (drop at bytes) ≡ as_rows (and_then f (below table.many 5 (drop at bytes)))
  type-left f = ap (λ (k : ℕ). row_with (types_of table) (below k 5 >>= f) (drop at bytes)) (held-many table)

  module _ (t to : ℕ) (read : below table.many 5 (drop at bytes) ≡ accepted t (drop to bytes)) (n : ℕ) (counted : n ≡ length (variants_of (types_of table) t)) where
    behind-type : (f : ℕ → Parser guard.Row) → row_with (types_of table) (name (length (types_of table)) >>= f) (drop at bytes) ≡ as_rows (f t (drop to bytes))
    behind-type f = type-left f ∙ ap (λ r. as_rows (and_then f r)) read

    -- "a number type": one with no variants
    is-number : n ≡ 0 → is_number (types_of table) t ≡ true
    is-number z = eq-eqb (length (variants_of (types_of table) t)) 0 (sym counted ∙ z)

    is-variant : ¬ (n ≡ 0) → is_number (types_of table) t ≡ false
    is-variant z = ne_eqb (length (variants_of (types_of table) t)) 0 (λ x. z (counted ∙ x))

    abbrev valued : Parser guard.Row
    valued = unsigned_of value_width >>= λ n. return (constant t (unfold_signed n))

    constant_tested : (b : Bool) → is_number (types_of table) t ≡ b → row_with (types_of table) (constant_row (types_of table)) (drop at bytes) ≡ as_rows ((ask 7 b >> valued) (drop to bytes))
    constant_tested b e =
        behind-type (λ t. ask 7 (is_number (types_of table) t) >> (unsigned_of value_width >>= λ n. return (constant t (unfold_signed n))))
        ∙ ap (λ (b : Bool). as_rows ((ask 7 b >> valued) (drop to bytes))) e

    pub value-left : n ≡ 0 → row_with (types_of table) (constant_row (types_of table)) (drop at bytes) ≡ as_rows (valued (drop to bytes))
    value-left z = constant_tested true (is-number z)

    built_tested : (us : List ℕ) (b : Bool) → is_number (types_of table) t ≡ b
        → row_with (types_of table) (built_row (types_of table) us) (drop at bytes) ≡ as_rows ((ask 7 (not b) >> built_of (types_of table) us t) (drop to bytes))
    built_tested us b e =
        behind-type (λ t. ask 7 (not (is_number (types_of table) t)) >> built_of (types_of table) us t)
        ∙ ap (λ (b : Bool). as_rows ((ask 7 (not b) >> built_of (types_of table) us t) (drop to bytes))) e

    pub built_unlike : (us : List ℕ) → n ≡ 0 → row_with (types_of table) (built_row (types_of table) us) (drop at bytes) ≡ refused 7
    built_unlike us z = built_tested us true (is-number z)

    pub built-left : (us : List ℕ) → ¬ (n ≡ 0) → row_with (types_of table) (built_row (types_of table) us) (drop at bytes) ≡ row_with (types_of table) (built_of (types_of table) us t) (drop to bytes)
    built-left us z = built_tested us false (is-variant z)

-- ---- a term of variant type

module _ (table : TypeTable) (rows : ℕ) (types : List ℕ) (before : Before table rows types) (bytes : List ℕ) (at : ℕ) where
  abbrev us : List ℕ
  us = take rows types

  abbrev tested : ℕ → Parser ℕ
  tested a = ask 7 (not (is_number (types_of table) (get_or us a 0))) >> return a

  pub term-left : variant_term_by (types_of table) us (drop at bytes) ≡ and_then tested (below rows 5 (drop at bytes))
  term-left = ap (λ (k : ℕ). (below k 5 >>= tested) (drop at bytes)) (length-take-le rows types (omega (arith, before.few, before.long)))
