-- Variants and fields of types that a table holds, and of those that it doesn't. Assumes nothing.
use mathlib.Core.Path.{◌≡◌, refl, ap, sym}
use mathlib.Core.List.{[]}
use Prim.Native.Nat.{ℕ, zero, suc, ◌+◌, ◌≤◌, ◌<◌}
use native.Mathlib.Omega.{arith}
use lib.Dec.{ltb}
use lib.ListN.{length, get_or, get_or-eq_default}
use borrow.Author.Tests.{ltb-false, ltb-true}
use Rattle.laws.proofs.Bools.{by_test}
use Rattle.guard.specs.Types.{Types, fields_of, variants_of}
use Rattle.tables.specs.Layout.{TypesInRange, types_of}
use Rattle.tables.specs.declared.TypeTable.{TypeTable}
use Rattle.tables.proofs.Held.{held-arity, held-many, held-variants, place-small}
use Rattle.columnfile.specs.Columns.{width}

module _ (table : TypeTable) where
  pub no-type : (t : ℕ) → table.many ≤ t → length (variants_of (types_of table) t) ≡ 0
  no-type t h = ap length (get_or-eq_default (types_of table) [] {n = t} (omega (arith, h, held-many table)))

  pub no_variant_lem : (t v : ℕ) → length (variants_of (types_of table) t) ≤ v → length (fields_of (types_of table) t v) ≡ 0
  no_variant_lem t v h = ap length (get_or-eq_default (variants_of (types_of table) t) [] {n = v} h)

  -- a type with a variant is there
  pub some-type : (t v : ℕ) → v < length (variants_of (types_of table) t) → t < table.many
  some-type t v h = by_test (ltb t table.many) (λ e. ltb-true t table.many e) (λ e. absurd (omega (arith, h, no-type t (ltb-false t table.many e))))

  module _ (t v : ℕ) (h : v < length (variants_of (types_of table) t)) where
    pub arity-is : get_or table.arities (get_or table.first t 0 + v) 0 ≡ length (fields_of (types_of table) t v)
    arity-is = let i = some-type t v h in sym (held-arity table t i v (omega (arith, h, held-variants table t i)))

    pub place_inside : TypesInRange table → get_or table.first t 0 + v < 48
    place_inside range = place-small table range t v (some-type t v h) h

pub width-built : (ts : Types) (k s v : ℕ) → k ≡ 2 → width ts k s v ≡ 3 + length (fields_of ts s v)
width-built ts k s v e = ap (λ (x : ℕ). width ts x s v) e

pub width_read : (ts : Types) (k s v : ℕ) → ¬ (k ≡ 0) → ¬ (k ≡ 1) → ¬ (k ≡ 2) → width ts k s v ≡ 4
width_read ts zero s v a b c = absurd (a refl)
width_read ts (suc zero) s v a b c = absurd (b refl)
width_read ts (suc (suc zero)) s v a b c = absurd (c refl)
width_read ts (suc (suc (suc k))) s v a b c = refl
