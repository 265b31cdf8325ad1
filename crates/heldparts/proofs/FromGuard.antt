-- The tables of a guard that a reader took hold its parts. Assumes nothing.
use mathlib.Core.Path.{refl}
use Prim.Native.Nat.{◌≤◌}
use native.Mathlib.Omega.{arith}
use lib.ListN.{length}
use Rattle.laws.proofs.Lists.{all_of}
use Rattle.guard.specs.Guard.{Guard}
use Rattle.guard.specs.Limits.{Limits, Supported, total_variant_limit}
use Rattle.guard.specs.WellFormed.{WellFormed}
use Rattle.tables.specs.Layout.{flat, literal_table, row_table, type_table}
use Rattle.tables.proofs.Lookups.{flat-all}
use Rattle.heldparts.specs.Held.{HoldsLiterals, HoldsRows, HoldsTypes, VariantFits}

module _ (limits : Limits) (sup : Supported limits) (g : Guard) (w : WellFormed limits g) where
  pub holds-types : length (flat g.types) ≤ total_variant_limit → HoldsTypes (type_table g.types) g.types
  holds-types total =
      record {
        are = refl;
        many = omega (arith, w.type_count, sup.types);
        variants = w.variant_counts;
        total = total;
        fields = flat-all (VariantFits g.types) g.types (λ t v. (w.field_counts t v, w.field_types t v));
      }

  pub holds_rows : HoldsRows (row_table g.types g.rows) g.types g.rows
  holds_rows = record { are = refl; many = omega (arith, w.term_count, sup.terms); fit = w.rows }

  pub holds-literals : HoldsLiterals (literal_table g.literals) g.types g.rows g.literals
  holds-literals = record { are = refl; many = omega (arith, w.line_count, sup.lines); fit = all_of g.literals w.literals }
