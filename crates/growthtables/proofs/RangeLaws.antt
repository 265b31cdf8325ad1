-- The numbers of the tables of growth are in range if the table of types is. Assumes nothing.
use Prim.Native.Nat.{ℕ, ◌+◌, ◌*◌, ◌≤◌, ◌<◌}
use native.Mathlib.Omega.{arith}
use lib.Dec.{eqb, ltb}
use lib.ListN.{length, get_or}
use borrow.Author.Tests.{ltb-false, ltb-true}
use Rattle.laws.proofs.Bools.{by_test}
use Rattle.laws.proofs.Positions.{least_most}
use Rattle.guard.specs.Types.{Types, fields_of, is_number, variants_of}
use Rattle.guard.proofs.FiniteTypes.{infinite}
use Rattle.tables.specs.Layout.{TypesInRange, types_of}
use Rattle.tables.specs.declared.TypeTable.{TypeTable}
use Rattle.tables.proofs.Held.{held-many, held-variants}
use Rattle.growth.proofs.Growth.{distance_of, growing_variant, next_type, period_of, root_of, steps_to_number}
use Rattle.growth.proofs.Orbit.{distance, iterate, period-most, root, root-less}
use Rattle.columns.specs.Entries.{filled}
use Rattle.growthtables.specs.Growth.{GrowthInRange, chosen_at, growth_by, per_type}
use Rattle.columns.proofs.Filled.{filled_at, filled-past}
use Rattle.growthtables.proofs.TableLaws.{next-inside}

-- zeros stand behind the entries
filled-most : (n : ℕ) (f : ℕ → ℕ) (i most : ℕ) → ((k : ℕ) → k < i → f k ≤ most) → (k : ℕ) → get_or (filled n f i) k 0 ≤ most
filled-most n f i most h k =
    by_test (ltb k i) (λ e. omega (arith, filled_at n f i k (ltb-true _ _ e), h k (ltb-true _ _ e))) (λ e. omega (arith, filled-past n f i k (ltb-false k i e)))

module _ (table : TypeTable) (range : TypesInRange table) where
  abbrev ts : Types
  ts = types_of table

  few : length ts ≤ 6
  few = omega (arith, held-many table, range.many)

  chosen-most : (w : ℕ) → chosen_at table w ≤ 3
  unfolding chosen_at
  chosen-most w = omega (arith, range.arities w, least_most (λ p. infinite ts (get_or table.sorts (3 * w + p) 0)) (get_or table.arities w 0))

  growing-most : (t : ℕ) → t < length ts → growing_variant ts t ≤ 16
  growing-most t h =
      omega (arith, range.variants t, held-variants table t (omega (arith, held-many table)), least_most (λ v. ltb 0 (length (fields_of ts t v))) (length (variants_of ts t)))

  distance_most : (t : ℕ) → distance_of ts t ≤ 6
  unfolding distance
  distance_most t = omega (arith, few, least_most (λ k. eqb (iterate (next_type ts) k t) (root_of ts t)) (length ts))

  -- below a bound is at most one less
  per_type-less : (f : Types → ℕ → ℕ) → ((t : ℕ) → t < length ts → f ts t < length ts) → (t : ℕ) → get_or (per_type table f) t 0 < 6
  per_type-less f h t = omega (arith, filled-most 6 (f ts) (length ts) 5 (λ k l. omega (arith, few, h k l)) t)

  pub growth_in_range : GrowthInRange (growth_by table)
  unfolding growth_by
  growth_in_range =
      record {
        chosen = filled-most 48 (chosen_at table) 48 3 (λ w h. chosen-most w);
        growing = filled-most 6 (growing_variant ts) (length ts) 16 growing-most;
        next = per_type-less next_type (next-inside table range);
        steps = filled-most 6 (steps_to_number ts) (length ts) 6 (λ t h. omega (arith, few, least_most (λ k. is_number ts (iterate (next_type ts) k t)) (length ts)));
        root = per_type-less root_of (root-less (next_type ts) (length ts) (next-inside table range));
        distance = filled-most 6 (distance_of ts) (length ts) 6 (λ t h. distance_most t);
        period = filled-most 6 (period_of ts) (length ts) 6 (λ t h. omega (arith, few, period-most (next_type ts) (length ts) t (omega arith)));
      }
