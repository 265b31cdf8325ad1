-- The tables made from the table of types of an accepted guard say of its types what crate `growth` says. Assumes nothing.
use mathlib.Core.Path.{◌≡◌, ap, ◌∙◌}
use Prim.Native.Nat.{ℕ, ◌+◌, ◌≤◌, ◌<◌}
use native.Mathlib.Omega.{arith}
use lib.ListN.{length, get_or}
use Rattle.laws.specs.All.{All}
use Rattle.guard.specs.Guard.{Guard}
use Rattle.guard.specs.Limits.{Limits, Supported, field_limit, total_variant_limit}
use Rattle.guard.specs.Types.{Types, variants_of}
use Rattle.guard.specs.WellFormed.{WellFormed}
use Rattle.tables.specs.Layout.{TypesInRange, flat, type_table, types_of}
use Rattle.tables.proofs.Held.{place_of}
use Rattle.tables.proofs.Lookups.{first-at, flat-all, offset_of, variants_at_lem}
use Rattle.tables.proofs.TypesBack.{many_is, table_in_range, types-back}
use Rattle.growth.proofs.Growth.{chosen_field, distance_of, growing_variant, next_type, period_of, root_of, steps_to_number}
use Rattle.growthtables.specs.Growth.{GrowthFits, chosen_at, growth_by, per_type}
use Rattle.growthtables.proofs.TableLaws.{chosen-held}
use Rattle.columns.proofs.Filled.{filled_at}

module _ (ts : Types) (range : TypesInRange (type_table ts)) (few : All (λ fs. length fs ≤ field_limit) (flat ts)) where
  -- one entry for each type
  entry_at : (f : Types → ℕ → ℕ) (t : ℕ) → t < length ts → get_or (per_type (type_table ts) f) t 0 ≡ f ts t
  entry_at f t h =
      filled_at 6 (f (types_of (type_table ts))) (length (types_of (type_table ts))) t (omega (arith, ap length (types-back ts few))) ∙ ap (λ (us : Types). f us t) (types-back ts few)

  chosen-fits : (t v : ℕ) → t < length ts → v < length (variants_of ts t) → get_or (growth_by (type_table ts)).chosen (offset_of ts t + v) 0 ≡ chosen_field ts t v
  unfolding growth_by
  chosen-fits t v h l =
      let i : v < get_or (type_table ts).variants t 0 = omega (arith, variants_at_lem ts t) in
      let w : offset_of ts t + v ≡ place_of (type_table ts) t v = omega (arith, first-at ts t h) in
      filled_at 48 (chosen_at (type_table ts)) 48 (offset_of ts t + v) (omega (arith, w, range.first t)) ∙ ap (chosen_at (type_table ts)) w
      ∙ chosen-held (type_table ts) t (omega (arith, many_is ts)) v i ∙ ap (λ (us : Types). chosen_field us t v) (types-back ts few)

  pub growth-fits : GrowthFits ts (growth_by (type_table ts))
  unfolding growth_by
  growth-fits =
      record {
        chosen = chosen-fits;
        growing = entry_at growing_variant;
        next = entry_at next_type;
        steps = entry_at steps_to_number;
        root = entry_at root_of;
        distance = entry_at distance_of;
        period = entry_at period_of;
      }

-- an accepted guard; its types have no more variants in all than question 4 allows
module _ (limits : Limits) (supported : Supported limits) (g : Guard) (ok : WellFormed limits g) (total : length (flat g.types) ≤ total_variant_limit) where
  fields : All (λ fs. (length fs ≤ field_limit) × All (λ f. f < length g.types) fs) (flat g.types)
  fields = flat-all (λ fs. (length fs ≤ field_limit) × All (λ f. f < length g.types) fs) g.types (λ t v. (ok.field_counts t v, ok.field_types t v))

  pub accepted-range : TypesInRange (type_table g.types)
  accepted-range = table_in_range g.types (omega (arith, ok.type_count, supported.types)) ok.variant_counts total fields

  pub accepted-growth : GrowthFits g.types (growth_by (type_table g.types))
  accepted-growth = growth-fits g.types accepted-range (flat-all (λ fs. length fs ≤ field_limit) g.types ok.field_counts)
