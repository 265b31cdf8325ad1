-- How messages of each type grow, as tables: each entry is what crate `growth` says of the types. Assumes nothing.
use Rattle.std.specs.Prelude.{◌≡◌, List, ℕ, ◌+◌, ◌*◌, ◌≤◌, ◌<◌, length, get_or}
use Rattle.laws.proofs.Positions.{least}
use Rattle.guard.specs.Limits.{field_limit, variant_limit}
use Rattle.guard.specs.Types.{Types, variants_of}
use Rattle.guard.proofs.FiniteTypes.{infinite}
use Rattle.tables.specs.Layout.{types_of}
use Rattle.tables.specs.declared.TypeTable.{TypeTable}
use Rattle.tables.proofs.Lookups.{offset_of}
use Rattle.growth.proofs.Growth.{chosen_field, distance_of, growing_variant, next_type, period_of, root_of, steps_to_number}
use Rattle.columns.specs.Entries.{filled}
use Rattle.growthtables.specs.declared.Growth.{Growth}

-- the first infinite field of the variant at place w, or the number of its fields
unfoldable pub chosen_at : TypeTable → ℕ → ℕ
chosen_at table w = least (λ p. infinite (types_of table) (get_or table.sorts (3 * w + p) 0)) (get_or table.arities w 0)

-- a number for each type of the table, zeros behind
abbrev pub per_type : TypeTable → (Types → ℕ → ℕ) → List ℕ
per_type table f = filled 6 (f (types_of table)) (length (types_of table))

unfoldable pub growth_by : TypeTable → Growth
growth_by table =
    record {
      chosen = filled 48 (chosen_at table) 48;
      growing = per_type table growing_variant;
      next = per_type table next_type;
      steps = per_type table steps_to_number;
      root = per_type table root_of;
      distance = per_type table distance_of;
      period = per_type table period_of;
    }

-- the tables say of these types what crate `growth` does
pub record GrowthFits (ts : Types) (g : Growth) : Type 0 where
  -- variants are counted through all types
  pub chosen : (t v : ℕ) → t < length ts → v < length (variants_of ts t) → get_or g.chosen (offset_of ts t + v) 0 ≡ chosen_field ts t v
  pub growing : (t : ℕ) → t < length ts → get_or g.growing t 0 ≡ growing_variant ts t
  pub next : (t : ℕ) → t < length ts → get_or g.next t 0 ≡ next_type ts t
  pub steps : (t : ℕ) → t < length ts → get_or g.steps t 0 ≡ steps_to_number ts t
  pub root : (t : ℕ) → t < length ts → get_or g.root t 0 ≡ root_of ts t
  pub distance : (t : ℕ) → t < length ts → get_or g.distance t 0 ≡ distance_of ts t
  -- of a root, how long its cycle is
  pub period : (t : ℕ) → t < length ts → get_or g.period t 0 ≡ period_of ts t

-- the numbers of the tables are in range
pub record GrowthInRange (g : Growth) : Type 0 where
  pub chosen : (w : ℕ) → get_or g.chosen w 0 ≤ field_limit
  pub growing : (t : ℕ) → get_or g.growing t 0 ≤ variant_limit
  pub next : (t : ℕ) → get_or g.next t 0 < 6
  pub steps : (t : ℕ) → get_or g.steps t 0 ≤ 6
  pub root : (t : ℕ) → get_or g.root t 0 < 6
  pub distance : (t : ℕ) → get_or g.distance t 0 ≤ 6
  pub period : (t : ℕ) → get_or g.period t 0 ≤ 6
