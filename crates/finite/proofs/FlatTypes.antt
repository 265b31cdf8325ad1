-- The types that columns in range hold: the variants of each, and the fields of each variant. Assumes nothing.
use mathlib.Core.Path.{◌≡◌, ap, ◌∙◌, sym, subst}
use mathlib.Core.Bool.{Bool}
use mathlib.Core.List.{List, map, []}
use Prim.Native.Nat.{ℕ, ◌+◌, ◌*◌, ◌<◌, ◌-◌, ◌≤◌}
use native.Mathlib.Omega.{arith}
use lib.Dec.{eqb}
use lib.ListN.{length, get_or}
use Rattle.laws.specs.All.{All}
use Rattle.laws.specs.Lists.{all, any, from}
use Rattle.laws.proofs.Lists.{all_map, from_bounds, map-from-length}
use Rattle.guard.specs.Limits.{variant_limit}
use Rattle.guard.specs.Types.{Types, Variant, is_number, variants_of}
use Rattle.finite.specs.TypeColumns.{FieldsInRange, InRange, columns, fields_at, types_in}
use Rattle.tables.proofs.Held.{held-many, held-type, held-variants}
use Rattle.finite.proofs.Walks.{all_mapped, all_positions, any_mapped, from_start}

module _ (many : ℕ) (variants first arities sorts : List ℕ) where
  pub variants-are : (t : ℕ) → t < many
      → variants_of (types_in many variants first arities sorts) t ≡ map (λ v. fields_at arities sorts (get_or first t 0 + v)) (from (get_or variants t 0) 0)
  unfolding fields_at
  variants-are t h = held-type (columns many variants first arities sorts) t h

  pub number_is : (t : ℕ) → t < many → is_number (types_in many variants first arities sorts) t ≡ eqb (get_or variants t 0) 0
  number_is t h = ap (λ (k : ℕ). eqb k 0) (held-variants (columns many variants first arities sorts) t h)

  pub fields_in_range : InRange many variants first arities sorts → FieldsInRange arities sorts
  fields_in_range r = record { few = r.arities; typed = λ w j h. omega (arith, r.many, r.sorts w j h) }

pub fields-length : (arities sorts : List ℕ) (w : ℕ) → length (fields_at arities sorts w) ≡ get_or arities w 0
unfolding fields_at
fields-length arities sorts w = map-from-length _ (get_or arities w 0) 0

-- a test of all fields, or of any, by position
pub fields-all : (arities sorts : List ℕ) (w : ℕ) (p : ℕ → Bool) → all p (fields_at arities sorts w) ≡ all (λ j. p (get_or sorts (3 * w + j) 0)) (from (get_or arities w 0) 0)
unfolding fields_at
fields-all arities sorts w p = all_mapped p (λ j. get_or sorts (3 * w + j) 0) (from (get_or arities w 0) 0)

pub fields-any : (arities sorts : List ℕ) (w : ℕ) (p : ℕ → Bool) → any p (fields_at arities sorts w) ≡ any (λ j. p (get_or sorts (3 * w + j) 0)) (from (get_or arities w 0) 0)
unfolding fields_at
fields-any arities sorts w p = any_mapped p (λ j. get_or sorts (3 * w + j) 0) (from (get_or arities w 0) 0)

-- a test of all variants of a type, by their numbers
pub variants-all : (many : ℕ) (variants first arities sorts : List ℕ) (t : ℕ) (q : Variant → Bool) → t < many
    → all q (variants_of (types_in many variants first arities sorts) t) ≡ all (λ v. q (fields_at arities sorts (get_or first t 0 + v))) (from (get_or variants t 0 - 0) 0)
variants-all many variants first arities sorts t q h =
    ap (all q) (variants-are many variants first arities sorts t h) ∙ all_mapped q (λ v. fields_at arities sorts (get_or first t 0 + v)) (from (get_or variants t 0) 0)
    ∙ ap (all (λ v. q (fields_at arities sorts (get_or first t 0 + v)))) (sym (from_start (get_or variants t 0)))

-- a test of all types, by their numbers
pub types-all : (many : ℕ) (variants first arities sorts : List ℕ) (q : List Variant → Bool)
    → all q (types_in many variants first arities sorts) ≡ all (λ t. q (variants_of (types_in many variants first arities sorts) t)) (from (many - 0) 0)
types-all many variants first arities sorts q =
    let ts : Types = types_in many variants first arities sorts in
    let e : length ts ≡ many - 0 = omega (arith, held-many (columns many variants first arities sorts)) in
    all_positions q ts [] ∙ ap (λ (n : ℕ). all (λ t. q (variants_of ts t)) (from n 0)) e

-- what is in range in the columns is in range in the types
module _ (many : ℕ) (variants first arities sorts : List ℕ) (r : InRange many variants first arities sorts) (t : ℕ) (h : t < many) where
  pub few-variants : length (variants_of (types_in many variants first arities sorts) t) ≤ variant_limit
  few-variants = omega (arith, held-variants (columns many variants first arities sorts) t h, r.variants t)

  pub fields-inside : All (All (λ f. f < length (types_in many variants first arities sorts))) (variants_of (types_in many variants first arities sorts) t)
  unfolding fields_at
  fields-inside =
      subst (All (All (λ f. f < length (types_in many variants first arities sorts)))) (sym (variants-are many variants first arities sorts t h))
      (all_map (λ v. fields_at arities sorts (get_or first t 0 + v)) (from (get_or variants t 0) 0) (λ v m.
      all_map (λ j. get_or sorts (3 * (get_or first t 0 + v) + j) 0) (from (get_or arities (get_or first t 0 + v) 0) 0) (λ j k.
      omega (arith, held-many (columns many variants first arities sorts), r.sorts (get_or first t 0 + v) j (omega (arith, (from_bounds (get_or arities (get_or first t 0 + v) 0) 0 j k).1))))))
