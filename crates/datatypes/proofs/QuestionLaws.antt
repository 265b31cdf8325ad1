-- Question 9 on columns, a turn at a time; and that on the column of finite types it is document 01's. Assumes nothing.
use mathlib.Core.Path.{◌≡◌, ap, sym, ◌∙◌}
use mathlib.Core.Bool.{Bool, true, false, not, ◌||◌}
use mathlib.Core.List.{List}
use Prim.Native.Nat.{ℕ, ◌+◌, ◌*◌, ◌-◌}
use lib.Dec.{eqb}
use lib.ListN.{length, get_or}
use borrow.Author.Tests.{eq-eqb, ne_eqb}
use Rattle.laws.specs.Lists.{all, any, from}
use Rattle.guard.specs.Types.{Types, infinite_fields, variants_of}
use Rattle.datatypes.specs.Facts.{all_growing, growing}
use Rattle.finite.specs.TypeColumns.{fields_at, types_in}
use Rattle.finite.specs.Finite.{finite_column, flagged}
use Rattle.finite.proofs.FiniteLaws.{finite-flagged}
use Rattle.finite.proofs.FlatTypes.{fields-any, fields_in_range, fields-length, types-all, variants-all}
use Rattle.finite.proofs.Walks.{all_none, all_turn, any_none, any_turn, from_start}

module _ (arities sorts known : List ℕ) (w : ℕ) where
  -- a field of infinite type
  abbrev pub infinite_at : ℕ → Bool
  infinite_at j = not (flagged known (get_or sorts (3 * w + j) 0))

  pub growing-none : get_or arities w 0 ≡ 0 → growing known (fields_at arities sorts w) ≡ true
  unfolding growing
  growing-none e = ap (λ (b : Bool). b || any (λ t. not (flagged known t)) (fields_at arities sorts w)) (eq-eqb _ _ (fields-length arities sorts w ∙ e))

  pub growing-start : ¬ (get_or arities w 0 ≡ 0) → growing known (fields_at arities sorts w) ≡ any infinite_at (from (get_or arities w 0 - 0) 0)
  unfolding growing
  growing-start n =
      ap (λ (b : Bool). b || any (λ t. not (flagged known t)) (fields_at arities sorts w)) (ne_eqb (length (fields_at arities sorts w)) 0 (λ e. n (sym (fields-length arities sorts w) ∙ e)))
      ∙ fields-any arities sorts w (λ t. not (flagged known t)) ∙ ap (any infinite_at) (sym (from_start (get_or arities w 0)))

  pub infinite-yes : (j : ℕ) → ¬ (get_or known (get_or sorts (3 * w + j) 0) 0 ≡ 1) → infinite_at j ≡ true
  unfolding flagged
  infinite-yes j n = ap not (ne_eqb _ _ n)

  pub infinite-no : (j : ℕ) → get_or known (get_or sorts (3 * w + j) 0) 0 ≡ 1 → infinite_at j ≡ false
  unfolding flagged
  infinite-no j e = ap not (eq-eqb _ _ e)

-- all variants of all types
pub all-growing-start : (many : ℕ) (variants first arities sorts known : List ℕ)
    → all_growing known (types_in many variants first arities sorts) ≡ all (λ t. all (growing known) (variants_of (types_in many variants first arities sorts) t)) (from (many - 0) 0)
unfolding all_growing
all-growing-start many variants first arities sorts known = types-all many variants first arities sorts (all (growing known))

-- of the column of finite types it is document 01's question 9
pub growing-question : (ts : Types) → all_growing (finite_column ts) ts ≡ infinite_fields ts
unfolding all_growing growing
growing-question ts = ap (λ (p : ℕ → Bool). all (all (λ fs. eqb (length fs) 0 || any (λ t. not (p t)) fs)) ts) (finite-flagged ts)

-- a variant, a type and all types, a turn at a time
pub ruleset one_variant = (growing-none, growing-start, infinite-yes, infinite-no, any_turn, any_none)

pub ruleset one_type = (variants-all, fields_in_range, all_turn, all_none)

pub ruleset all_types = (all-growing-start, all_turn, all_none)
