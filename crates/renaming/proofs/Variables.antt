-- The variables of some rows from one of them on. Assumes nothing.
use mathlib.Core.Path.{◌≡◌, refl, ap, ◌∙◌}
use mathlib.Core.List.{List, [], ◌∷◌}
use Prim.Native.Nat.{ℕ, suc, ◌+◌, ◌≤◌, ◌<◌}
use native.Mathlib.Omega.{arith}
use native.Mathlib.Numerals.{add-one}
use lib.ListN.{drop, length, drop_of_length-le}
use lib.Seq.{drop-cons}
use Rattle.laws.specs.All.{All, All.more, All.none}
use Rattle.guard.specs.Guard.{Row, Row.built, Row.constant, Row.field, Row.variable, no_row, row_at}
use Rattle.tables.specs.Layout.{row_kind}
use Rattle.merged.specs.Merge.{variables_from}

other : (x : ℕ) (r : Row) (rs : List Row) → ¬ (row_kind r ≡ 0) → variables_from x (r ∷ rs) ≡ variables_from (suc x) rs
other x (variable t) rs n = absurd (n refl)
other x (constant t z) rs n = refl
other x (built t v ps) rs n = refl
other x (field t a v p) rs n = refl

one : (x : ℕ) (r : Row) (rs : List Row) → row_kind r ≡ 0 → variables_from x (r ∷ rs) ≡ x ∷ variables_from (suc x) rs
one x (variable t) rs e = refl
one x (constant t z) rs e = absurd (omega (arith, e))
one x (built t v ps) rs e = absurd (omega (arith, e))
one x (field t a v p) rs e = absurd (omega (arith, e))

module _ (rs : List Row) (x : ℕ) (inside : x < length rs) where
  -- row x is no variable
  pub variables-past : ¬ (row_kind (row_at rs x) ≡ 0) → variables_from x (drop x rs) ≡ variables_from (x + 1) (drop (x + 1) rs)
  variables-past n = rw add-one (ap (variables_from x) (drop-cons rs x no_row inside) ∙ other x (row_at rs x) (drop (suc x) rs) n)

  -- it is one
  pub variables-at : row_kind (row_at rs x) ≡ 0 → variables_from x (drop x rs) ≡ x ∷ variables_from (x + 1) (drop (x + 1) rs)
  variables-at e = rw add-one (ap (variables_from x) (drop-cons rs x no_row inside) ∙ one x (row_at rs x) (drop (suc x) rs) e)

-- there are none behind the rows
pub variables_end : (rs : List Row) (x : ℕ) → length rs ≤ x → variables_from x (drop x rs) ≡ []
variables_end rs x h = ap (variables_from x) (drop_of_length-le rs h)

pub variables-small : (k i : ℕ) (rs : List Row) → i + length rs ≤ k → All (λ x. x < k) (variables_from i rs)
variables-small k i [] h = none
variables-small k i (variable t ∷ rs) h = more {x = i} (omega arith) (variables-small k (suc i) rs (omega arith))
variables-small k i (constant t z ∷ rs) h = variables-small k (suc i) rs (omega arith)
variables-small k i (built t v ps ∷ rs) h = variables-small k (suc i) rs (omega arith)
variables-small k i (field t a v p ∷ rs) h = variables-small k (suc i) rs (omega arith)

pub ruleset variables_on = (variables-past)
