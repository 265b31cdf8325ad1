-- The rows of two guards as one: both guards' rows stand among them, the first's under their own numbers and the second's under
-- their names, and each is a row of one of the two. So they fit. Assumes nothing.
use mathlib.Core.Path.{◌≡◌, ap, sym, subst, ◌∙◌}
use mathlib.Core.Bool.{true}
use mathlib.Core.List.{List, map}
use mathlib.Core.Logic.{◌⊎◌, inl, inr}
use Prim.Native.Nat.{ℕ, ◌+◌, ◌<◌}
use native.Mathlib.Omega.{arith}
use lib.Dec.{ltb}
use lib.ListN.{length, length-append, get_or-append, get_or-map}
use lib.Seq.{get_or-append-add}
use borrow.Author.Tests.{ltb-false, ltb-true}
use Rattle.laws.specs.Lists.{from}
use Rattle.laws.proofs.Bools.{by_test, either}
use Rattle.laws.proofs.Lists.{all_of, map-length}
use Rattle.guard.specs.Guard.{Guard, Row, no_row, row_at}
use Rattle.guard.specs.Limits.{Limits}
use Rattle.guard.specs.Types.{Types}
use Rattle.guard.specs.WellFormed.{WellFormed}
use Rattle.guard.proofs.Accepted.{RowsFit}
use Rattle.merged.specs.Merge.{merged, names, renamed_literal, renamed_row, same_variables, written}
use Rattle.merged.proofs.Naming.{Names, Naming, naming, stands, variable-row, written-named}
use Rattle.merged.proofs.Renumbered.{Among, StandsAt, own_named, own_row, row_fits_lem}
use Rattle.merged.proofs.Renaming as renaming

-- a guard over given types
abbrev pub over : Types → Guard → Guard
over ts g = record { types = ts; rows = g.rows; literals = g.literals }

pub over_own : (ts : Types) (g : Guard) → ts ≡ g.types → over ts g ≡ g
over_own ts g e = ap (λ (us : Types). over us g) e

pub over_formed : (limits : Limits) (ts : Types) (g : Guard) → ts ≡ g.types → WellFormed limits g → WellFormed limits (over ts g)
over_formed limits ts g e = subst (WellFormed limits) (sym (over_own ts g e))

-- the numbers of a guard's rows
abbrev pub own : Guard → List ℕ
own g = from (length g.rows) 0

pub own_literals : (limits : Limits) (g : Guard) → WellFormed limits g → map (renamed_literal (own g)) g.literals ≡ g.literals
own_literals limits g wg = renaming.own_literals (length g.rows) g.types g.rows (omega arith) g.literals (all_of g.literals wg.literals)

module _ (g h : Guard) where
  -- the rows behind the first's
  abbrev renumbered : List Row
  renumbered = map (renamed_row (names g h)) (written g h)

  all-rows : length (merged g h).rows ≡ length g.rows + length (written g h)
  unfolding merged
  all-rows = length-append g.rows renumbered ∙ ap (λ (n : ℕ). length g.rows + n) (map-length (renamed_row (names g h)) (written g h))

  first-row : (i : ℕ) → i < length g.rows → row_at (merged g h).rows i ≡ row_at g.rows i
  unfolding merged
  first-row i l = get_or-append g.rows renumbered no_row i l

  written_row : (k : ℕ) → row_at (merged g h).rows (length g.rows + k) ≡ renamed_row (names g h) (row_at (written g h) k)
  unfolding merged
  written_row k = get_or-append-add g.rows renumbered k no_row ∙ get_or-map (renamed_row (names g h)) (written g h) k no_row

  pub first_among : (limits : Limits) → WellFormed limits g → Among (merged g h).rows (own g) g.rows
  first_among limits wg i l =
      subst (λ (q : ℕ). StandsAt (merged g h).rows (own g) q (row_at g.rows i)) (sym (own_named (length g.rows) i l))
      (omega (arith, all-rows), first-row i l ∙ sym (own_row g.types g.rows (length g.rows) i (row_at g.rows i) (omega arith) (wg.rows i l)))

  module _ (agree : same_variables g h ≡ true) where
    named-rows : Naming g.rows (length g.rows) h.rows (names g h) (written g h)
    unfolding names written same_variables
    named-rows = naming g.rows g.types (length g.rows) h.rows agree

    pub second_among : Among (merged g h).rows (names g h) h.rows
    second_among =
        stands g.rows (StandsAt (merged g h).rows (names g h))
        (λ x t e. let l : x < length g.rows = variable-row g.rows x t e in (omega (arith, all-rows), first-row x l ∙ e)) named-rows
        (λ k l. (omega (arith, all-rows), written_row k))

    pub row_of : (q : ℕ) → q < length (merged g h).rows → Names (own g) g.rows q ⊎ Names (names g h) h.rows q
    row_of q l =
        by_test (ltb q (length g.rows))
        (λ b. let i : q < length g.rows = ltb-true q _ b in inl (record { row = q; inside = i; name = own_named _ q i; higher = λ j d. omega (arith, own_named (length g.rows) j (omega arith)) }))
        (λ b. inr (written-named g.rows named-rows (omega arith) q (ltb-false q _ b) (omega (arith, all-rows))))

    pub merged-rows-fit : (limits : Limits) → WellFormed limits g → WellFormed limits (over g.types h) → RowsFit g.types (merged g h).rows
    merged-rows-fit limits wg wh q l =
        either (row_fits_lem g.types (merged g h).rows (own g) g.rows (first_among limits wg) wg.rows q)
        (row_fits_lem g.types (merged g h).rows (names g h) h.rows second_among wh.rows q) (row_of q l)
