-- The eight places of a shape, one by one, and of a row. Assumes nothing.
use mathlib.Core.Path.{◌≡◌, refl, ap, sym, ◌∙◌}
use mathlib.Core.Bool.{Bool, true, false, cond}
use mathlib.Core.List.{List}
use Prim.Native.Nat.{ℕ, zero, suc, ◌+◌, ◌≤◌, ◌<◌}
use native.Mathlib.Nat.{add-zero}
use native.Mathlib.Omega.{arith}
use lib.Dec.{eqb, ltb}
use lib.ListN.{get_or, set}
use borrow.Author.Tests.{le-ltb}
use Rattle.columns.proofs.Filled.{written_same}
use Rattle.columns.specs.Entries.{written}
use Rattle.rowshapes.specs.RowShapes.{arity_of, eight_places, kind_number, others_of, owner_of, part_place, row_part, row_place, shape_place}

-- stored one after the other
pub eight_written : (column : List ℕ) (at owner kind others many a b c d : ℕ)
    → set (set (set (set (set (set (set (set column at owner) (at + 1) kind) (at + 2) others) (at + 3) many) (at + 4) a) (at + 5) b) (at + 6) c) (at + 7) d ≡ written 8 column at (eight_places owner kind others many a b c d)
eight_written column at owner kind others many a b c d =
    ap (λ (k : ℕ). set (set (set (set (set (set (set (set column k owner) (at + 1) kind) (at + 2) others) (at + 3) many) (at + 4) a) (at + 5) b) (at + 6) c) (at + 7) d) (sym (add-zero at))

-- `part` gives what stands from place 4 on
pub shape_places : (owner t v others many : ℕ) (part : ℕ → ℕ) (a b c d : ℕ) → a ≡ part 4 → b ≡ part 5 → c ≡ part 6 → d ≡ part 7 → (j : ℕ) → j < 8
    → eight_places owner (kind_number t v) others many a b c d j ≡ shape_place owner t v others many (part j) j
unfolding shape_place
shape_places owner t v others many part a b c d p q r z zero h = refl
shape_places owner t v others many part a b c d p q r z (suc zero) h = refl
shape_places owner t v others many part a b c d p q r z (suc (suc zero)) h = refl
shape_places owner t v others many part a b c d p q r z (suc (suc (suc zero))) h = refl
shape_places owner t v others many part a b c d p q r z (suc (suc (suc (suc zero)))) h = p
shape_places owner t v others many part a b c d p q r z (suc (suc (suc (suc (suc zero))))) h = q
shape_places owner t v others many part a b c d p q r z (suc (suc (suc (suc (suc (suc zero)))))) h = r
shape_places owner t v others many part a b c d p q r z (suc (suc (suc (suc (suc (suc (suc zero))))))) h = z
shape_places owner t v others many part a b c d p q r z (suc (suc (suc (suc (suc (suc (suc (suc j)))))))) h = absurd (omega arith)

same : (b : Bool) (x : ℕ) → cond b x x ≡ x
same true x = refl
same false x = refl

no-last-part : (kind : ℕ) (parts fields : List ℕ) (i : ℕ) → ◌≡◌ {A = ℕ} 0 (row_part kind parts fields i 7)
unfolding row_part part_place
no-last-part kind parts fields i = sym (same (eqb kind 3) 0)

module _ (kinds types variants parts fields first arities : List ℕ) (i : ℕ) (kind owner t v others many : ℕ) (is-kind : kind ≡ get_or kinds i 0) (is-owner : owner ≡ owner_of kind parts i)
    (is-type : t ≡ get_or types owner 0) (is-variant : v ≡ get_or variants i 0) (are-others : others ≡ others_of kind v) (are-many : many ≡ arity_of first arities t v) where
  shaped : (j : ℕ) → ltb (get_or kinds i 0) 2 ≡ false → shape_place owner t v others many (row_part kind parts fields i j) j ≡ row_place kinds types variants parts fields first arities i j
  unfolding row_place
  shaped j h = cc

  -- by what the code has computed
  pub row_written : (column : List ℕ) (at a b c : ℕ) → 2 ≤ get_or kinds i 0 → a ≡ row_part kind parts fields i 4 → b ≡ row_part kind parts fields i 5 → c ≡ row_part kind parts fields i 6
      → written 8 column at (eight_places owner (kind_number t v) others many a b c 0) ≡ written 8 column at (row_place kinds types variants parts fields first arities i)
  row_written column at a b c h p q r =
      written_same 8 at column _ _ (λ j l. shape_places owner t v others many (row_part kind parts fields i) a b c 0 p q r (no-last-part kind parts fields i) j l ∙ shaped j (le-ltb (get_or kinds i 0) 2 h))
