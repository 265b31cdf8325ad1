-- Names with zeros behind them rename as the names alone do. Assumes nothing.
use mathlib.Core.Path.{◌≡◌, refl, ap, ap₂}
use mathlib.Core.List.{List, map}
use Prim.Native.Nat.{ℕ}
use Rattle.laws.proofs.Lists.{map_cong}
use Rattle.guard.specs.Guard.{Literal, Literal.equal, Literal.is, Literal.isnt, Literal.unequal, Row, Row.built, Row.constant, Row.field, Row.variable}
use Rattle.tables.specs.Layout.{pad}
use Rattle.tables.proofs.Columns.{pad_get}
use Rattle.merged.specs.Merge.{named, renamed_literal, renamed_row}

module _ (n : ℕ) (names : List ℕ) where
  same_name : (i : ℕ) → named (pad n names) i ≡ named names i
  same_name i = pad_get 0 n i names

  same_row : (r : Row) → renamed_row (pad n names) r ≡ renamed_row names r
  same_row (variable t) = refl
  same_row (constant t z) = refl
  same_row (built t v ps) = ap (built t v) (map_cong (named (pad n names)) (named names) ps (λ p m. same_name p))
  same_row (field t a v p) = ap (λ (k : ℕ). field t k v p) (same_name a)

  same-literal : (l : Literal) → renamed_literal (pad n names) l ≡ renamed_literal names l
  same-literal (equal i j) = ap₂ equal (same_name i) (same_name j)
  same-literal (unequal i j) = ap₂ unequal (same_name i) (same_name j)
  same-literal (is i v) = ap (λ (k : ℕ). is k v) (same_name i)
  same-literal (isnt i v) = ap (λ (k : ℕ). isnt k v) (same_name i)

  pub padded-rows : (rs : List Row) → map (renamed_row (pad n names)) rs ≡ map (renamed_row names) rs
  padded-rows rs = map_cong (renamed_row (pad n names)) (renamed_row names) rs (λ r m. same_row r)

  pub padded-literals : (ls : List Literal) → map (renamed_literal (pad n names)) ls ≡ map (renamed_literal names) ls
  padded-literals ls = map_cong (renamed_literal (pad n names)) (renamed_literal names) ls (λ l m. same-literal l)
