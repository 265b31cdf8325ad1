-- All rows and literals under their own numbers stay, and so do rows of which none is skipped. Assumes nothing.
use mathlib.Core.Path.{◌≡◌, refl, ap, ap₂}
use mathlib.Core.List.{List, [], ◌∷◌, map}
use Prim.Native.Nat.{ℕ, zero, suc, ◌≤◌, ◌<◌}
use native.Mathlib.Omega.{arith}
use lib.ListN.{length, get_or, replicate}
use Rattle.laws.specs.All.{All, All.more, All.none}
use Rattle.laws.specs.Lists.{from}
use Rattle.guard.specs.Guard.{Literal, Row, no_row, row_at}
use Rattle.guard.specs.Types.{Types}
use Rattle.guard.specs.WellFormed.{LiteralFits}
use Rattle.guard.proofs.Accepted.{RowsFit}
use Rattle.merged.specs.Merge.{kept_rows, renamed_literal, renamed_row}
use Rattle.merged.proofs.Renumbered.{own_literal, own_row}

map-stays : {A : Type 0} (f : A → A) (xs : List A) (d : A) → ((i : ℕ) → i < length xs → f (get_or xs i d) ≡ get_or xs i d) → map f xs ≡ xs
map-stays f [] d h = refl
map-stays f (x ∷ xs) d h = ap₂ (λ y ys. y ∷ ys) (h 0 (omega arith)) (map-stays f xs d (λ i l. h (suc i) (omega (arith, l))))

module _ (n : ℕ) (ts : Types) (rs : List Row) (few : length rs ≤ n) where
  pub own_rows : RowsFit ts rs → map (renamed_row (from n 0)) rs ≡ rs
  own_rows fit = map-stays (renamed_row (from n 0)) rs no_row (λ i l. own_row ts rs n i (row_at rs i) (omega (arith, l, few)) (fit i l))

  pub own_literals : (ls : List Literal) → All (LiteralFits ts rs) ls → map (renamed_literal (from n 0)) ls ≡ ls
  own_literals [] none = refl
  own_literals (l ∷ ls) (more h hs) = ap₂ (λ (x : Literal) (xs : List Literal). x ∷ xs) (own_literal ts rs n l few h) (own_literals ls hs)

-- nothing is skipped
pub keep_all : (n : ℕ) (rs : List Row) → kept_rows (replicate n 0) rs ≡ rs
keep_all zero rs = refl
keep_all (suc n) [] = refl
keep_all (suc n) (r ∷ rs) = ap (λ (l : List Row). r ∷ l) (keep_all n rs)
