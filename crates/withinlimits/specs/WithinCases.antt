-- Files at the limits 3, 8 and 8, and beyond them, by computation. Assumes nothing.
use Rattle.std.specs.Prelude.{◌≡◌, refl, true, false, List, [], ◌∷◌, ◌++◌, map, ℕ, replicate}
use Rattle.laws.specs.Lists.{concat_map, from}
use Rattle.guard.specs.Cases.{file_c}
use Rattle.guard.specs.Limits.{Limits}
use Rattle.withinlimits.specs.Within.{within}

abbrev small : Limits
small = record { types = 3; terms = 8; lines = 8; rows = 1024 }

-- so many number types, so many variables of type 0, and so many lines that variable 0 equals itself
abbrev sized : ℕ → ℕ → ℕ → List ℕ
sized types terms lines = types ∷ (replicate types 0 ++ (terms ∷ (concat_map (λ (i : ℕ). 0 ∷ 0 ∷ []) (from terms 0) ++ (lines ∷ concat_map (λ (i : ℕ). 0 ∷ 0 ∷ 0 ∷ []) (from lines 0)))))

-- case c; at each limit; beyond each; what is cut short before a count, or refused before it, is within; and so is no file
pub cases : map (within small) (file_c ∷ sized 3 8 8 ∷ sized 4 1 1 ∷ sized 1 9 1 ∷ sized 1 1 9 ∷ (1 ∷ 0 ∷ []) ∷ (1 ∷ 0 ∷ 9 ∷ []) ∷ (1 ∷ 1 ∷ 1 ∷ 9 ∷ []) ∷ [] ∷ [])
    ≡ true ∷ true ∷ false ∷ false ∷ false ∷ true ∷ false ∷ true ∷ true ∷ []
unfolding within
cases = refl
