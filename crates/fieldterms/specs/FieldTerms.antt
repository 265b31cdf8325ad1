-- The fields of the variant that a row reads, by the columns of the tables: the number of the variant, the term of each field, the
-- position of each sibling. Assumes nothing: definitions.
use Rattle.std.specs.Prelude.{◌≡◌, cond, List, ℕ, ◌+◌, ◌*◌, ◌≤◌, ◌<◌, eqb, ltb, get_or}

-- the term of the field at position q, for row r that reads position p
unfoldable pub field_term_at : ℕ → ℕ → ℕ → ℕ
field_term_at r p q = cond (eqb q p) r (cond (ltb q p) (24 + 2 * r + q) (23 + 2 * r + q))

-- the position of sibling k
unfoldable pub sibling_position : ℕ → ℕ → ℕ
sibling_position p k = cond (ltb k p) k (k + 1)

-- the number of the variant read among the variants of all types
unfoldable pub place_at : List ℕ → List ℕ → List ℕ → List ℕ → ℕ → ℕ
place_at types variants parts first i = get_or first (get_or types (get_or parts (3 * i) 0) 0) 0 + get_or variants i 0

-- ---- what a caller ensures

-- the numbers of the field reads are in range; `n` rows
pub record ReadsInRange (n : ℕ) (kinds types variants parts first : List ℕ) : Type 0 where
  pub many : n ≤ 24
  pub term : (i : ℕ) → i < n → get_or kinds i 0 ≡ 3 → get_or parts (3 * i) 0 < 24
  pub type : (i : ℕ) → i < n → get_or kinds i 0 ≡ 3 → get_or types (get_or parts (3 * i) 0) 0 < 6
  pub place : (i : ℕ) → i < n → get_or kinds i 0 ≡ 3 → place_at types variants parts first i < 48
