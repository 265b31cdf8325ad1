-- The slots of the problem's arrays: what stands in each, when a shape is active and when a term is of one fieldless variant alone.
-- Assumes nothing: definitions.
use Rattle.std.specs.Prelude.{◌≡◌, Bool, true, not, ◌&&◌, List, ℕ, ◌+◌, ◌*◌, ◌^◌, ◌≤◌, ◌<◌, eqb, get_or}
use Rattle.std.specs.Int.Bits.{bit_and}
use Rattle.laws.specs.Bits.{bit}
use Rattle.laws.specs.Lists.{any, from}
use Rattle.guard.specs.Closure.{State, alone, label_of}
use Rattle.guard.specs.Limits.{variant_limit}

-- ---- shapes

module _ (shapes : List ℕ) where
  abbrev pub owner_at : ℕ → ℕ
  owner_at k = get_or shapes (8 * k) 0

  abbrev pub kind_at : ℕ → ℕ
  kind_at k = get_or shapes (8 * k + 1) 0

  abbrev pub others_at : ℕ → ℕ
  others_at k = get_or shapes (8 * k + 2) 0

  abbrev pub many_at : ℕ → ℕ
  many_at k = get_or shapes (8 * k + 3) 0

  abbrev pub part_at : ℕ → ℕ → ℕ
  part_at k p = get_or shapes (8 * k + 4 + p) 0

  -- there is a shape, and no other variant is left of its term's label
  unfoldable pub active : State → ℕ → Bool
  active s k = not (eqb (kind_at k) 0) && eqb (bit_and (label_of s (owner_at k)) (others_at k)) 0

-- the terms of the shapes are terms of the arrays
pub record ShapesFit (shapes : List ℕ) : Type 0 where
  pub owner : (k : ℕ) → k < 30 → owner_at shapes k < 96
  pub others : (k : ℕ) → k < 30 → others_at shapes k < 2 ^ variant_limit
  pub many : (k : ℕ) → k < 30 → many_at shapes k ≤ 3
  pub part : (k p : ℕ) → k < 30 → p < 3 → part_at shapes k p < 96
  -- shapes of one variant have equally many parts, and 0 stands past them
  pub arity : (k i : ℕ) → k < 30 → i < 30 → kind_at shapes k ≡ kind_at shapes i → many_at shapes k ≡ many_at shapes i
  pub past : (k p : ℕ) → k < 30 → p < 3 → many_at shapes k ≤ p → part_at shapes k p ≡ 0

-- ---- field reads

module _ (reads : List ℕ) where
  abbrev pub read_term : ℕ → ℕ
  read_term k = get_or reads (4 * k) 0

  abbrev pub read_key : ℕ → ℕ
  read_key k = get_or reads (4 * k + 1) 0

  abbrev pub read_bit : ℕ → ℕ
  read_bit k = get_or reads (4 * k + 2) 0

  abbrev pub read_default : ℕ → ℕ
  read_default k = get_or reads (4 * k + 3) 0

pub record ReadsFit (reads : List ℕ) : Type 0 where
  pub term : (k : ℕ) → k < 24 → read_term reads k < 96
  pub default : (k : ℕ) → k < 24 → read_default reads k < 96
  -- one variant alone is read
  pub bit : (k : ℕ) → k < 24 → ¬ (read_key reads k ≡ 0) → any (λ v. eqb (read_bit reads k) (2 ^ v)) (from variant_limit 0) ≡ true

-- ---- terms of one fieldless variant

-- the type of a term, plus one
abbrev pub sort_at : List ℕ → ℕ → ℕ
sort_at sorts x = get_or sorts x 0

module _ (sorts fieldless : List ℕ) where
  -- the fieldless variants of a term's type
  abbrev pub fieldless_at : ℕ → ℕ
  fieldless_at x = get_or fieldless (sort_at sorts x) 0

  -- term x is of the fieldless variant v alone
  unfoldable pub only_is : State → ℕ → ℕ → Bool
  only_is s x v = not (eqb (bit (fieldless_at x) v) 0) && alone s x v

pub record SortsFit (sorts : List ℕ) : Type 0 where
  pub sort : (x : ℕ) → sort_at sorts x < 7
