-- Three of the reasons to close a node, by the slots of the problem's arrays. proofs/ shows that they are those of document 01.
-- Assumes nothing: definitions.
use Rattle.std.specs.Prelude.{Bool, not, ◌&&◌, List, ℕ, ◌<◌, eqb, ℤ, get_or}
use Rattle.laws.specs.Lists.{any, from}
use Rattle.guard.specs.Closure.{State, eq_z, label_of}
use Rattle.arrays.specs.Slots.{sort_at}
use Rattle.constants.specs.Constants.{constant_term, constant_value, is_constant}

-- "a label is empty": that of term x; a number type has no variants, and its label is not looked at
unfoldable pub empty_at : List ℕ → List ℕ → State → ℕ → Bool
empty_at sorts full s x = not (eqb (get_or full (sort_at sorts x) 0) 0) && eqb (label_of s x) 0

-- "two terms of an unequal line are equal": literal j
unfoldable pub broken_at : List ℕ → List ℕ → List ℕ → List ℕ → ℕ → Bool
broken_at kinds terms others classes j = eqb (get_or kinds j 0) 1 && eqb (get_or classes (get_or terms j 0) 0) (get_or classes (get_or others j 0) 0)

pub record LinesFit (terms others : List ℕ) : Type 0 where
  pub term : (j : ℕ) → get_or terms j 0 < 96
  pub other : (j : ℕ) → get_or others j 0 < 96

-- ---- "one class holds two constants of different value"

abbrev pub constant_class : List ℕ → ℕ → ℕ
constant_class classes k = get_or classes (constant_term k) 0

module _ (constants : List ℕ) (values : List ℤ) (classes : List ℕ) where
  -- a constant in slot j of the class of slot k, and of another value
  unfoldable pub unlike : ℕ → ℕ → Bool
  unlike k j = is_constant constants j && (eqb (constant_class classes j) (constant_class classes k) && not (eq_z (constant_value values j) (constant_value values k)))

  -- a constant in slot k, and an unlike one before it
  unfoldable pub unlike_before : ℕ → Bool
  unlike_before k = is_constant constants k && any (unlike k) (from k 0)

  -- class c holds two of the first n constants that differ
  unfoldable pub unlike_at : ℕ → ℕ → Bool
  unlike_at n c = any (λ k. unlike_before k && eqb (constant_class classes k) c) (from n 0)
