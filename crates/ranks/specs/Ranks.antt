-- Ranks of classes: numbers that fall from each class to its parts, or there are none. They are found in rounds: a class
-- that is not above all its parts gets the number of the round. Assumes nothing: definitions.
use Rattle.std.specs.Prelude.{Bool, true, false, ◌&&◌, ◌||◌, cond, List, ℕ, zero, suc, leb, get_or, set, replicate}
use Rattle.laws.specs.Lists.{any, from}
use Rattle.guard.specs.Closure.{State}
use Rattle.arrays.specs.Slots.{active, many_at, owner_at, part_at}

unfoldable pub no_ranks : List ℕ
no_ranks = replicate 96 0

-- whether ranks fall, and the ranks by class
pub record Ranking : Type 0 where
  pub falls : Bool
  pub ranks : List ℕ

module _ (shapes classes : List ℕ) where
  -- the class of a shape's term, and of its part p
  abbrev pub own_class : ℕ → ℕ
  own_class k = get_or classes (owner_at shapes k) 0

  abbrev pub part_class : ℕ → ℕ → ℕ
  part_class k p = get_or classes (part_at shapes k p) 0

  -- part p of shape k has the rank of the shape or a higher one; some part has
  abbrev pub is_above : List ℕ → ℕ → ℕ → Bool
  is_above ranks k p = leb (get_or ranks (own_class k) 0) (get_or ranks (part_class k p) 0)

  unfoldable pub part_above : List ℕ → ℕ → Bool
  part_above ranks k = any (is_above ranks k) (from (many_at shapes k) 0)

module _ (shapes : List ℕ) (s : State) where
  unfoldable pub low : List ℕ → ℕ → Bool
  low ranks k = part_above shapes s.classes ranks k && active shapes s k

  unfoldable pub raised : ℕ → ℕ → List ℕ → List ℕ
  raised round k ranks = cond (low ranks k) (set ranks (own_class shapes s.classes k) round) ranks

  -- after the first so many shapes, and whether a class was raised by one of them
  unfoldable pub raised_to : ℕ → ℕ → List ℕ → List ℕ
  raised_to round zero ranks = ranks
  raised_to round (suc k) ranks = raised round k (raised_to round k ranks)

  unfoldable pub raises_to : ℕ → ℕ → List ℕ → Bool
  raises_to round zero ranks = false
  raises_to round (suc k) ranks = raises_to round k ranks || low (raised_to round k ranks) k

  -- rounds from a number on, until one raises nothing, at most so many
  unfoldable pub rank_from : ℕ → ℕ → List ℕ → Ranking
  rank_from zero round ranks = record { falls = false; ranks = ranks }
  rank_from (suc left) round ranks =
      cond (raises_to round 30 ranks) (rank_from left (suc round) (raised_to round 30 ranks)) (record { falls = true; ranks = raised_to round 30 ranks })

  unfoldable pub ranking_of : Ranking
  ranking_of = rank_from 31 1 no_ranks
