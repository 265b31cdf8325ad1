-- Levels of classes: ranks upside down, so that a class lies below its parts. All begin at the same level, and a class that is not
-- below a part sinks to one below it, until all are in order or one is at the bottom. Assumes nothing: definitions.
use Rattle.std.specs.Prelude.{◌≡◌, Bool, true, false, List, ◌⊎◌, ℕ, suc, ◌-◌, ◌≤◌, ◌<◌, eqb, get_or, replicate, set}
use Rattle.laws.specs.Lists.{any, from, sum}
use Rattle.guard.specs.Closure.{State}
use Rattle.arrays.specs.Slots.{active, many_at}
use Rattle.ranks.specs.Ranks.{own_class, part_class}

unfoldable pub top_levels : List ℕ
top_levels = replicate 96 31

-- one of the first n classes is at the bottom
unfoldable pub bottomed : List ℕ → ℕ → Bool
bottomed levels n = any (λ c. eqb (get_or levels c 0) 0) (from n 0)

abbrev pub own_level : List ℕ → List ℕ → List ℕ → ℕ → ℕ
own_level shapes classes levels k = get_or levels (own_class shapes classes k) 0

abbrev pub part_level : List ℕ → List ℕ → List ℕ → ℕ → ℕ → ℕ
part_level shapes classes levels k p = get_or levels (part_class shapes classes k p) 0

-- the lowest level of the first n parts of shape k
pub record LowestPart (shapes classes levels : List ℕ) (k n low : ℕ) : Type 0 where
  pub each : (p : ℕ) → p < n → low ≤ part_level shapes classes levels k p
  pub some : (p : ℕ) × (p < n) × (part_level shapes classes levels k p ≡ low)

module _ (shapes : List ℕ) (s : State) where
  -- steps in which a class sinks to one below a part
  pub data Sinks (levels : List ℕ) : List ℕ → Type 0 where
    done : Sinks levels levels
    then : {next : List ℕ} → Sinks levels next → (k p v : ℕ) → k < 30 → p < many_at shapes k → active shapes s k ≡ true → part_level shapes s.classes next k p ≡ suc v
        → v < own_level shapes s.classes next k → Sinks levels (set next (own_class shapes s.classes k) v)

  -- the class of shape k is below all its parts, or a part is at the bottom
  abbrev pub InOrder : ℕ → List ℕ → Type 0
  InOrder k levels = active shapes s k ≡ true
      → ((p : ℕ) → p < many_at shapes k → own_level shapes s.classes levels k < part_level shapes s.classes levels k p) ⊎ ((p : ℕ) × (p < many_at shapes k) × (part_level shapes s.classes levels k p ≡ 0))

  -- the last n shapes
  abbrev pub LastInOrder : ℕ → List ℕ → Type 0
  LastInOrder n levels = (j : ℕ) → j < n → InOrder (29 - j) levels

  -- the sum falls if anything changed; if nothing changed, the claim holds
  pub record Sunk (Claim : List ℕ → Type 0) (levels next : List ℕ) (changed : Bool) : Type 0 where
    pub steps : Sinks levels next
    pub falls : changed ≡ true → sum next < sum levels
    pub quiet : changed ≡ false → (next ≡ levels) × Claim levels
