-- The facts that literals give, by their slots. Assumes nothing: definitions.
use Rattle.std.specs.Prelude.{List, [], ◌∷◌, ℕ, zero, suc, ◌-◌, ◌^◌, ◌≤◌, ◌<◌, get_or}
use Rattle.laws.specs.Lists.{concat_map, from}
use Rattle.guard.specs.Closure.{Fact, Fact.same, Fact.within, every_variant}

-- "cut down by lines and decisions", by the kind of the line
abbrev pub fact_of : ℕ → ℕ → ℕ → List Fact
fact_of zero i j = same i j ∷ []
fact_of (suc zero) i j = []
fact_of (suc (suc zero)) i v = within i (2 ^ v) ∷ []
fact_of (suc (suc (suc k))) i v = within i (every_variant - 2 ^ v) ∷ []

module _ (kinds terms others : List ℕ) where
  unfoldable pub literal_at : ℕ → List Fact
  literal_at j = fact_of (get_or kinds j 0) (get_or terms j 0) (get_or others j 0)

  unfoldable pub literals_by : ℕ → List Fact
  literals_by many = concat_map literal_at (from many 0)

-- the terms and variants of the literals are there
pub record LiteralsFit (kinds terms others : List ℕ) (many : ℕ) : Type 0 where
  pub few : many ≤ 64
  pub term : (j : ℕ) → j < many → get_or terms j 0 < 96
  pub other : (j : ℕ) → j < many → get_or others j 0 < 96
  -- of a literal that is about a variant
  pub variant : (j : ℕ) → j < many → 2 ≤ get_or kinds j 0 → get_or others j 0 < 16
