-- What reading variants gives, in terms of the parsers of the guard file. Assumes nothing: definitions.
use Rattle.std.specs.Prelude.{◌≡◌, List, ◌++◌, map, ℕ, ◌+◌, ◌≤◌, length, get_or, set}
use Rattle.laws.specs.All.{All}
use Rattle.laws.specs.Lists.{concat_map}
use Rattle.guard.specs.Types as guard
use Rattle.guard.specs.Number.{Parsed.accepted, Parser, ◌>>=◌, return, times}
use Rattle.guard.specs.File.{name, variant}
use Rattle.tables.specs.Layout.{pad}
use Rattle.variantreader.specs.declared.Variant.{Variant}

-- ---- parsers of what is stored

-- the types of a variant's fields, filled up with zeros
abbrev pub sorts_by : ℕ → ℕ → Parser (List ℕ)
sorts_by arity many = times arity (name many) >>= λ fs. return (pad 3 fs)

abbrev pub variant_by : ℕ → Parser Variant
variant_by many = variant many >>= λ fs. return (record { arity = length fs; sorts = pad 3 fs })

-- variants of which the columns tell
abbrev pub variants_by : ℕ → ℕ → Parser (Unit {0})
variants_by n many = times n (variant many) >>= λ vs. return tt

-- ---- variants, stored behind those that are there

-- the two columns hold these variants
pub record Holds (ws : List guard.Variant) (arities sorts : List ℕ) : Type 0 where
  pub counts : arities ≡ pad 48 (map length ws)
  pub fields : sorts ≡ pad 144 (concat_map (pad 3) ws)
  pub few : All (λ fs. length fs ≤ 3) ws

-- three numbers from a place on
abbrev pub store_three : List ℕ → ℕ → List ℕ → List ℕ
store_three xs i three = set (set (set xs i (get_or three 0 0)) (i + 1) (get_or three 1 0)) (i + 2) (get_or three 2 0)

-- what a parser of variants leaves in the columns, behind the w variants that are there; what they hold after a refusal is
-- of no use to anybody
pub record Stores (parser : Parser (List guard.Variant)) (bs : List ℕ) (w : ℕ) (arities sorts arities' sorts' : List ℕ) : Type 0 where
  pub stored : (ws vs : List guard.Variant) (rest : List ℕ) → w ≡ length ws → Holds ws arities sorts → parser bs ≡ accepted vs rest → Holds (ws ++ vs) arities' sorts'
