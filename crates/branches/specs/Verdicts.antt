-- What is told of the branches of a procedure: a number for each branch and for each pair of them, and the lists made of these. Assumes nothing: definitions.
-- Quoted sentences are document 02's, of request #113.
use Rattle.std.specs.Prelude.{cond, List, [], ◌∷◌, ◌++◌, map, ℕ, zero, suc, eqb, ltb, drop, replicate}
use Rattle.laws.specs.Lists.{cons_if, from}
use Rattle.guard.specs.Guard.{Literal}
use Rattle.guard.specs.Limits.{base}
use Rattle.guard.specs.Number.{Parsed, Parsed.accepted, Parsed.refused}
use Rattle.tables.specs.Layout.{pad}
use Rattle.verdictcodes.specs.Codes.{code_for}
use Rattle.branches.specs.Procedure.{Procedure, guard_with, procedure}

-- "by lower branch, then higher"; "A pair goes to the desk, lower branch's lines first"
abbrev pub pairs : List (List Literal) → List (List Literal)
pairs [] = []
pairs (ls ∷ rest) = map (λ ms. ls ++ ms) rest ++ pairs rest

-- "one for each branch, then one for each pair": the lines that each is asked with
abbrev pub asked : Procedure → List (List Literal)
asked p = p.branches ++ pairs p.branches

unfoldable pub codes : ℕ → Procedure → List ℕ
codes budget p = map (λ ls. code_for budget (guard_with p ls)) (asked p)

-- "a lent buffer of at least 36 bytes"
abbrev pub buffer_length : ℕ
buffer_length = 36

-- "A shorter one is 1"
unfoldable pub asks_of : List ℕ → ℕ → Parsed Procedure
asks_of bytes long = cond (ltb long buffer_length) (refused 1) (procedure base bytes)

-- what is left in the buffer: "0 past the last", and "a refusal leaves it all 0"
abbrev pub left_in : ℕ → ℕ → Parsed Procedure → List ℕ
left_in budget long (refused q) = replicate long 0
left_in budget long (accepted p rest) = pad long (codes budget p)

-- ---- the lists

-- two branches, the lower one first
pub record Pair : Type 0 where
  pub lower : ℕ
  pub higher : ℕ

-- the pairs of so many branches counted from i, "by lower branch, then higher"
abbrev pub pairs_from : ℕ → ℕ → List Pair
pairs_from zero i = []
pairs_from (suc k) i = map (λ j. record { lower = i; higher = j }) (from k (suc i)) ++ pairs_from k (suc i)

module _ {A : Type 0} where
  -- those whose number is this one
  abbrev pub having_code : ℕ → List A → List ℕ → List A
  having_code code [] cs = []
  having_code code (x ∷ xs) [] = []
  having_code code (x ∷ xs) (c ∷ cs) = cons_if (eqb c code) x (having_code code xs cs)

-- of so many branches and their numbers: "the branches that can never run, the pairs that can run together, and apart what came out
-- SPENT at the given budget, each in rising order", "branches before pairs"
pub record Lists : Type 0 where
  pub dead : List ℕ
  pub together : List Pair
  pub spent_branches : List ℕ
  pub spent_pairs : List Pair

unfoldable pub lists_of : ℕ → List ℕ → Lists
lists_of many cs =
    record {
      dead = having_code 2 (from many 0) cs;
      together = having_code 1 (pairs_from many 0) (drop many cs);
      spent_branches = having_code 3 (from many 0) cs;
      spent_pairs = having_code 3 (pairs_from many 0) (drop many cs);
    }
