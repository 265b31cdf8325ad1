-- The file of a procedure as its parts, one after the other: the head, which is types and rows, and the branches. Assumes nothing.
use mathlib.Core.Path.{◌≡◌, refl, ◌∙◌}
use mathlib.Core.List.{List, [], ◌∷◌}
use Prim.Native.Nat.{ℕ}
use Rattle.guard.specs.Grammar.{ended}
use Rattle.guard.specs.Guard.{Literal, Row}
use Rattle.guard.specs.Limits.{base}
use Rattle.guard.specs.Number.{Parsed, Parsed.accepted, Parsed.refused, Parser, ◌>>=◌, ◌>>◌, and_then, return, times}
use Rattle.guard.specs.Types.{Types}
use Rattle.headreader.specs.Head.{Head, head_part}
use Rattle.headreader.proofs.WithHead.{behind, with_head_lem}
use Rattle.branches.specs.Procedure.{Procedure, branch, branch_count, branches_of, procedure}
use Rattle.branchreader.specs.BranchReader.{branches_by}

abbrev pub after_head : Head → Parser Procedure
after_head h = branches_by (branch base h.types h.rows) >>= λ bs. return (record { types = h.types; rows = h.rows; branches = bs })

branches-last : (ts : Types) (rs : List Row) (bytes : List ℕ) → branches_of base ts rs bytes ≡ after_head (record { types = ts; rows = rs }) bytes
branches-last ts rs bytes = go (branch_count bytes)
  where
    p : List (List Literal) → Procedure
    p bs = record { types = ts; rows = rs; branches = bs }

    end : (bs : List (List Literal)) (left : List ℕ) → (ended >> return (p bs)) left ≡ and_then (λ bs. return (p bs)) ((ended >> return bs) left)
    end bs [] = refl
    end bs (x ∷ xs) = refl

    read : (r : Parsed (List (List Literal))) → and_then (λ bs. ended >> return (p bs)) r ≡ and_then (λ bs. return (p bs)) (and_then (λ bs. ended >> return bs) r)
    read (refused q) = refl
    read (accepted bs left) = end bs left

    go : (r : Parsed ℕ)
        → and_then (λ b. times b (branch base ts rs) >>= λ bs. ended >> return (p bs)) r ≡ and_then (λ bs. return (p bs)) (and_then (λ b. times b (branch base ts rs) >>= λ bs. ended >> return bs) r)
    go (refused q) = refl
    go (accepted b left) = read (times b (branch base ts rs) left)

-- the whole file
pub file-parts : (bytes : List ℕ) → procedure base bytes ≡ and_then after_head (head_part base.types base.terms bytes)
unfolding procedure
file-parts bytes = with_head_lem base (branches_of base) bytes ∙ go (head_part base.types base.terms bytes)
  where
    go : (r : Parsed Head) → and_then (behind base (branches_of base)) r ≡ and_then after_head r
    go (refused q) = refl
    go (accepted h left) = branches-last h.types h.rows left
