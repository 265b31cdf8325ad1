-- The guard file as its parts, one after the other: the head, which is types and rows, and the literals. Assumes nothing.
use mathlib.Core.Path.{◌≡◌, refl, ◌∙◌}
use mathlib.Core.List.{List, [], ◌∷◌}
use Prim.Native.Nat.{ℕ}
use Rattle.guard.specs.File.{count, file, literal}
use Rattle.guard.specs.Grammar.{ended}
use Rattle.guard.specs.Guard.{Guard, Literal, Row}
use Rattle.guard.specs.Limits.{Limits}
use Rattle.guard.specs.Number.{Parsed, Parsed.accepted, Parsed.refused, Parser, ◌>>=◌, ◌>>◌, and_then, return, times}
use Rattle.guard.specs.Types.{Types}
use Rattle.headreader.specs.Head.{Head, head_part}
use Rattle.headreader.proofs.WithHead.{behind, with_head_lem}
use Rattle.literalreader.specs.LiteralReader.{literals_by}

module _ (limits : Limits) where
  abbrev pub after_head : Head → Parser Guard
  after_head h = literals_by limits.lines (literal h.types h.rows) >>= λ ls. return (record { types = h.types; rows = h.rows; literals = ls })

  -- the literals as the definition has them
  abbrev rest : Types → List Row → Parser Guard
  rest ts rs = count limits.lines >>= λ l. times l (literal ts rs) >>= λ ls. ended >> return (record { types = ts; rows = rs; literals = ls })

  literals-last : (ts : Types) (rs : List Row) (bs : List ℕ) → rest ts rs bs ≡ after_head (record { types = ts; rows = rs }) bs
  literals-last ts rs bs = go (count limits.lines bs)
    where
      g : List Literal → Guard
      g ls = record { types = ts; rows = rs; literals = ls }

      end : (ls : List Literal) (left : List ℕ) → (ended >> return (g ls)) left ≡ and_then (λ ls. return (g ls)) ((ended >> return ls) left)
      end ls [] = refl
      end ls (x ∷ xs) = refl

      read : (r : Parsed (List Literal)) → and_then (λ ls. ended >> return (g ls)) r ≡ and_then (λ ls. return (g ls)) (and_then (λ ls. ended >> return ls) r)
      read (refused q) = refl
      read (accepted ls left) = end ls left

      go : (r : Parsed ℕ) → and_then (λ l. times l (literal ts rs) >>= λ ls. ended >> return (g ls)) r ≡ and_then (λ ls. return (g ls)) (and_then (λ l. times l (literal ts rs) >>= λ ls. ended >> return ls) r)
      go (refused q) = refl
      go (accepted l left) = read (times l (literal ts rs) left)

  -- the whole file
  pub file-parts : (bytes : List ℕ) → file limits bytes ≡ and_then after_head (head_part limits.types limits.terms bytes)
  unfolding file
  file-parts bytes = with_head_lem limits rest bytes ∙ go (head_part limits.types limits.terms bytes)
    where
      go : (r : Parsed Head) → and_then (behind limits rest) r ≡ and_then after_head r
      go (refused q) = refl
      go (accepted h left) = literals-last h.types h.rows left
