-- The number of branches: one limit, and then whether there is a branch at all; no question has number 0. Assumes nothing.
use Rattle.std.proofs.Common.{◌≡◌, ◌∙◌, refl, ap, sym, arith, ℕ, ◌≤◌, ◌<◌, List, Bool, true, false}
use mathlib.Core.Bool.{◌&&◌}
use lib.Dec.{leb, leb-suc-suc, ltb}
use borrow.Author.Tests.{leb-true}
use Rattle.guard.specs.Number.{Parsed, Parsed.accepted, Parsed.refused, ◌>>◌, and_then, ask, return, unsigned}
use Rattle.guard.proofs.Refusals.{asks_asked, asks_bind, asks_return}
use Rattle.numbers.specs.Reader.{below}
use Rattle.numbers.proofs.CountLaws.{below_is}
use Rattle.numbers.proofs.NumberLaws.{unsigned-question}
use Rattle.branches.specs.Procedure.{branch_count, branch_limit}

-- what is asked of a number that is at most the limit
abbrev some : ℕ → List ℕ → Parsed ℕ
some b = ask 19 (leb 1 b) >> return b

by_limit : (bs : List ℕ) → branch_count bs ≡ and_then some (below 9 19 bs)
by_limit bs = go (unsigned bs)
  where
    both : (a b : Bool) (v : ℕ) (rest : List ℕ) → (ask 19 (a && b) >> return v) rest ≡ and_then (λ (n : ℕ). ask 19 a >> return v) ((ask 19 b >> return v) rest)
    both true true v rest = refl
    both true false v rest = refl
    both false true v rest = refl
    both false false v rest = refl

    value : (b : Bool) (v : ℕ) (rest : List ℕ) → and_then (λ (n : ℕ). ask 19 (leb 1 v) >> return v) ((ask 19 b >> return v) rest) ≡ and_then some ((ask 19 b >> return v) rest)
    value true v rest = refl
    value false v rest = refl

    go : (r : Parsed ℕ) → and_then (λ b. ask 19 (leb 1 b && leb b branch_limit) >> return b) r ≡ and_then some (and_then (λ n. ask 19 (ltb n 9) >> return n) r)
    go (refused q) = refl
    go (accepted v rest) =
        both (leb 1 v) (leb v branch_limit) v rest ∙ value (leb v branch_limit) v rest
        ∙ ap (λ (b : Bool). and_then some ((ask 19 b >> return v) rest)) (sym (leb-suc-suc v branch_limit))

module _ (bs : List ℕ) where
  pub limit_refuses : (q : ℕ) → below 9 19 bs ≡ refused q → branch_count bs ≡ refused q
  limit_refuses q e = by_limit bs ∙ ap (and_then some) e

  -- what is accepted is within the limit
  pub count_few : (n : ℕ) (rest : List ℕ) → branch_count bs ≡ accepted n rest → n ≤ branch_limit
  count_few n rest e = go (below 9 19 bs) refl (sym (by_limit bs) ∙ e)
    where
      asked : (m : ℕ) (mid : List ℕ) (b : Bool) → (ask 19 b >> return m) mid ≡ accepted n rest → m ≡ n
      asked m mid true d = cc
      asked m mid false d = absurd cc

      go : (p : Parsed ℕ) → below 9 19 bs ≡ p → and_then some p ≡ accepted n rest → n ≤ branch_limit
      go (refused q) f d = absurd cc
      go (accepted m mid) f d = omega (arith, below_is 9 19 bs m mid f, asked m mid (leb 1 m) d)

  -- what is accepted is a branch at least
  pub count_some : (n : ℕ) (rest : List ℕ) → branch_count bs ≡ accepted n rest → 1 ≤ n
  count_some n rest e = go (unsigned bs) e
    where
      asked : (m : ℕ) (mid : List ℕ) (b c : Bool) → leb 1 m ≡ b → (ask 19 (b && c) >> return m) mid ≡ accepted n rest → 1 ≤ n
      asked m mid true true l d = let z : m ≡ n = cc in omega (arith, leb-true 1 m l, z)
      asked m mid true false l d = absurd cc
      asked m mid false c l d = absurd cc

      go : (p : Parsed ℕ) → and_then (λ b. ask 19 (leb 1 b && leb b branch_limit) >> return b) p ≡ accepted n rest → 1 ≤ n
      go (refused q) d = absurd cc
      go (accepted m mid) d = asked m mid (leb 1 m) (leb m branch_limit) refl d

  -- no question has number 0
  pub count-question : (q : ℕ) → branch_count bs ≡ refused q → 0 < q
  count-question =
      asks_bind unsigned _ unsigned-question (λ b. asks_asked 19 (leb 1 b && leb b branch_limit) (return b) (omega arith) (asks_return b)) bs
