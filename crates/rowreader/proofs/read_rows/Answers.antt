-- `read_rows` meets its contract. Assumes nothing.
use Rattle.std.proofs.Common.{◌≡◌, ◌∙◌, refl, ap, sym, Bool, List, ℕ, ◌+◌, drop, add-one}
use lib.Dec.{leb, ltb, leb-suc-suc}
use Rattle.std.proofs.lemmas.Result.{err_from_is_err_and}
use Rattle.guard.specs.File.{count}
use Rattle.guard.specs.Number.{Parsed, Parsed.accepted, Parsed.refused, ◌>>◌, and_then, ask, return, unsigned}
use Rattle.numbers.specs.Reader.{below}
use Rattle.rowreader.proofs.read_rows.Goals as goal

-- a count that is at most the limit
count-is : (limit : ℕ) (bs : List ℕ) → count limit bs ≡ below (limit + 1) 4 bs
count-is limit bs = go (unsigned bs)
  where
    go : (r : Parsed ℕ) → and_then (λ n. ask 4 (leb n limit) >> return n) r ≡ and_then (λ n. ask 4 (ltb n (limit + 1)) >> return n) r
    go (refused q) = refl
    go (accepted n rest) = ap (λ (b : Bool). (ask 4 b >> return n) rest) (sym (leb-suc-suc n limit) ∙ ap (ltb n) (sym (add-one limit)))

pub returns-in_err-n : goal.returns-in_err-n
returns-in_err-n c = let a = c.args in
    let p = err_from_is_err_and c.from_residual.result c.from_residual.ensures.1 in
    rw (p.1, p.2, count-is a.limit (drop a.at a.bytes.now), c.in_err-n.ensures) refl
