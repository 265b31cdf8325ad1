-- A count is a number below a limit, and so is what `read_below` reads. Assumes nothing.
use Rattle.std.proofs.Common.{◌≡◌, refl, ap, sym, ◌∙◌, ℕ, suc, ◌<◌, List, Bool, true, false, inl, inr}
use Rattle.std.specs.Prelude.{Ok, Err, drop}
use lib.Dec.{leb, ltb, leb-suc-suc}
use borrow.Author.Tests.{ltb-true, lt-ltb, le-ltb}
use Rattle.guard.specs.File.{count}
use Rattle.guard.specs.Number.{Parsed, Parsed.accepted, Parsed.refused, Parser, ◌>>◌, and_then, ask, return, unsigned}
use Rattle.guard.specs.Question.{number_of}
use Rattle.guard.specs.declared.Question.{Question}
use Rattle.numbers.specs.Reader.{Found, ReadsBelow, below}
use Rattle.numbers.specs.declared.Read.{Read}

pub count-is : (most : ℕ) (bs : List ℕ) → count most bs ≡ below (suc most) 4 bs
count-is most bs = go (unsigned bs)
  where
    go : (p : Parsed ℕ) → and_then (λ (n : ℕ). ask 4 (leb n most) >> return n) p ≡ and_then (λ (n : ℕ). ask 4 (ltb n (suc most)) >> return n) p
    go (refused q) = refl
    go (accepted n rest) = ap (λ (t : Bool). (ask 4 t >> return n) rest) (sym (leb-suc-suc n most))

-- what is accepted is below the limit
pub below_is : (limit q : ℕ) (bs : List ℕ) (n : ℕ) (rest : List ℕ) → below limit q bs ≡ accepted n rest → n < limit
below_is limit q bs n rest e = go (unsigned bs) e
  where
    asked : (m : ℕ) (mid : List ℕ) (t : Bool) → ltb m limit ≡ t → (ask q t >> return m) mid ≡ accepted n rest → n < limit
    asked m mid true h d = let f : m ≡ n = cc in rw (← f) (ltb-true m limit h)
    asked m mid false h d = absurd cc

    go : (p : Parsed ℕ) → and_then (λ (m : ℕ). ask q (ltb m limit) >> return m) p ≡ accepted n rest → n < limit
    go (refused z) d = absurd cc
    go (accepted m mid) d = asked m mid (ltb m limit) refl d

-- what `read_below` answers, by a number for the question
module _ (limit own : ℕ) (bs bytes : List ℕ) where
  abbrev next : ℕ → Parser ℕ
  next n = ask own (ltb n limit) >> return n

  pub below_found : {E : Type 0} (becomes : Question → E → Type 0) (e : E) (r : Read ℕ) → ReadsBelow becomes (unsigned bs) bytes limit e (Ok r) → Found (below limit own bs) bytes r.value r.at
  below_found becomes e r (found, small) =
      record { accepts = ap (and_then next) found.accepts ∙ ap (λ (t : Bool). (ask own t >> return r.value) (drop r.at bytes)) (lt-ltb r.value limit small); within = found.within }

  pub below_refused : (e : ℕ) → ReadsBelow (λ q n. n ≡ number_of q) (unsigned bs) bytes limit own (Err e) → below limit own bs ≡ refused e
  below_refused e (inl (q, is, told)) = ap (and_then next) is ∙ ap refused (sym told)
  below_refused e (inr (n, rest, is, high, told)) = ap (and_then next) is ∙ ap (λ (t : Bool). (ask own t >> return n) rest) (le-ltb n limit high) ∙ ap refused (sym told)
