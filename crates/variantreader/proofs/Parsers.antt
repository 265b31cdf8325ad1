-- Laws on parsers for code that reads at a cursor: a number by its limit, a function of a parser's value, and how many elements a
-- parser reads so many times. Assumes nothing.
use mathlib.Core.Path.{◌≡◌, refl, ap, sym, ◌∙◌}
use mathlib.Core.Bool.{Bool, true, false}
use mathlib.Core.List.{List, [], ◌∷◌}
use Prim.Native.Nat.{ℕ, zero, suc, ◌<◌}
use native.Mathlib.Omega.{arith}
use lib.Dec.{leb, leb-suc-suc, ltb}
use lib.ListN.{length}
use borrow.Author.Tests.{ltb-true}
use Rattle.guard.specs.File.{count}
use Rattle.guard.specs.Number.{Parsed, Parsed.accepted, Parsed.refused, Parser, ◌>>◌, and_then, ask, return, times, unsigned}
use Rattle.numbers.specs.Reader.{below}

pub no_value : {A B : Type 0} {q : ℕ} {a : A} {rest : List ℕ} → Path (Parsed A) (refused q) (accepted a rest) → B
no_value e = let z : ◌≡◌ {A = ℕ} 0 1 = cc in absurd (omega arith)

-- a count of at most so many is a number below one more
pub count-is : (most : ℕ) (bs : List ℕ) → count most bs ≡ below (suc most) 4 bs
count-is most bs = go (unsigned bs)
  where
    go : (p : Parsed ℕ) → and_then (λ (n : ℕ). ask 4 (leb n most) >> return n) p ≡ and_then (λ (n : ℕ). ask 4 (ltb n (suc most)) >> return n) p
    go (refused q) = refl
    go (accepted n rest) = ap (λ (t : Bool). (ask 4 t >> return n) rest) (sym (leb-suc-suc n most))

pub below-small : (limit q : ℕ) (bs : List ℕ) (n : ℕ) (rest : List ℕ) → below limit q bs ≡ accepted n rest → n < limit
below-small limit q bs n rest e = go (unsigned bs) e
  where
    test : (m : ℕ) (mid : List ℕ) (b : Bool) → ltb m limit ≡ b → and_then (λ (u : Unit {0}). return m) (ask q b mid) ≡ accepted n rest → n < limit
    test m mid true h f = let z : m ≡ n = cc in omega (arith, ltb-true m limit h)
    test m mid false h f = no_value f

    go : (p : Parsed ℕ) → and_then (λ (n : ℕ). ask q (ltb n limit) >> return n) p ≡ accepted n rest → n < limit
    go (refused q) f = no_value f
    go (accepted m mid) f = test m mid (ltb m limit) refl f

module _ {A B : Type 0} (f : A → B) where
  -- the value that a function of a parser's value comes from
  pub record Mapped (p : Parsed A) (b : B) (rest : List ℕ) : Type 0 where
    pub value : A
    pub accepts : p ≡ accepted value rest
    pub is : f value ≡ b

  pub mapped : (p : Parsed A) (b : B) (rest : List ℕ) → and_then (λ a. return (f a)) p ≡ accepted b rest → Mapped p b rest
  mapped (refused q) b rest e = no_value e
  mapped (accepted a mid) b rest e = let r : mid ≡ rest = cc in record { value = a; accepts = ap (accepted a) r; is = cc }

  pub mapped_stop : (p : Parsed A) (q : ℕ) → and_then (λ a. return (f a)) p ≡ refused q → p ≡ refused q
  mapped_stop (refused q') q e = let z : q' ≡ q = cc in ap refused z
  mapped_stop (accepted a mid) q e = no_value (sym e)

module _ {A : Type 0} (p : Parser A) where
  pub times-length : (k : ℕ) (bs : List ℕ) (xs : List A) (rest : List ℕ) → times k p bs ≡ accepted xs rest → length xs ≡ k
  times-length zero bs xs rest e = let n : [] ≡ xs = cc in ap length (sym n)
  times-length (suc k) bs xs rest e = first (λ mid ys end h. times-length k mid ys end h) (p bs) e
    where
      Long : Type 0
      Long = (mid : List ℕ) (ys : List A) (end : List ℕ) → times k p mid ≡ accepted ys end → length ys ≡ k

      others : Long → (x : A) (r : Parsed (List A)) (mid : List ℕ) → times k p mid ≡ r → and_then (λ ys. return (x ∷ ys)) r ≡ accepted xs rest → length xs ≡ suc k
      others long x (refused q) mid h f = no_value f
      others long x (accepted ys end) mid h f = let n : x ∷ ys ≡ xs = cc in ap length (sym n) ∙ ap suc (long mid ys end h)

      first : Long → (r : Parsed A) → and_then (λ x bs. and_then (λ ys. return (x ∷ ys)) (times k p bs)) r ≡ accepted xs rest → length xs ≡ suc k
      first long (refused q) f = no_value f
      first long (accepted x mid) f = others long x (times k p mid) mid refl f
