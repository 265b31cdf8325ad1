-- For callers: the parsers by columns are those of the guard file, where the columns are those of types and rows. Assumes nothing.
use mathlib.Core.Path.{◌≡◌, refl, ap, ◌∙◌}
use mathlib.Core.Bool.{Bool, true, false, not}
use mathlib.Core.List.{List, ◌∷◌}
use Prim.Native.Nat.{ℕ, zero, suc}
use lib.Dec.{eqb}
use lib.ListN.{length, get_or}
use Rattle.guard.specs.Types.{Types, variants_of}
use Rattle.guard.specs.Guard.{Literal, Row, type_at}
use Rattle.guard.specs.File.{count, kind, literal, literal_of, name, term_and_variant, two_terms}
use Rattle.guard.specs.Grammar.{ended}
use Rattle.guard.specs.Number.{Parsed, Parsed.accepted, Parsed.refused, Parser, ◌>>=◌, ◌>>◌, and_then, ask, return, times}
use Rattle.literalkinds.specs.declared.Pair.{Pair}
use Rattle.literalkinds.specs.OneLiteral.{literal_by, made, numbers_by, test_by, two_by}
use Rattle.literalreader.specs.LiteralReader.{literals_by}

-- ---- parsers that agree, repeated

module _ {A : Type 0} (p q : Parser A) (same : (bs : List ℕ) → p bs ≡ q bs) where
  pub times-same : (n : ℕ) (bs : List ℕ) → times n p bs ≡ times n q bs
  times-same zero bs = refl
  times-same (suc n) bs = ap (and_then (λ x. times n p >>= λ xs. return (x ∷ xs))) (same bs) ∙ go (λ rest. times-same n rest) (q bs)
    where
      go : ((rest : List ℕ) → times n p rest ≡ times n q rest) → (r : Parsed A) → and_then (λ x. times n p >>= λ xs. return (x ∷ xs)) r ≡ and_then (λ x. times n q >>= λ xs. return (x ∷ xs)) r
      go less (refused z) = refl
      go less (accepted x rest) = ap (and_then (λ xs. return (x ∷ xs))) (less rest)

literals-same : (limit : ℕ) (p q : Parser Literal) → ((bs : List ℕ) → p bs ≡ q bs) → (bs : List ℕ) → literals_by limit p bs ≡ literals_by limit q bs
literals-same limit p q same bs = go (count limit bs)
  where
    go : (r : Parsed ℕ) → and_then (λ l. times l p >>= λ ls. ended >> return ls) r ≡ and_then (λ l. times l q >>= λ ls. ended >> return ls) r
    go (refused z) = refl
    go (accepted l rest) = ap (and_then (λ ls. ended >> return ls)) (times-same p q same l rest)

-- ---- the columns of types and rows

module _ (ts : Types) (rs : List Row) (counts us : List ℕ)
    (is_count : (t : ℕ) → get_or counts t 0 ≡ length (variants_of ts t)) (is_type : (i : ℕ) → get_or us i 0 ≡ type_at ts rs i) where
  two-terms-are : (make : Pair → Literal) (bs : List ℕ) → (two_by (length rs) us >>= λ x. return (make x)) bs ≡ two_terms ts rs (λ i j. make (record { term = i; other = j })) bs
  two-terms-are make bs = first (name (length rs) bs)
    where
      asked : (i j : ℕ) (b : Bool) (rest : List ℕ)
          → and_then (λ x. return (make x)) ((ask 7 b >> return (record { term = i; other = j })) rest) ≡ (ask 7 b >> return (make (record { term = i; other = j }))) rest
      asked i j true rest = refl
      asked i j false rest = refl

      second : (i : ℕ) (p : Parsed ℕ)
          → and_then (λ x. return (make x)) (and_then (λ j. ask 7 (eqb (get_or us i 0) (get_or us j 0)) >> return (record { term = i; other = j })) p)
          ≡ and_then (λ j. ask 7 (eqb (type_at ts rs i) (type_at ts rs j)) >> return (make (record { term = i; other = j }))) p
      second i (refused q) = refl
      second i (accepted j rest) =
          asked i j (eqb (get_or us i 0) (get_or us j 0)) rest
          ∙ ap (λ (k : ℕ). (ask 7 (eqb k (get_or us j 0)) >> return (make (record { term = i; other = j }))) rest) (is_type i)
          ∙ ap (λ (k : ℕ). (ask 7 (eqb (type_at ts rs i) k) >> return (make (record { term = i; other = j }))) rest) (is_type j)

      first : (p : Parsed ℕ)
          → and_then (λ x. return (make x)) (and_then (λ i. name (length rs) >>= λ j. ask 7 (eqb (get_or us i 0) (get_or us j 0)) >> return (record { term = i; other = j })) p)
          ≡ and_then (λ i. name (length rs) >>= λ j. ask 7 (eqb (type_at ts rs i) (type_at ts rs j)) >> return (make (record { term = i; other = j }))) p
      first (refused q) = refl
      first (accepted i rest) = second i (name (length rs) rest)

  test_is : (make : Pair → Literal) (bs : List ℕ) → (test_by counts (length rs) us >>= λ x. return (make x)) bs ≡ term_and_variant ts rs (λ i v. make (record { term = i; other = v })) bs
  test_is make bs = first (name (length rs) bs)
    where
      variant : (i : ℕ) (p : Parsed ℕ) → and_then (λ x. return (make x)) (and_then (λ v. return (record { term = i; other = v })) p) ≡ and_then (λ v. return (make (record { term = i; other = v }))) p
      variant i (refused q) = refl
      variant i (accepted v rest) = refl

      -- the variants of the term's type are so many
      asked : (i n : ℕ) (rest : List ℕ) (b : Bool)
          → and_then (λ x. return (make x)) ((ask 7 b >> (name n >>= λ v. return (record { term = i; other = v }))) rest)
          ≡ and_then (λ a. name n >>= λ v. return (make (record { term = a; other = v }))) ((ask 7 b >> return i) rest)
      asked i n rest true = variant i (name n rest)
      asked i n rest false = refl

      at-type : (i : ℕ) → get_or counts (get_or us i 0) 0 ≡ length (variants_of ts (type_at ts rs i))
      at-type i = ap (λ (t : ℕ). get_or counts t 0) (is_type i) ∙ is_count (type_at ts rs i)

      back : (i : ℕ) (rest : List ℕ) (b : Bool)
          → and_then (λ a. name (length (variants_of ts (type_at ts rs i))) >>= λ v. return (make (record { term = a; other = v }))) ((ask 7 b >> return i) rest)
          ≡ and_then (λ a. name (length (variants_of ts (type_at ts rs a))) >>= λ v. return (make (record { term = a; other = v }))) ((ask 7 b >> return i) rest)
      back i rest true = refl
      back i rest false = refl

      first : (p : Parsed ℕ)
          → and_then (λ x. return (make x)) (and_then (λ a. ask 7 (not (eqb (get_or counts (get_or us a 0) 0) 0)) >> (name (get_or counts (get_or us a 0) 0) >>= λ v. return (record { term = a; other = v }))) p)
          ≡ and_then (λ a. name (length (variants_of ts (type_at ts rs a))) >>= λ v. return (make (record { term = a; other = v })))
          (and_then (λ a. ask 7 (not (eqb (length (variants_of ts (type_at ts rs a))) 0)) >> return a) p)
      first (refused q) = refl
      first (accepted i rest) =
          ap (λ (n : ℕ). and_then (λ x. return (make x)) ((ask 7 (not (eqb n 0)) >> (name n >>= λ v. return (record { term = i; other = v }))) rest)) (at-type i)
          ∙ asked i (length (variants_of ts (type_at ts rs i))) rest (not (eqb (length (variants_of ts (type_at ts rs i))) 0))
          ∙ back i rest (not (eqb (length (variants_of ts (type_at ts rs i))) 0))

  numbers-are : (k : ℕ) (bs : List ℕ) → (numbers_by counts (length rs) us k >>= λ x. return (made k x)) bs ≡ literal_of ts rs k bs
  numbers-are zero bs = two-terms-are (made 0) bs
  numbers-are (suc zero) bs = two-terms-are (made 1) bs
  numbers-are (suc (suc zero)) bs = test_is (made 2) bs
  numbers-are (suc (suc (suc k))) bs = test_is (made 3) bs

  pub literal-is : (bs : List ℕ) → literal_by counts (length rs) us bs ≡ literal ts rs bs
  literal-is bs = go (kind bs)
    where
      go : (p : Parsed ℕ) → and_then (λ k. numbers_by counts (length rs) us k >>= λ x. return (made k x)) p ≡ and_then (literal_of ts rs) p
      go (refused q) = refl
      go (accepted k rest) = numbers-are k rest

  -- what is read is the literals part of the guard file
  pub literals-are : (limit : ℕ) (bs : List ℕ) → literals_by limit (literal_by counts (length rs) us) bs ≡ literals_by limit (literal ts rs) bs
  literals-are limit = literals-same limit (literal_by counts (length rs) us) (literal ts rs) literal-is
