-- A refusal is by a question, never by 0, wherever the numbers of a file come from. Assumes nothing.
use mathlib.Core.Path.{◌≡◌, ap}
use mathlib.Core.Bool.{Bool, true, false, not, ◌&&◌}
use mathlib.Core.List.{List, [], ◌∷◌, ◌++◌}
use Prim.Native.Nat.{ℕ, zero, suc, ◌+◌, ◌<◌}
use native.Mathlib.Omega.{arith}
use lib.Dec.{leb, ltb, eqb}
use lib.ListN.{length}
use Rattle.guard.specs.Grammar.{Source, count, ended, file_of, kind, literal, literal_of, name, parts, row_of, rows, term_and_variant, two_terms, types, variant, variant_term}
use Rattle.guard.specs.Guard.{Literal, Literal.equal, Literal.is, Literal.isnt, Literal.unequal, Row, Row.built, Row.constant, Row.field, Row.variable, type_at}
use Rattle.guard.specs.Limits.{Limits, field_limit, total_variant_limit, variant_limit}
use Rattle.guard.specs.Number.{Parsed, Parsed.accepted, Parsed.refused, Parser, ◌>>=◌, ◌>>◌, and_then, ask, return, times, unfold_signed}
use Rattle.guard.specs.Types.{Types, Variant, all_defaults, fields_of, infinite_fields, is_number, variants_of}

abbrev pub Asks : {A : Type 0} → Parser A → Type 0
Asks p = (bs : List ℕ) (q : ℕ) → p bs ≡ refused q → 0 < q

pub taken : {A B : Type 0} {q : ℕ} {a : A} {rest : List ℕ} → Path (Parsed A) (accepted a rest) (refused q) → B
taken e = let z : ◌≡◌ {A = ℕ} 0 1 = cc in absurd (omega arith)

pub asks_bind : {A B : Type 0} (p : Parser A) (f : A → Parser B) → Asks p → ((a : A) → Asks (f a)) → Asks (p >>= f)
asks_bind {A} {B} p f hp hf bs q e = go (p bs) (hp bs) e
  where
    go : (r : Parsed A) → ((q' : ℕ) → r ≡ refused q' → 0 < q') → and_then f r ≡ refused q → 0 < q
    go (refused q') h e = let z : q' ≡ q = cc in h q (ap refused z)
    go (accepted a mid) h e = hf a mid q e

pub asks_return : {A : Type 0} (a : A) → Asks (return a)
asks_return a bs q e = taken e

pub asks_asked : {A : Type 0} (i : ℕ) (b : Bool) (p : Parser A) → 0 < i → Asks p → Asks (ask i b >> p)
asks_asked i true p l h bs q e = h bs q e
asks_asked i false p l h bs q e = let z : i ≡ q = cc in omega arith

asks_times : {A : Type 0} (k : ℕ) (p : Parser A) → Asks p → Asks (times k p)
asks_times zero p h = asks_return []
asks_times (suc k) p h = asks_bind p _ h (λ x. asks_bind (times k p) _ (asks_times k p h) (λ xs. asks_return (x ∷ xs)))

pub asks_ended : Asks ended
asks_ended [] q e = taken e
asks_ended (b ∷ bs) q e = let z : 10 ≡ q = cc in omega arith

module _ (src : Source) (numbers : Asks src.number) (values : Asks src.folded) where
  asks_number : {A : Type 0} (q : ℕ) (test : ℕ → Bool) (f : ℕ → Parser A) → 0 < q → ((n : ℕ) → Asks (f n)) → Asks (src.number >>= λ n. ask q (test n) >> f n)
  asks_number q test f l h = asks_bind src.number _ numbers (λ n. asks_asked q (test n) (f n) l (h n))

  pub asks_count : (most : ℕ) → Asks (count src most)
  asks_count most = asks_number 4 (λ n. leb n most) return (omega arith) asks_return

  asks_name : (many : ℕ) → Asks (name src many)
  asks_name many = asks_number 5 (λ n. ltb n many) return (omega arith) asks_return

  asks_kind : Asks (kind src)
  asks_kind = asks_number 6 (λ n. ltb n 4) return (omega arith) asks_return

  asks_variant : (many : ℕ) → Asks (variant src many)
  asks_variant many = asks_bind (count src field_limit) _ (asks_count field_limit) (λ f. asks_times f (name src many) (asks_name many))

  pub asks_types : (left many total : ℕ) → Asks (types src left many total)
  asks_types zero many total = asks_return []
  asks_types (suc left) many total =
      asks_number 4 (λ v. leb v variant_limit && leb (total + v) total_variant_limit) _ (omega arith)
      (λ v. asks_bind (times v (variant src many)) _ (asks_times v (variant src many) (asks_variant many))
      (λ vs. asks_bind (types src left many (total + v)) _ (asks_types left many (total + v)) (λ ts. asks_return (vs ∷ ts))))

  module _ (ts : Types) (rs : List Row) where
    asks_parts : (fs : Variant) → Asks (parts src ts rs fs)
    asks_parts [] = asks_return []
    asks_parts (f ∷ fs) =
        asks_bind (name src (length rs)) _ (asks_name (length rs))
        (λ p. asks_asked 7 (eqb (type_at ts rs p) f) _ (omega arith) (asks_bind (parts src ts rs fs) _ (asks_parts fs) (λ ps. asks_return (p ∷ ps))))

    asks_term : Asks (variant_term src ts rs)
    asks_term = asks_bind (name src (length rs)) _ (asks_name (length rs)) (λ a. asks_asked 7 (not (is_number ts (type_at ts rs a))) _ (omega arith) (asks_return a))

    asks_row : (k : ℕ) → Asks (row_of src ts rs k)
    asks_row zero = asks_bind (name src (length ts)) _ (asks_name (length ts)) (λ t. asks_return (variable t))
    asks_row (suc zero) =
        asks_bind (name src (length ts)) _ (asks_name (length ts))
        (λ t. asks_asked 7 (is_number ts t) _ (omega arith) (asks_bind src.folded _ values (λ n. asks_return (constant t (unfold_signed n)))))
    asks_row (suc (suc zero)) =
        asks_bind (name src (length ts)) _ (asks_name (length ts))
        (λ t. asks_asked 7 (not (is_number ts t)) _ (omega arith)
        (asks_bind (name src (length (variants_of ts t))) _ (asks_name (length (variants_of ts t)))
        (λ v. asks_bind (parts src ts rs (fields_of ts t v)) _ (asks_parts (fields_of ts t v)) (λ ps. asks_return (built t v ps)))))
    asks_row (suc (suc (suc k))) =
        asks_bind (variant_term src ts rs) _ asks_term
        (λ a. asks_bind (name src (length (variants_of ts (type_at ts rs a)))) _ (asks_name (length (variants_of ts (type_at ts rs a))))
        (λ v. asks_bind (name src (length (fields_of ts (type_at ts rs a) v))) _ (asks_name (length (fields_of ts (type_at ts rs a) v)))
        (λ p. asks_return (field (type_at ts rs a) a v p))))

    asks_two : (make : ℕ → ℕ → Literal) → Asks (two_terms src ts rs make)
    asks_two make =
        asks_bind (name src (length rs)) _ (asks_name (length rs))
        (λ i. asks_bind (name src (length rs)) _ (asks_name (length rs))
        (λ j. asks_asked 7 (eqb (type_at ts rs i) (type_at ts rs j)) _ (omega arith) (asks_return (make i j))))

    asks_tested : (make : ℕ → ℕ → Literal) → Asks (term_and_variant src ts rs make)
    asks_tested make =
        asks_bind (variant_term src ts rs) _ asks_term
        (λ a. asks_bind (name src (length (variants_of ts (type_at ts rs a)))) _ (asks_name (length (variants_of ts (type_at ts rs a)))) (λ v. asks_return (make a v)))

    pub asks_literal : Asks (literal src ts rs)
    asks_literal = asks_bind (kind src) _ asks_kind by_kind
      where
        by_kind : (k : ℕ) → Asks (literal_of src ts rs k)
        by_kind zero = asks_two equal
        by_kind (suc zero) = asks_two unequal
        by_kind (suc (suc zero)) = asks_tested is
        by_kind (suc (suc (suc k))) = asks_tested isnt

  asks_rows : (left : ℕ) (ts : Types) (rs : List Row) → Asks (rows src left ts rs)
  asks_rows zero ts rs = asks_return rs
  asks_rows (suc left) ts rs =
      asks_bind (kind src) _ asks_kind (λ k. asks_bind (row_of src ts rs k) _ (asks_row ts rs k) (λ r. asks_rows left ts (rs ++ (r ∷ []))))

  pub asks_file_lem : (limits : Limits) → Asks (file_of src limits)
  asks_file_lem limits =
      asks_bind (count src limits.types) _ (asks_count limits.types)
      (λ many. asks_bind (types src many many 0) _ (asks_types many many 0)
      (λ ts. asks_asked 8 (all_defaults ts) _ (omega arith) (asks_asked 9 (infinite_fields ts) _ (omega arith)
      (asks_bind (count src limits.terms) _ (asks_count limits.terms)
      (λ n. asks_bind (rows src n ts []) _ (asks_rows n ts [])
      (λ rs. asks_bind (count src limits.lines) _ (asks_count limits.lines)
      (λ l. asks_bind (times l (literal src ts rs)) _ (asks_times l (literal src ts rs) (asks_literal ts rs))
      (λ ls. asks_bind ended _ asks_ended (λ u. asks_return (record { types = ts; rows = rs; literals = ls }))))))))))
