-- An accepted file holds a well-formed guard, and is no longer than the limits allow: question by question, along the
-- file. Assumes nothing.
use mathlib.Core.Path.{◌≡◌, refl, ap, sym, subst, ◌∙◌}
use mathlib.Core.List.Memᴰ
use mathlib.Core.List.{List, [], ◌∷◌, map, ◌++◌}
use Prim.Native.Nat.{ℕ, zero, suc, ◌+◌, ◌*◌, ◌≤◌, ◌<◌}
use native.Mathlib.Omega.{arith}
use lib.ListN.{length, get_or, length-append, get_or-append}
use lib.Dec.{leb, ltb, eqb}
use borrow.Author.Tests.{ltb-true, leb-true, eqb-true, not-true, ltb-false}
use mathlib.Core.Bool.{◌&&◌, false, not, true, false≢true}
use lib.Seq.{get_or-append_seam}
use mathlib.Core.Option.{none, some}
use Rattle.laws.specs.All.{All, All.more, All.none}
use Rattle.laws.specs.Lists.{all, concat_map}
use Rattle.laws.proofs.Bools.{and_left, and_right, by_test}
use Rattle.laws.proofs.Lists.{all_get_d, all_mem, map_cong, map-from-length}
use Rattle.guard.specs.File.{bytes, count, file, kind, literal, literal_of, name, parts, row_of, rows, term_and_variant, two_terms, types, variant, variant_term}
use Rattle.guard.specs.Grammar.{Source, ended, file_of, with_head}
use Rattle.guard.specs.Grammar as grammar
use Rattle.guard.specs.Guard.{Guard, Literal, Literal.equal, Literal.is, Literal.isnt, Literal.unequal, Row, Row.built, Row.constant, Row.field, Row.variable, no_row, row_at, type_at, type_of}
use Rattle.guard.specs.Limits.{Limits, Supported, field_limit, total_variant_limit, variant_limit}
use Rattle.guard.specs.Message.{Message}
use Rattle.guard.specs.Number.{Parsed.accepted, Parser, ◌>>=◌, ◌>>◌, ask, return, times, unfold_signed, unsigned, unsigned_of, value_width, width32}
use Rattle.guard.specs.Types.{Defaults, Types, Variant, all_defaults, default_rounds, defaults, fields_of, first_default, infinite_fields, is_number, is_some, next_default, variants_of}
use Rattle.guard.specs.WellFormed.{LiteralFits, RowFits, WellFormed}
use Rattle.guard.proofs.Reading.{Ends, Reads, ends_bind, fold_unfold, reads-after, reads-asked, reads_bind, reads-return, reads_times, reads-unsigned, reads-unsigned_of, reads_weaken}

module _ {A : Type 0} where
  abbrev pub And : (A → Type 0) → ℕ → A → ℕ → Type 0
  And P most a u = P a × (u ≤ most)

-- ---- counts, names and kinds take one byte

reads-count : (most : ℕ) → most < 128 → Reads (count most) (And (λ n. n ≤ most) 1)
reads-count most small =
    reads_bind unsigned _ (λ n u. (n ≤ width32.most) × (u ≤ 5) × (n < 128 → u ≤ 1)) (And (λ n. n ≤ most) 1) reads-unsigned
    (λ n u h. reads-asked 4 (leb n most) (return n) (λ i w. (i ≤ most) × (u + w ≤ 1))
    (λ e. let l : n ≤ most = leb-true n most e in reads-return n (λ i w. (i ≤ most) × (u + w ≤ 1)) (l, omega (arith, h.2 (omega arith)))))

reads-name : (many : ℕ) → many ≤ 128 → Reads (name many) (And (λ n. n < many) 1)
reads-name many small =
    reads_bind unsigned _ (λ n u. (n ≤ width32.most) × (u ≤ 5) × (n < 128 → u ≤ 1)) (And (λ n. n < many) 1) reads-unsigned
    (λ n u h. reads-asked 5 (ltb n many) (return n) (λ i w. (i < many) × (u + w ≤ 1))
    (λ e. let l : n < many = ltb-true n many e in reads-return n (λ i w. (i < many) × (u + w ≤ 1)) (l, omega (arith, h.2 (omega arith)))))

reads-kind : Reads kind (And (λ n. n < 4) 1)
reads-kind =
    reads_bind unsigned _ (λ n u. (n ≤ width32.most) × (u ≤ 5) × (n < 128 → u ≤ 1)) (And (λ n. n < 4) 1) reads-unsigned
    (λ n u h. reads-asked 6 (ltb n 4) (return n) (λ i w. (i < 4) × (u + w ≤ 1))
    (λ e. let l : n < 4 = ltb-true n 4 e in reads-return n (λ i w. (i < 4) × (u + w ≤ 1)) (l, omega (arith, h.2 (omega arith)))))

-- ---- types

abbrev pub VariantFits : ℕ → Variant → Type 0
VariantFits many fs = (length fs ≤ field_limit) × All (λ f. f < many) fs

abbrev pub TypeFits : ℕ → List Variant → Type 0
TypeFits many vs = (length vs ≤ variant_limit) × All (VariantFits many) vs

pub reads-variant : (many : ℕ) → many ≤ 128 → Reads (variant many) (And (VariantFits many) 4)
reads-variant many small =
    reads_bind (count field_limit) _ (And (λ n. n ≤ field_limit) 1) (And (VariantFits many) 4) (reads-count field_limit (omega arith))
    (λ f u h. reads_weaken (times f (name many)) (λ xs w. (length xs ≡ f) × All (λ i. i < many) xs × (w ≤ f * 1)) (λ xs w. VariantFits many xs × (u + w ≤ 4))
    (reads_times f 1 (name many) (λ i. i < many) (reads-name many small)) (λ xs w p. ((omega (arith, p.0, h.0), p.1), omega (arith, h.0, h.1, p.2))))

-- all variants, type by type
abbrev pub variants_in : Types → List Variant
variants_in ts = concat_map (λ vs. vs) ts

-- types behind others with so many variants: each takes a byte, and each variant at most four
abbrev pub TypesFit : ℕ → ℕ → ℕ → Types → ℕ → Type 0
TypesFit left many total ts u = (length ts ≡ left) × All (TypeFits many) ts × (total + length (variants_in ts) ≤ total_variant_limit) × (u + 4 * total ≤ left + 4 * total_variant_limit)

pub reads-types : (left many total : ℕ) → many ≤ 128 → total ≤ total_variant_limit → Reads (types left many total) (TypesFit left many total)
reads-types zero many total small fit = reads-return [] (TypesFit 0 many total) (refl, none, omega arith, omega arith)
reads-types (suc left) many total small fit =
    reads_bind unsigned _ (λ n u. (n ≤ width32.most) × (u ≤ 5) × (n < 128 → u ≤ 1)) (Good (λ z. z)) reads-unsigned
    (λ v u h. reads-asked 4 (leb v variant_limit && leb (total + v) total_variant_limit) _ (Good (λ z. u + z)) (λ e.
    let l : v ≤ variant_limit = leb-true v variant_limit (and_left (leb v variant_limit) (leb (total + v) total_variant_limit) e) in
    let m : total + v ≤ total_variant_limit = leb-true (total + v) total_variant_limit (and_right (leb v variant_limit) (leb (total + v) total_variant_limit) e) in
    let one : u ≤ 1 = h.2 (omega arith) in
    reads_bind (times v (variant many)) _ (λ vs w. (length vs ≡ v) × All (VariantFits many) vs × (w ≤ v * 4)) (Good (λ z. u + z)) (reads_times v 4 (variant many) (VariantFits many) (reads-variant many small))
    (λ vs w hv. reads_bind (types left many (total + v)) _ (TypesFit left many (total + v)) (Good (λ z. u + (w + z))) (reads-types left many (total + v) small m)
    (λ ts x ht. reads-return (vs ∷ ts) (Good (λ z. u + (w + (x + z))))
    (ap suc ht.0, more (omega (arith, hv.0), hv.1) ht.1, omega (arith, hv.0, ht.2, length-append vs (variants_in ts)), omega (arith, hv.2, ht.3))))))
  where
    Good : (ℕ → ℕ) → Types → ℕ → Type 0
    Good bytes ts z = TypesFit (suc left) many total ts (bytes z)

-- ---- term rows

-- the bytes of a row behind its kind, at most: a constant's type and value
abbrev row_bytes : ℕ
row_bytes = suc value_width.bytes

module _ (ts : Types) (rs : List Row) (few : length rs ≤ 24) (names : length ts ≤ 6) (variants : (t : ℕ) → length (variants_of ts t) ≤ variant_limit) (fields : (t v : ℕ) → length (fields_of ts t v) ≤ field_limit) where
  reads-parts : (fs : Variant) → Reads (parts ts rs fs) (λ ps u. All (λ p. p < length rs) ps × (map (type_at ts rs) ps ≡ fs) × (u ≤ length fs))
  reads-parts [] = reads-return [] (λ ps u. All (λ p. p < length rs) ps × (map (type_at ts rs) ps ≡ []) × (u ≤ 0)) (none, refl, omega arith)
  reads-parts (f ∷ fs) =
      reads_bind (name (length rs)) _ (And (λ p. p < length rs) 1) (Good (λ z. z)) (reads-name (length rs) (omega arith))
      (λ p u hp. reads-asked 7 (eqb (type_at ts rs p) f) _ (Good (λ z. u + z)) (λ e.
      reads_bind (parts ts rs fs) _ (λ ps w. All (λ p. p < length rs) ps × (map (type_at ts rs) ps ≡ fs) × (w ≤ length fs)) (Good (λ z. u + z)) (reads-parts fs)
      (λ ps w h. reads-return (p ∷ ps) (Good (λ z. u + (w + z)))
      (more hp.0 h.0, (let a : type_at ts rs p ≡ f = eqb-true _ _ e in let b : map (type_at ts rs) ps ≡ fs = h.1 in cc), omega (arith, hp.1, h.2)))))
    where
      Good : (ℕ → ℕ) → List ℕ → ℕ → Type 0
      Good bytes ps z = All (λ p. p < length rs) ps × (map (type_at ts rs) ps ≡ f ∷ fs) × (bytes z ≤ suc (length fs))

  reads-term : Reads (variant_term ts rs) (And (λ a. (a < length rs) × (is_number ts (type_at ts rs a) ≡ false)) 1)
  reads-term =
      reads_bind (name (length rs)) _ (And (λ p. p < length rs) 1) (And (λ a. (a < length rs) × (is_number ts (type_at ts rs a) ≡ false)) 1) (reads-name (length rs) (omega arith))
      (λ a u h. reads-asked 7 (not (is_number ts (type_at ts rs a))) _ (λ a z. ((a < length rs) × (is_number ts (type_at ts rs a) ≡ false)) × (u + z ≤ 1)) (λ e.
      reads-return a (λ a z. ((a < length rs) × (is_number ts (type_at ts rs a) ≡ false)) × (u + z ≤ 1)) ((h.0, not-true _ e), omega (arith, h.1))))

  -- a constant takes the most: its type and its value
  reads-row : (k : ℕ) → Reads (row_of ts rs k) (And (RowFits ts rs (length rs)) row_bytes)
  reads-row zero =
      reads_bind (name (length ts)) _ (And (λ t. t < length ts) 1) (And (RowFits ts rs (length rs)) row_bytes) (reads-name (length ts) (omega arith))
      (λ t u h. reads-return (variable t) (λ r z. RowFits ts rs (length rs) r × (u + z ≤ row_bytes)) (h.0, omega (arith, h.1)))
  reads-row (suc zero) =
      reads_bind (name (length ts)) _ (And (λ t. t < length ts) 1) (And (RowFits ts rs (length rs)) row_bytes) (reads-name (length ts) (omega arith))
      (λ t u h. reads-asked 7 (is_number ts t) _ (λ r z. RowFits ts rs (length rs) r × (u + z ≤ row_bytes)) (λ e.
      reads_bind (unsigned_of value_width) _ (λ n w. (n ≤ value_width.most) × (w ≤ value_width.bytes) × (n < 128 → w ≤ 1)) (λ r z. RowFits ts rs (length rs) r × (u + z ≤ row_bytes)) (reads-unsigned_of value_width)
      (λ n w hn. reads-return (constant t (unfold_signed n)) (λ r z. RowFits ts rs (length rs) r × (u + (w + z) ≤ row_bytes))
      ((h.0, e, subst (λ (x : ℕ). x ≤ value_width.most) (sym (fold_unfold n)) hn.0), omega (arith, h.1, hn.1)))))
  reads-row (suc (suc zero)) =
      reads_bind (name (length ts)) _ (And (λ t. t < length ts) 1) (And (RowFits ts rs (length rs)) row_bytes) (reads-name (length ts) (omega arith))
      (λ t u h. reads-asked 7 (not (is_number ts t)) _ (λ r z. RowFits ts rs (length rs) r × (u + z ≤ row_bytes)) (λ e.
      reads_bind (name (length (variants_of ts t))) _ (And (λ v. v < length (variants_of ts t)) 1) (λ r z. RowFits ts rs (length rs) r × (u + z ≤ row_bytes)) (reads-name (length (variants_of ts t)) (omega (arith, variants t)))
      (λ v w hv. reads_bind (parts ts rs (fields_of ts t v)) _ (λ ps x. All (λ p. p < length rs) ps × (map (type_at ts rs) ps ≡ fields_of ts t v) × (x ≤ length (fields_of ts t v))) (λ r z. RowFits ts rs (length rs) r × (u + (w + z) ≤ row_bytes))
      (reads-parts (fields_of ts t v))
      (λ ps x hp. reads-return (built t v ps) (λ r z. RowFits ts rs (length rs) r × (u + (w + (x + z)) ≤ row_bytes)) ((h.0, hv.0, hp.0, hp.1), omega (arith, h.1, hv.1, hp.2, fields t v))))))
  reads-row (suc (suc (suc k))) =
      reads_bind (variant_term ts rs) _ (And (λ a. (a < length rs) × (is_number ts (type_at ts rs a) ≡ false)) 1) (And (RowFits ts rs (length rs)) row_bytes) reads-term
      (λ a u h. reads_bind (name (length (variants_of ts (type_at ts rs a)))) _ (And (λ v. v < length (variants_of ts (type_at ts rs a))) 1) (λ r z. RowFits ts rs (length rs) r × (u + z ≤ row_bytes))
      (reads-name (length (variants_of ts (type_at ts rs a))) (omega (arith, variants (type_at ts rs a))))
      (λ v w hv. reads_bind (name (length (fields_of ts (type_at ts rs a) v))) _ (And (λ p. p < length (fields_of ts (type_at ts rs a) v)) 1) (λ r z. RowFits ts rs (length rs) r × (u + (w + z) ≤ row_bytes))
      (reads-name (length (fields_of ts (type_at ts rs a) v)) (omega (arith, fields (type_at ts rs a) v)))
      (λ p x hp. reads-return (field (type_at ts rs a) a v p) (λ r z. RowFits ts rs (length rs) r × (u + (w + (x + z)) ≤ row_bytes)) ((h.0.0, refl, hv.0, hp.0), omega (arith, h.1, hv.1, hp.1)))))

  -- ---- literals

  reads-pair : (make : ℕ → ℕ → Literal) → ((i j : ℕ) → i < length rs → j < length rs → type_at ts rs i ≡ type_at ts rs j → LiteralFits ts rs (make i j))
      → Reads (two_terms ts rs make) (And (LiteralFits ts rs) 2)
  reads-pair make f =
      reads_bind (name (length rs)) _ (And (λ p. p < length rs) 1) (And (LiteralFits ts rs) 2) (reads-name (length rs) (omega arith))
      (λ i u hi. reads_bind (name (length rs)) _ (And (λ p. p < length rs) 1) (λ l z. LiteralFits ts rs l × (u + z ≤ 2)) (reads-name (length rs) (omega arith))
      (λ j w hj. reads-asked 7 (eqb (type_at ts rs i) (type_at ts rs j)) _ (λ l z. LiteralFits ts rs l × (u + (w + z) ≤ 2))
      (λ e. reads-return (make i j) (λ l z. LiteralFits ts rs l × (u + (w + z) ≤ 2)) (f i j hi.0 hj.0 (eqb-true _ _ e), omega (arith, hi.1, hj.1)))))

  reads_tested : (make : ℕ → ℕ → Literal) → ((i v : ℕ) → i < length rs → v < length (variants_of ts (type_at ts rs i)) → LiteralFits ts rs (make i v))
      → Reads (term_and_variant ts rs make) (And (LiteralFits ts rs) 2)
  reads_tested make f =
      reads_bind (variant_term ts rs) _ (And (λ a. (a < length rs) × (is_number ts (type_at ts rs a) ≡ false)) 1) (And (LiteralFits ts rs) 2) reads-term
      (λ a u h. reads_bind (name (length (variants_of ts (type_at ts rs a)))) _ (And (λ v. v < length (variants_of ts (type_at ts rs a))) 1) (λ l z. LiteralFits ts rs l × (u + z ≤ 2))
      (reads-name (length (variants_of ts (type_at ts rs a))) (omega (arith, variants (type_at ts rs a))))
      (λ v w hv. reads-return (make a v) (λ l z. LiteralFits ts rs l × (u + (w + z) ≤ 2)) (f a v h.0.0 hv.0, omega (arith, h.1, hv.1))))

  reads-literal_of : (k : ℕ) → Reads (literal_of ts rs k) (And (LiteralFits ts rs) 2)
  reads-literal_of zero = reads-pair equal (λ i j a b e. (a, b, e))
  reads-literal_of (suc zero) = reads-pair unequal (λ i j a b e. (a, b, e))
  reads-literal_of (suc (suc zero)) = reads_tested is (λ i v a b. (a, b))
  reads-literal_of (suc (suc (suc k))) = reads_tested isnt (λ i v a b. (a, b))

  reads-literal : Reads (literal ts rs) (And (LiteralFits ts rs) 3)
  reads-literal =
      reads_bind kind _ (And (λ n. n < 4) 1) (And (LiteralFits ts rs) 3) reads-kind
      (λ k u h. reads_weaken (literal_of ts rs k) (And (LiteralFits ts rs) 2) (λ l z. LiteralFits ts rs l × (u + z ≤ 3)) (reads-literal_of k) (λ l w p. (p.0, omega (arith, h.1, p.1))))

-- ---- rows after rows

abbrev pub RowsFit : Types → List Row → Type 0
RowsFit ts rs = (i : ℕ) → i < length rs → RowFits ts rs i (row_at rs i)

module _ (ts : Types) (rs : List Row) (r : Row) where
  abbrev longer : List Row
  longer = rs ++ (r ∷ [])

  old : (p : ℕ) → p < length rs → row_at longer p ≡ row_at rs p
  old p h = get_or-append rs (r ∷ []) no_row p h

  -- a row that fits goes on fitting
  still : (i : ℕ) → i ≤ length rs → (w : Row) → RowFits ts rs i w → RowFits ts longer i w
  still i h (variable u) f = f
  still i h (constant u z) f = f
  still i h (built u v ps) f =
      (f.0, f.1, f.2, map_cong (type_at ts longer) (type_at ts rs) ps (λ p m. ap (type_of ts) (old p (omega (arith, all_mem f.2 p m)))) ∙ f.3)
  still i h (field u a v p) f = (f.0, ap (type_of ts) (old a (omega (arith, f.0))) ∙ f.1, f.2, f.3)

  fit-more : RowsFit ts rs → RowFits ts rs (length rs) r → RowsFit ts longer
  fit-more g f i h =
      by_test (ltb i (length rs))
      (λ e. let l : i < length rs = ltb-true i (length rs) e in subst (RowFits ts longer i) (sym (old i l)) (still i (omega arith) (row_at rs i) (g i l)))
      (λ e.
      let q : length rs ≡ i = omega (arith, ltb-false i (length rs) e, length-append rs (r ∷ [])) in
      subst (λ (j : ℕ). RowFits ts longer j (row_at longer j)) q
      (subst (RowFits ts longer (length rs)) (sym (get_or-append_seam rs r [] no_row)) (still (length rs) (omega arith) r f)))

module _ (ts : Types) (names : length ts ≤ 6) (variants : (t : ℕ) → length (variants_of ts t) ≤ variant_limit) (fields : (t v : ℕ) → length (fields_of ts t v) ≤ field_limit) where
  reads-rows : (left : ℕ) (rs : List Row) → left + length rs ≤ 24 → RowsFit ts rs
      → Reads (rows left ts rs) (λ xs u. (length xs ≡ left + length rs) × RowsFit ts xs × (u ≤ suc row_bytes * left))
  reads-rows zero rs small g = reads-return rs (λ xs u. (length xs ≡ 0 + length rs) × RowsFit ts xs × (u ≤ suc row_bytes * 0)) (omega arith, g, omega arith)
  reads-rows (suc left) rs small g =
      reads_bind kind _ (And (λ n. n < 4) 1) (Good (λ z. z)) reads-kind
      (λ k u hk. reads_bind (row_of ts rs k) _ (And (RowFits ts rs (length rs)) row_bytes) (Good (λ z. u + z)) (reads-row ts rs (omega arith) names variants fields k)
      (λ r w hr. reads_weaken (rows left ts (rs ++ (r ∷ []))) (λ xs x. (length xs ≡ left + length (rs ++ (r ∷ []))) × RowsFit ts xs × (x ≤ suc row_bytes * left)) (Good (λ z. u + (w + z)))
      (reads-rows left (rs ++ (r ∷ [])) (omega (arith, length-append rs (r ∷ []))) (fit-more ts rs r g hr.0))
      (λ xs x h. (omega (arith, h.0, length-append rs (r ∷ [])), h.1, omega (arith, hk.1, hr.1, h.2)))))
    where
      Good : (ℕ → ℕ) → List Row → ℕ → Type 0
      Good bytes xs z = (length xs ≡ suc left + length rs) × RowsFit ts xs × (bytes z ≤ suc row_bytes * suc left)

-- ---- question 8

pub defaults-length : (k : ℕ) (ts : Types) → length (default_rounds k ts) ≡ length ts
defaults-length zero ts = map-from-length (λ t. first_default t (variants_of ts t)) (length ts) 0
defaults-length (suc k) ts = map-from-length (λ t. next_default (default_rounds k ts) t (variants_of ts t) (get_or (default_rounds k ts) t none)) (length ts) 0

all-some : (ds : Defaults) (t : ℕ) → all is_some ds ≡ true → t < length ds → (m : Message) × (get_or ds t none ≡ some m)
all-some [] t e h = absurd (omega arith)
all-some (none ∷ ds) t e h = absurd (false≢true e)
all-some (some m ∷ ds) zero e h = (m, refl)
all-some (some m ∷ ds) (suc t) e h = all-some ds t e (omega arith)

-- ---- the file

pub types-at : (many : ℕ) (ts : Types) → All (TypeFits many) ts → (t : ℕ) → TypeFits many (variants_of ts t)
types-at many [] none t = (omega arith, none)
types-at many (x ∷ ts) (more a bs) zero = a
types-at many (x ∷ ts) (more a bs) (suc t) = types-at many ts bs t

pub variants_at_lem : (many : ℕ) (vs : List Variant) → All (VariantFits many) vs → (v : ℕ) → VariantFits many (get_or vs v [])
variants_at_lem many [] none v = (omega arith, none)
variants_at_lem many (x ∷ xs) (more a bs) zero = a
variants_at_lem many (x ∷ xs) (more a bs) (suc v) = variants_at_lem many xs bs v

-- T and N; a byte for each type; four for each variant, those of a constant for each row
abbrev pub longest_head : Limits → ℕ
longest_head limits = 2 + limits.types + 4 * total_variant_limit + suc row_bytes * limits.terms

-- L, and three for each line
abbrev pub longest_file : Limits → ℕ
longest_file limits = longest_head limits + (1 + 3 * limits.lines)

-- other lines under the same types and rows, as many as another limit allows
abbrev pub with_lines : Limits → ℕ → Limits
with_lines limits l = record { types = limits.types; terms = limits.terms; lines = l; rows = limits.rows }

pub with_literals : (limits : Limits) (g : Guard) → WellFormed limits g → (l : ℕ) (ls : List Literal) → length ls ≤ l → All (LiteralFits g.types g.rows) ls
    → WellFormed (with_lines limits l) (record { types = g.types; rows = g.rows; literals = ls })
with_literals limits g ok l ls few fit =
    record {
      type_count = ok.type_count;
      variant_counts = ok.variant_counts;
      field_counts = ok.field_counts;
      field_types = ok.field_types;
      ready = ok.ready;
      infinite = ok.infinite;
      term_count = ok.term_count;
      rows = ok.rows;
      line_count = few;
      literals = λ l m. all_mem fit l m;
    }

-- a guard without lines
abbrev pub head_guard : Types → List Row → Guard
head_guard ts rs = record { types = ts; rows = rs; literals = [] }

-- what is read behind the types and the rows may rely on them
pub reads-head : (A : Type 0) (limits : Limits) → Supported limits → (next : Types → List Row → Parser A) (Q : A → Type 0) (most : ℕ)
    → ((ts : Types) (rs : List Row) → WellFormed limits (head_guard ts rs) → length (variants_in ts) ≤ total_variant_limit → Reads (next ts rs) (λ a u. Q a × (u ≤ most)))
    → Reads (with_head bytes limits next) (λ a u. Q a × (u ≤ longest_head limits + most))
reads-head A limits sup next Q most then =
    reads_bind (count limits.types) _ (And (λ n. n ≤ limits.types) 1) (Good (λ z. z)) (reads-count limits.types (omega (arith, sup.types)))
    (λ many b1 hm. reads_bind (types many many 0) _ (TypesFit many many 0) (Good (λ z. b1 + z)) (reads-types many many 0 (omega (arith, hm.0, sup.types)) (omega arith))
    (λ ts b2 ht. reads-asked 8 (all_defaults ts) _ (Good (λ z. b1 + (b2 + z))) (λ e8. reads-asked 9 (infinite_fields ts) _ (Good (λ z. b1 + (b2 + z))) (λ e9.
    let tf : (t : ℕ) → TypeFits many (variants_of ts t) = types-at many ts ht.1 in
    let vf : (t v : ℕ) → VariantFits many (fields_of ts t v) = λ t v. variants_at_lem many (variants_of ts t) (tf t).1 v in
    let few : length ts ≤ 6 = omega (arith, ht.0, hm.0, sup.types) in
    reads_bind (count limits.terms) _ (And (λ n. n ≤ limits.terms) 1) (Good (λ z. b1 + (b2 + z))) (reads-count limits.terms (omega (arith, sup.terms)))
    (λ n b3 hn. reads_bind (rows n ts []) _ (λ xs u. (length xs ≡ n + 0) × RowsFit ts xs × (u ≤ suc row_bytes * n)) (Good (λ z. b1 + (b2 + (b3 + z))))
    (reads-rows ts few (λ t. (tf t).0) (λ t v. (vf t v).0) n [] (omega (arith, hn.0, sup.terms)) (λ i h. absurd (omega arith)))
    (λ rs b4 hr. reads_weaken (next ts rs) (λ a u. Q a × (u ≤ most)) (Good (λ z. b1 + (b2 + (b3 + (b4 + z)))))
    (then ts rs (
    record {
      type_count = omega (arith, ht.0, hm.0);
      variant_counts = λ t. (tf t).0;
      field_counts = λ t v. (vf t v).0;
      field_types = λ t v. subst (λ (k : ℕ). All (λ f. f < k) (fields_of ts t v)) (sym ht.0) (vf t v).1;
      ready = λ t h. all-some (defaults ts) t e8 (omega (arith, defaults-length (length ts) ts));
      infinite = e9;
      term_count = omega (arith, hr.0, hn.0);
      rows = hr.1;
      line_count = omega arith;
      literals = λ l m. absurd (Memᴰ.not-nil m);
    }) (omega (arith, ht.2)))
    (λ a u h. (h.0, omega (arith, hm.0, hm.1, ht.3, hn.0, hn.1, hr.2, h.1)))))))))
  where
    Good : (ℕ → ℕ) → A → ℕ → Type 0
    Good bytes a z = Q a × (bytes z ≤ longest_head limits + most)

-- L and the lines, under types and rows that fit
abbrev pub LinesFit : Limits → Types → List Row → List Literal → ℕ → Type 0
LinesFit limits ts rs ls u = (length ls ≤ limits.lines) × All (LiteralFits ts rs) ls × (u ≤ 1 + 3 * limits.lines)

pub reads_lines : (limits : Limits) → Supported limits → (ts : Types) (rs : List Row) → WellFormed limits (head_guard ts rs)
    → Reads (count limits.lines >>= λ l. times l (literal ts rs)) (LinesFit limits ts rs)
reads_lines limits sup ts rs ok =
    reads_bind (count limits.lines) _ (And (λ n. n ≤ limits.lines) 1) (LinesFit limits ts rs) (reads-count limits.lines (omega (arith, sup.lines)))
    (λ l b hl. reads_weaken (times l (literal ts rs)) (λ ls u. (length ls ≡ l) × All (LiteralFits ts rs) ls × (u ≤ l * 3)) (λ ls u. (length ls ≤ limits.lines) × All (LiteralFits ts rs) ls × (b + u ≤ 1 + 3 * limits.lines))
    (reads_times l 3 (literal ts rs) (LiteralFits ts rs) (reads-literal ts rs (omega (arith, ok.term_count, sup.terms)) (omega (arith, ok.type_count, sup.types)) ok.variant_counts ok.field_counts))
    (λ ls u h. (omega (arith, h.0, hl.0), h.1, omega (arith, h.2, hl.0, hl.1))))

pub reads-ended : Reads ended (λ x u. u ≡ 0)
unfolding Reads
reads-ended [] a rest e = let q : [] ≡ rest = cc in (0, ap length q ∙ omega arith, refl)
reads-ended (b ∷ bs) a rest e = let z : ◌≡◌ {A = ℕ} 0 1 = cc in absurd (omega arith)

-- what is known of an accepted guard
abbrev Accepted : Limits → Guard → Type 0
Accepted limits g = WellFormed limits g × (length (variants_in g.types) ≤ total_variant_limit)

reads-file : (limits : Limits) → Supported limits → Reads (file limits) (λ g u. Accepted limits g × (u ≤ longest_file limits))
unfolding file
reads-file limits sup =
    reads-head Guard limits sup _ (Accepted limits) (1 + 3 * limits.lines)
    (λ ts rs ok total. reads-after (count limits.lines) (λ l. times l (literal ts rs)) _ (LinesFit limits ts rs) (Good (λ z. z)) (reads_lines limits sup ts rs ok)
    (λ ls b h. reads_bind ended _ (λ x u. u ≡ 0) (Good (λ z. b + z)) reads-ended
    (λ x b7 h7. reads-return (record { types = ts; rows = rs; literals = ls }) (Good (λ z. b + (b7 + z)))
    ((with_literals limits (head_guard ts rs) ok limits.lines ls h.0 h.1, total), omega (arith, h.2, h7)))))
  where
    Good : (ℕ → ℕ) → Guard → ℕ → Type 0
    Good bytes g z = Accepted limits g × (bytes z ≤ 1 + 3 * limits.lines)

-- an accepted file holds a well-formed guard
pub accepted_well_formed : (limits : Limits) → Supported limits → (bytes : List ℕ) (g : Guard) (rest : List ℕ) → file limits bytes ≡ accepted g rest → WellFormed limits g
unfolding Reads
accepted_well_formed limits sup bytes g rest e = let (u, l, h) = reads-file limits sup bytes g rest e in h.0.0

-- with at most 48 variants in all, since question 4 is asked of each type
pub accepted-total : (limits : Limits) → Supported limits → (bytes : List ℕ) (g : Guard) (rest : List ℕ) → file limits bytes ≡ accepted g rest → length (variants_in g.types) ≤ total_variant_limit
unfolding Reads
accepted-total limits sup bytes g rest e = let (u, l, h) = reads-file limits sup bytes g rest e in h.0.1

-- after the last literal there is nothing left, wherever the numbers come from
pub source-ended : (src : Source) (limits : Limits) → Ends (file_of src limits)
unfolding Ends
source-ended src limits =
    ends_bind (grammar.count src limits.types) _ (λ many. ends_bind (grammar.types src many many 0) _ (λ ts. ends_bind (ask 8 (all_defaults ts)) _ (λ a. ends_bind (ask 9 (infinite_fields ts)) _
    (λ b. ends_bind (grammar.count src limits.terms) _ (λ n. ends_bind (grammar.rows src n ts []) _ (λ rs. ends_bind (grammar.count src limits.lines) _ (λ l. ends_bind (times l (grammar.literal src ts rs)) _ (λ ls. last ts rs ls))))))))
  where
    last : (ts : Types) (rs : List Row) (ls : List Literal) → Ends {A = Guard} (ended >> return (record { types = ts; rows = rs; literals = ls }))
    last ts rs ls [] g rest e = cc
    last ts rs ls (b ∷ bs) g rest e = let z : ◌≡◌ {A = ℕ} 0 1 = cc in absurd (omega arith)

pub accepted-ended : (limits : Limits) (bytes : List ℕ) (g : Guard) (rest : List ℕ) → file limits bytes ≡ accepted g rest → rest ≡ []
unfolding file Ends
accepted-ended limits = source-ended bytes limits

pub accepted-length : (limits : Limits) → Supported limits → (bytes : List ℕ) (g : Guard) (rest : List ℕ) → file limits bytes ≡ accepted g rest → length bytes ≤ longest_file limits
unfolding Reads
accepted-length limits sup bytes g rest e = let (u, l, h) = reads-file limits sup bytes g rest e in omega (arith, l, h.1, ap length (accepted-ended limits bytes g rest e))

-- ---- the rows part alone

module _ (ts : Types) (few : length ts ≤ 6) (variants : (t : ℕ) → length (variants_of ts t) ≤ variant_limit) (fields : (t v : ℕ) → length (fields_of ts t v) ≤ field_limit) (limit : ℕ) (supported : limit ≤ 24) where
  reads-counted : Reads (count limit >>= λ n. rows n ts []) (λ rs u. (length rs ≤ limit) × RowsFit ts rs)
  reads-counted =
      reads_bind (count limit) _ (And (λ n. n ≤ limit) 1) (λ rs u. (length rs ≤ limit) × RowsFit ts rs) (reads-count limit (omega arith))
      (λ n b hn. reads_weaken (rows n ts []) (λ xs u. (length xs ≡ n + 0) × RowsFit ts xs × (u ≤ suc row_bytes * n)) (λ rs u. (length rs ≤ limit) × RowsFit ts rs)
      (reads-rows ts few variants fields n [] (omega (arith, hn.0)) (λ i h. absurd (omega arith))) (λ xs x h. (omega (arith, h.0, hn.0), h.1)))

  pub accepted-rows : (bs : List ℕ) (rs : List Row) (rest : List ℕ) → (count limit >>= λ n. rows n ts []) bs ≡ accepted rs rest → (length rs ≤ limit) × RowsFit ts rs
  unfolding Reads
  accepted-rows bs rs rest e = let (u, l, h) = reads-counted bs rs rest e in h

-- rows that fit have types that are there
pub row_type : (ts : Types) → ((t v : ℕ) → All (λ f. f < length ts) (fields_of ts t v)) → (rs : List Row) → RowsFit ts rs → (i : ℕ) → i < length rs → type_at ts rs i < length ts
row_type ts typed rs fit i h = go (row_at rs i) (fit i h)
  where
    go : (r : Row) → RowFits ts rs i r → type_of ts r < length ts
    go (variable t) g = g
    go (constant t z) g = g.0
    go (built t v ps) g = g.0
    go (field t a v p) g = all_get_d (typed t v) p 0 g.3
