-- The questions asked of a list, and those asked of its plain bytes, get the same answers: along the file. Assumes nothing.
use mathlib.Core.Path.{◌≡◌, refl, ap, ap₂, sym, subst, ◌∙◌}
use mathlib.Core.Bool.{Bool, true, not, ◌&&◌}
use mathlib.Core.List.{List, [], ◌∷◌, ◌++◌, map-append}
use Prim.Native.Nat.{ℕ, zero, suc, ◌+◌, ◌-◌, ◌*◌, ◌≤◌, ◌<◌}
use native.Mathlib.Omega.{arith}
use lib.Dec.{leb, ltb, eqb}
use lib.ListN.{length, take, length-append, length-map, get_or-map}
use borrow.Author.Tests.{leb-true, ltb-true}
use Rattle.laws.specs.All.{All}
use Rattle.laws.proofs.Bools.{and_left, and_right}
use Rattle.guard.specs.File.{bytes, file}
use Rattle.guard.specs.Grammar.{Source, count, ended, file_of, kind, literal, literal_of, name, parts, row_of, rows, term_and_variant, two_terms, types, variant, variant_term}
use Rattle.guard.specs.Guard.{Guard, Literal, Literal.equal, Literal.is, Literal.isnt, Literal.unequal, Row, Row.built, Row.constant, Row.field, Row.variable, no_row, row_at, type_at, type_of}
use Rattle.guard.specs.Limits.{Limits, Supported, field_limit, total_variant_limit, variant_limit}
use Rattle.guard.specs.Number.{Parsed, Parsed.accepted, Parsed.refused, Parser, ◌>>=◌, ◌>>◌, ask, return, times, unfold_signed}
use Rattle.guard.specs.Types.{Types, Variant, all_defaults, fields_of, infinite_fields, is_number, variants_of}
use Rattle.guard.proofs.Accepted.{TypeFits, reads-types, types-at, variants_at_lem}
use Rattle.guard.proofs.Reading.{Reads, reads_weaken}
use Rattle.serialize.specs.NumberList.{number_list, number_types, types_asked}
use Rattle.listreader.specs.ListReader.{valueless, valueless_row, valueless_rows}
use Rattle.listreader.specs.Plain.{largest, most_numbers, plain_of}
use Rattle.listreader.specs.Written.{Narrow}
use Rattle.listreader.proofs.Simulation.{Agree, Any, Same, Sim, sim_asked, sim_bind, sim_bind_same, sim_ended, sim_folded, sim_gives, sim_number, sim_question, sim_return, sim_room, sim_times}

-- ---- counts, names and kinds

sim_count : (most : ℕ) → most < largest → Sim 1 (count number_list most) (count bytes most) (Same (λ n. n ≤ most))
sim_count most small =
    sim_number 0 4 (λ n. leb n most) return return (Same (λ n. n ≤ most)) (omega arith) (λ v e. omega (arith, leb-true v most e))
    (λ v e. sim_return v v (Same (λ n. n ≤ most)) (refl, leb-true v most e))

sim_name : (many many' : ℕ) → many ≡ many' → many ≤ largest → Sim 1 (name number_list many) (name bytes many') (Same (λ n. n < many))
sim_name many many' same small =
    subst (λ (k : ℕ). Sim 1 (name number_list many) (name bytes k) (Same (λ n. n < many))) same
    (sim_number 0 5 (λ n. ltb n many) return return (Same (λ n. n < many)) (omega arith) (λ v e. omega (arith, ltb-true v many e))
    (λ v e. sim_return v v (Same (λ n. n < many)) (refl, ltb-true v many e)))

sim_kind : Sim 1 (kind number_list) (kind bytes) (Same Any)
sim_kind =
    sim_number 0 6 (λ n. ltb n 4) return return (Same Any) (omega arith) (λ v e. omega (arith, ltb-true v 4 e)) (λ v e. sim_return v v (Same Any) (refl, tt))

-- ---- types

sim_variant : (many : ℕ) → many ≤ largest → Sim 4 (variant number_list many) (variant bytes many) (Same Any)
sim_variant many small =
    sim_bind_same 1 3 (count number_list field_limit) (count bytes field_limit) _ _ (λ n. n ≤ field_limit) (Same Any) (sim_count field_limit (omega arith))
    (λ f h. sim_room (f * 1) 3 (times f (name number_list many)) (times f (name bytes many)) (Same Any) (omega arith)
    (sim_times f 1 (name number_list many) (name bytes many) (λ n. n < many) (sim_name many many refl small)))

-- each type takes a number, and each variant at most four
sim_types : (left many total : ℕ) → many ≤ largest → total ≤ total_variant_limit
    → Sim (left + 4 * (total_variant_limit - total)) (types number_list left many total) (types bytes left many total) (Same Any)
sim_types zero many total small fit =
    sim_room 0 (0 + 4 * (total_variant_limit - total)) (return []) (return []) (Same Any) (omega arith) (sim_return [] [] (Same Any) (refl, tt))
sim_types (suc left) many total small fit =
    sim_room (1 + (left + 4 * (total_variant_limit - total))) (suc left + 4 * (total_variant_limit - total)) _ _ (Same Any) (omega arith)
    (sim_number (left + 4 * (total_variant_limit - total)) 4 test (after number_list) (after bytes) (Same Any) (omega arith) (λ v e. omega (arith, few v e)) (λ v e.
    let l : total + v ≤ total_variant_limit = leb-true (total + v) total_variant_limit (and_right (leb v variant_limit) (leb (total + v) total_variant_limit) e) in
    sim_room (v * 4 + (left + 4 * (total_variant_limit - (total + v)) + 0)) (left + 4 * (total_variant_limit - total)) (after number_list v) (after bytes v) (Same Any) (omega arith)
    (sim_bind_same (v * 4) (left + 4 * (total_variant_limit - (total + v)) + 0) (times v (variant number_list many)) (times v (variant bytes many)) _ _ Any (Same Any)
    (sim_times v 4 (variant number_list many) (variant bytes many) Any (sim_variant many small))
    (λ vs hv. sim_bind_same (left + 4 * (total_variant_limit - (total + v))) 0 (types number_list left many (total + v)) (types bytes left many (total + v)) _ _ Any (Same Any)
    (sim_types left many (total + v) small l)
    (λ ts ht. sim_return (vs ∷ ts) (vs ∷ ts) (Same Any) (refl, tt))))))
  where
    test : ℕ → Bool
    test v = leb v variant_limit && leb (total + v) total_variant_limit

    few : (v : ℕ) → test v ≡ true → v ≤ variant_limit
    few v e = leb-true v variant_limit (and_left (leb v variant_limit) (leb (total + v) total_variant_limit) e)

    after : Source → ℕ → Parser Types
    after src v = times v (variant src many) >>= λ vs. types src left many (total + v) >>= λ ts. return (vs ∷ ts)

-- ---- term rows: both parsers have rows that are alike but for the values of constants

abbrev Alike : Row → Row → Type 0
Alike r s = valueless_row r ≡ valueless_row s

abbrev AlikeRows : List Row → List Row → Type 0
AlikeRows rs ss = valueless_rows rs ≡ valueless_rows ss

same-type : (ts : Types) (r : Row) → type_of ts (valueless_row r) ≡ type_of ts r
same-type ts (variable t) = refl
same-type ts (constant t z) = refl
same-type ts (built t v ps) = refl
same-type ts (field t a v p) = refl

-- the sizes of the types that a file may have
record Sizes (ts : Types) : Type 0 where
  types : length ts ≤ 6
  variants : (t : ℕ) → length (variants_of ts t) ≤ variant_limit
  fields : (t v : ℕ) → length (fields_of ts t v) ≤ field_limit

module _ (ts : Types) (sizes : Sizes ts) (rs ss : List Row) (alike : AlikeRows rs ss) (few : length rs ≤ 24) where
  same-many : length rs ≡ length ss
  same-many = sym (length-map rs valueless_row) ∙ ap length alike ∙ length-map ss valueless_row

  type_of_lem : (xs : List Row) (i : ℕ) → type_of ts (row_at (valueless_rows xs) i) ≡ type_at ts xs i
  type_of_lem xs i = ap (type_of ts) (get_or-map valueless_row xs i no_row) ∙ same-type ts (row_at xs i)

  same_typed : (i : ℕ) → type_at ts rs i ≡ type_at ts ss i
  same_typed i = sym (type_of_lem rs i) ∙ ap (λ (xs : List Row). type_of ts (row_at xs i)) alike ∙ type_of_lem ss i

  -- a term
  sim_term : Sim 1 (name number_list (length rs)) (name bytes (length ss)) (Same (λ n. n < length rs))
  sim_term = sim_name (length rs) (length ss) same-many (omega arith)

  sim_parts : (fs : Variant) → Sim (length fs) (parts number_list ts rs fs) (parts bytes ts ss fs) (Same Any)
  sim_parts [] = sim_return [] [] (Same Any) (refl, tt)
  sim_parts (f ∷ fs) =
      sim_room (1 + (length fs + 0)) (length (f ∷ fs)) (parts number_list ts rs (f ∷ fs)) (parts bytes ts ss (f ∷ fs)) (Same Any) (omega arith)
      (sim_bind_same 1 (length fs + 0) (name number_list (length rs)) (name bytes (length ss)) _ _ (λ p. p < length rs) (Same Any) sim_term
      (λ p hp. sim_asked (length fs + 0) 7 (eqb (type_at ts rs p) f) (eqb (type_at ts ss p) f) _ _ (Same Any) (omega arith) (ap (λ (t : ℕ). eqb t f) (same_typed p)) (λ e.
      sim_bind_same (length fs) 0 (parts number_list ts rs fs) (parts bytes ts ss fs) _ _ Any (Same Any) (sim_parts fs)
      (λ ps h. sim_return (p ∷ ps) (p ∷ ps) (Same Any) (refl, tt)))))

  sim_variant_term : Sim 1 (variant_term number_list ts rs) (variant_term bytes ts ss) (Same Any)
  sim_variant_term =
      sim_bind_same 1 0 (name number_list (length rs)) (name bytes (length ss)) _ _ (λ p. p < length rs) (Same Any) sim_term
      (λ a h. sim_asked 0 7 (not (is_number ts (type_at ts rs a))) (not (is_number ts (type_at ts ss a))) _ _ (Same Any) (omega arith) (ap (λ (t : ℕ). not (is_number ts t)) (same_typed a))
      (λ e. sim_return a a (Same Any) (refl, tt)))

  -- a variant of a term's type
  sim_variant_of : (a : ℕ) → Sim 1 (name number_list (length (variants_of ts (type_at ts rs a)))) (name bytes (length (variants_of ts (type_at ts ss a)))) (Same (λ v. v < length (variants_of ts (type_at ts rs a))))
  sim_variant_of a = sim_name _ _ (ap (λ (t : ℕ). length (variants_of ts t)) (same_typed a)) (omega (arith, sizes.variants (type_at ts rs a)))

  -- a built row takes the most: type, variant and three parts
  sim_row : (k : ℕ) → Sim 5 (row_of number_list ts rs k) (row_of bytes ts ss k) Alike
  sim_row zero =
      sim_room 1 5 (row_of number_list ts rs 0) (row_of bytes ts ss 0) Alike (omega arith)
      (sim_bind_same 1 0 (name number_list (length ts)) (name bytes (length ts)) _ _ (λ t. t < length ts) Alike (sim_name (length ts) (length ts) refl (omega (arith, sizes.types)))
      (λ t h. sim_return (variable t) (variable t) Alike refl))
  sim_row (suc zero) =
      sim_room 2 5 (row_of number_list ts rs 1) (row_of bytes ts ss 1) Alike (omega arith)
      (sim_bind_same 1 1 (name number_list (length ts)) (name bytes (length ts)) _ _ (λ t. t < length ts) Alike (sim_name (length ts) (length ts) refl (omega (arith, sizes.types)))
      (λ t h. sim_asked 1 7 (is_number ts t) (is_number ts t) _ _ Alike (omega arith) refl (λ e.
      sim_bind 1 0 number_list.folded bytes.folded _ _ (λ a b. Unit {0}) Alike
      (λ a b u. sim_return (constant t (unfold_signed a)) (constant t (unfold_signed b)) Alike refl) sim_folded)))
  sim_row (suc (suc zero)) =
      (sim_bind_same 1 4 (name number_list (length ts)) (name bytes (length ts)) _ _ (λ t. t < length ts) Alike (sim_name (length ts) (length ts) refl (omega (arith, sizes.types)))
      (λ t h. sim_asked 4 7 (not (is_number ts t)) (not (is_number ts t)) _ _ Alike (omega arith) refl (λ e.
      sim_bind_same 1 3 (name number_list (length (variants_of ts t))) (name bytes (length (variants_of ts t))) _ _ (λ v. v < length (variants_of ts t)) Alike
      (sim_name (length (variants_of ts t)) (length (variants_of ts t)) refl (omega (arith, sizes.variants t)))
      (λ v hv. sim_bind_same 3 0 (parts number_list ts rs (fields_of ts t v)) (parts bytes ts ss (fields_of ts t v)) _ _ Any Alike
      (sim_room (length (fields_of ts t v)) 3 (parts number_list ts rs (fields_of ts t v)) (parts bytes ts ss (fields_of ts t v)) (Same Any) (sizes.fields t v) (sim_parts (fields_of ts t v)))
      (λ ps hp. sim_return (built t v ps) (built t v ps) Alike refl)))))
  sim_row (suc (suc (suc k))) =
      (sim_room 3 5 (row_of number_list ts rs (suc (suc (suc k)))) (row_of bytes ts ss (suc (suc (suc k)))) Alike (omega arith)
      (sim_bind_same 1 2 (variant_term number_list ts rs) (variant_term bytes ts ss) _ _ Any Alike sim_variant_term
      (λ a h. sim_bind_same 1 1 (name number_list (length (variants_of ts (type_at ts rs a)))) (name bytes (length (variants_of ts (type_at ts ss a)))) _ _ (λ v. v < length (variants_of ts (type_at ts rs a))) Alike (sim_variant_of a)
      (λ v hv. sim_bind_same 1 0 (name number_list (length (fields_of ts (type_at ts rs a) v))) (name bytes (length (fields_of ts (type_at ts ss a) v))) _ _ (λ p. p < length (fields_of ts (type_at ts rs a) v)) Alike
      (sim_name _ _ (ap (λ (t : ℕ). length (fields_of ts t v)) (same_typed a)) (omega (arith, sizes.fields (type_at ts rs a) v)))
      (λ p hp. sim_return (field (type_at ts rs a) a v p) (field (type_at ts ss a) a v p) Alike (ap (λ (t : ℕ). field t a v p) (same_typed a)))))))

  -- ---- literals

  sim_two : (make : ℕ → ℕ → Literal) → Sim 2 (two_terms number_list ts rs make) (two_terms bytes ts ss make) (Same Any)
  sim_two make =
      sim_bind_same 1 1 (name number_list (length rs)) (name bytes (length ss)) _ _ (λ p. p < length rs) (Same Any) sim_term
      (λ i hi. sim_bind_same 1 0 (name number_list (length rs)) (name bytes (length ss)) _ _ (λ p. p < length rs) (Same Any) sim_term
      (λ j hj. sim_asked 0 7 (eqb (type_at ts rs i) (type_at ts rs j)) (eqb (type_at ts ss i) (type_at ts ss j)) _ _ (Same Any) (omega arith) (ap₂ eqb (same_typed i) (same_typed j))
      (λ e. sim_return (make i j) (make i j) (Same Any) (refl, tt))))

  sim_tested : (make : ℕ → ℕ → Literal) → Sim 2 (term_and_variant number_list ts rs make) (term_and_variant bytes ts ss make) (Same Any)
  sim_tested make =
      sim_bind_same 1 1 (variant_term number_list ts rs) (variant_term bytes ts ss) _ _ Any (Same Any) sim_variant_term
      (λ a h. sim_bind_same 1 0 (name number_list (length (variants_of ts (type_at ts rs a)))) (name bytes (length (variants_of ts (type_at ts ss a)))) _ _ (λ v. v < length (variants_of ts (type_at ts rs a))) (Same Any) (sim_variant_of a)
      (λ v hv. sim_return (make a v) (make a v) (Same Any) (refl, tt)))

  sim_literal_of : (k : ℕ) → Sim 2 (literal_of number_list ts rs k) (literal_of bytes ts ss k) (Same Any)
  sim_literal_of zero = sim_two equal
  sim_literal_of (suc zero) = sim_two unequal
  sim_literal_of (suc (suc zero)) = sim_tested is
  sim_literal_of (suc (suc (suc k))) = sim_tested isnt

  sim_literal : Sim 3 (literal number_list ts rs) (literal bytes ts ss) (Same Any)
  sim_literal = sim_bind_same 1 2 (kind number_list) (kind bytes) _ _ Any (Same Any) sim_kind (λ k h. sim_literal_of k)

-- ---- rows after rows

alike-more : (rs ss : List Row) (r s : Row) → AlikeRows rs ss → Alike r s → AlikeRows (rs ++ (r ∷ [])) (ss ++ (s ∷ []))
alike-more rs ss r s a b = map-append valueless_row rs (r ∷ []) ∙ ap₂ (λ (xs : List Row) (x : Row). xs ++ (x ∷ [])) a b ∙ sym (map-append valueless_row ss (s ∷ []))

abbrev Rows : List Row → List Row → Type 0
Rows rs ss = AlikeRows rs ss × (length rs ≤ 24)

sim_rows : (ts : Types) → Sizes ts → (left : ℕ) (rs ss : List Row) → AlikeRows rs ss → left + length rs ≤ 24 → Sim (6 * left) (rows number_list left ts rs) (rows bytes left ts ss) Rows
sim_rows ts sizes zero rs ss alike few = sim_return rs ss Rows (alike, omega arith)
sim_rows ts sizes (suc left) rs ss alike few =
    sim_room (1 + (5 + 6 * left)) (6 * suc left) (rows number_list (suc left) ts rs) (rows bytes (suc left) ts ss) Rows (omega arith)
    (sim_bind_same 1 (5 + 6 * left) (kind number_list) (kind bytes) _ _ Any Rows sim_kind
    (λ k h. sim_bind 5 (6 * left) (row_of number_list ts rs k) (row_of bytes ts ss k) _ _ Alike Rows
    (λ r s a. sim_rows ts sizes left (rs ++ (r ∷ [])) (ss ++ (s ∷ [])) (alike-more rs ss r s alike a) (omega (arith, length-append rs (r ∷ []))))
    (sim_row ts sizes rs ss alike (omega arith) k)))

-- ---- the file

-- types that the parser accepts, so many of them
record Fit (many : ℕ) (ts : Types) : Type 0 where
  as_many : length ts ≡ many
  each : All (TypeFits many) ts

types-fit : (many : ℕ) → many ≤ 6 → Reads (types bytes many many 0) (λ ts u. Fit many ts)
types-fit many small = reads_weaken (types bytes many many 0) _ (λ ts u. Fit many ts) (reads-types many many 0 (omega arith) (omega arith)) (λ ts u f. record { as_many = f.0; each = f.1 })

sizes_of : (many : ℕ) (ts : Types) → many ≤ 6 → Fit many ts → Sizes ts
sizes_of many ts small f =
    record {
      types = omega (arith, f.as_many);
      variants = λ t. (types-at many ts f.each t).0;
      fields = λ t v. (variants_at_lem many (variants_of ts t) (types-at many ts f.each t).1 v).0;
    }

abbrev pub AlikeGuards : Guard → Guard → Type 0
AlikeGuards g h = valueless h ≡ valueless g

-- the questions answer of a list what they answer of its plain bytes, and never 3
abbrev pub Answers : Parsed Guard → Parsed Guard → Type 0
Answers (accepted g rest) (accepted h rest') = AlikeGuards g h
Answers (accepted g rest) (refused q) = ⊥
Answers (refused q) (accepted h rest) = ⊥
Answers (refused q) (refused q') = (q ≡ q') × (¬ (q ≡ 3))

module _ (limits : Limits) (sup : Supported limits) where
  abbrev guard : Types → List Row → List Literal → Guard
  guard ts rs ls = record { types = ts; rows = rs; literals = ls }

  abbrev lines : Source → Types → List Row → Parser Guard
  lines src ts rs = count src limits.lines >>= λ l. times l (literal src ts rs) >>= λ ls. ended >> return (guard ts rs ls)

  sim_lines : (ts : Types) → Sizes ts → (rs ss : List Row) → Rows rs ss → Sim (1 + (3 * limits.lines + 1)) (lines number_list ts rs) (lines bytes ts ss) AlikeGuards
  sim_lines ts sizes rs ss (alike, few) =
      sim_bind_same 1 (3 * limits.lines + 1) (count number_list limits.lines) (count bytes limits.lines) _ _ (λ n. n ≤ limits.lines) AlikeGuards (sim_count limits.lines (omega (arith, sup.lines)))
      (λ l h. sim_bind_same (3 * limits.lines) 1 (times l (literal number_list ts rs)) (times l (literal bytes ts ss)) _ _ Any AlikeGuards
      (sim_room (l * 3) (3 * limits.lines) (times l (literal number_list ts rs)) (times l (literal bytes ts ss)) (Same Any) (omega arith)
      (sim_times l 3 (literal number_list ts rs) (literal bytes ts ss) Any (sim_literal ts sizes rs ss alike few)))
      (λ ls u. sim_bind_same 1 0 ended ended _ _ Any AlikeGuards sim_ended
      (λ x v. sim_return (guard ts rs ls) (guard ts ss ls) AlikeGuards (ap (λ (xs : List Row). guard ts xs ls) (sym alike)))))

  abbrev terms : Source → Types → Parser Guard
  terms src ts = count src limits.terms >>= λ n. rows src n ts [] >>= lines src ts

  sim_terms : (ts : Types) → Sizes ts → Sim (1 + (6 * limits.terms + (1 + (3 * limits.lines + 1)))) (terms number_list ts) (terms bytes ts) AlikeGuards
  sim_terms ts sizes =
      sim_bind_same 1 (6 * limits.terms + (1 + (3 * limits.lines + 1))) (count number_list limits.terms) (count bytes limits.terms) _ _ (λ n. n ≤ limits.terms) AlikeGuards
      (sim_count limits.terms (omega (arith, sup.terms)))
      (λ n h. sim_bind (6 * limits.terms) (1 + (3 * limits.lines + 1)) (rows number_list n ts []) (rows bytes n ts []) (lines number_list ts) (lines bytes ts) Rows AlikeGuards
      (sim_lines ts sizes)
      (sim_room (6 * n) (6 * limits.terms) (rows number_list n ts []) (rows bytes n ts []) Rows (omega arith) (sim_rows ts sizes n [] [] refl (omega (arith, sup.terms)))))

  -- T and the types, with the questions 8 and 9, and what follows
  module _ {A : Type 0} where
    abbrev begun : Source → (Types → Parser A) → Parser A
    begun src f = count src limits.types >>= λ many. types src many many 0 >>= λ ts. ask 8 (all_defaults ts) >> (ask 9 (infinite_fields ts) >> f ts)

    sim_begun : (k : ℕ) (f f' : Types → Parser A) (R : A → A → Type 0) → ((ts : Types) → Sizes ts → Sim k (f ts) (f' ts) R)
        → Sim (1 + (limits.types + 4 * total_variant_limit + k)) (begun number_list f) (begun bytes f') R
    sim_begun k f f' R h =
        sim_bind_same 1 (limits.types + 4 * total_variant_limit + k) (count number_list limits.types) (count bytes limits.types) _ _ (λ n. n ≤ limits.types) R
        (sim_count limits.types (omega (arith, sup.types)))
        (λ many few. sim_bind_same (limits.types + 4 * total_variant_limit) k (types number_list many many 0) (types bytes many many 0) _ _ (Fit many) R
        (sim_gives (limits.types + 4 * total_variant_limit) (types number_list many many 0) (types bytes many many 0) Any (Fit many) (types-fit many (omega (arith, sup.types)))
        (sim_room (many + 4 * (total_variant_limit - 0)) (limits.types + 4 * total_variant_limit) (types number_list many many 0) (types bytes many many 0) (Same Any) (omega arith)
        (sim_types many many 0 (omega (arith, sup.types)) (omega arith))))
        (λ ts fit. sim_asked k 8 (all_defaults ts) (all_defaults ts) _ _ R (omega arith) refl (λ e8. sim_asked k 9 (infinite_fields ts) (infinite_fields ts) (f ts) (f' ts) R (omega arith) refl (λ e9.
        h ts (sizes_of many ts (omega (arith, sup.types)) fit)))))

  sim_file : Sim (most_numbers limits) (file_of number_list limits) (file_of bytes limits) AlikeGuards
  sim_file =
      sim_room (1 + (limits.types + 4 * total_variant_limit + (1 + (6 * limits.terms + (1 + (3 * limits.lines + 1)))))) (most_numbers limits) (file_of number_list limits) (file_of bytes limits) AlikeGuards (omega arith)
      (sim_begun (1 + (6 * limits.terms + (1 + (3 * limits.lines + 1)))) (terms number_list) (terms bytes) AlikeGuards sim_terms)

  sim_types_asked : Sim (most_numbers limits) (types_asked number_list limits) (types_asked bytes limits) (Same Any)
  sim_types_asked =
      sim_room (1 + (limits.types + 4 * total_variant_limit + 0)) (most_numbers limits) (types_asked number_list limits) (types_asked bytes limits) (Same Any) (omega arith)
      (sim_begun 0 (λ ts. ask 18 (leb (number_types ts) 1)) (λ ts. ask 18 (leb (number_types ts) 1)) (Same Any) (λ ts sizes. sim_question 18 (leb (number_types ts) 1) (omega arith)))

  pub simulated_types : (ws : List ℕ) (n : ℕ) → All Narrow (take n ws) → most_numbers limits ≤ n → Agree 0 (Same Any) (types_asked number_list limits ws) (types_asked bytes limits (plain_of n ws))
  unfolding Sim
  simulated_types ws n narrow room = sim_types_asked ws n 0 narrow (omega arith)

  pub simulated : (ws : List ℕ) (n : ℕ) → All Narrow (take n ws) → most_numbers limits ≤ n → Answers (file_of number_list limits ws) (file limits (plain_of n ws))
  unfolding Sim file
  simulated ws n narrow room = go (file_of number_list limits ws) (file_of bytes limits (plain_of n ws)) (sim_file ws n 0 narrow (omega arith))
    where
      go : (r r' : Parsed Guard) → Agree 0 AlikeGuards r r' → Answers r r'
      go (refused q) (refused q') e = e
      go (refused q) (accepted h rest) e = absurd e
      go (accepted g rest) (refused q') e = absurd e
      go (accepted g rest) (accepted h rest') (n', e, l, c, a) = a
