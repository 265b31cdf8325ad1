-- The tables of a well-formed guard meet what `sibling_fields` requires, and its columns are those of the guard.
-- Assumes nothing.
use mathlib.Core.Path.{◌≡◌, refl, ap, sym, ◌∙◌, subst}
use mathlib.Core.Bool.{cond}
use mathlib.Core.List.{List, [], ◌∷◌, map}
use Prim.Native.Nat.{ℕ, suc, ◌+◌, ◌*◌, ◌/◌, ◌%◌, ◌≤◌, ◌<◌}
use native.Mathlib.Omega.{arith}
use lib.Dec.{eqb, ltb}
use lib.ListN.{length, get_or, get_or-eq_default}
use borrow.Author.Tests.{ltb-true, ltb-false}
use Rattle.laws.specs.All.{All, All.more, All.none}
use Rattle.laws.specs.Lists.{from}
use Rattle.laws.proofs.Bools.{by_test}
use Rattle.laws.proofs.Lists.{map-length}
use Rattle.guard.specs.Guard.{Guard, Row, Row.built, Row.constant, Row.field, Row.variable, no_row, row_at, type_at}
use Rattle.guard.specs.Limits.{Limits, Supported, total_variant_limit}
use Rattle.guard.specs.Terms.{from_rows}
use Rattle.guard.specs.Types.{Types, fields_of}
use Rattle.guard.specs.WellFormed.{RowFits, WellFormed}
use Rattle.tables.specs.Layout.{flat, pad, row_kind, row_parts, row_table, row_variant, type_table}
use Rattle.tables.proofs.Columns.{pad_get}
use Rattle.tables.proofs.Lookups.{arity-at, first-at, flat-all, offset_inside, offset_of, row-kind-at, row-part-at, row-type_anywhere, row-variant-at, sort-at}
use Rattle.fieldterms.specs.FieldTerms.{ReadsInRange, field_term_at, place_at, sibling_position}
use Rattle.fieldterms.proofs.FieldTermLaws.{position-small}
use Rattle.siblings.specs.Siblings.{field_entries, field_entry, row_fields, row_sorts, siblings_by, siblings_in, sort_entries, sort_entry}
use Rattle.siblings.proofs.EntryLaws.{both-columns, field-other, sort-other}
use Rattle.siblings.proofs.RowEntries.{place_of-row, places_by_row, read-fields, read-sorts, sort_or0, term_or0, three, two}

all-at : {A : Type 0} (P : A → Type 0) (d : A) (xs : List A) → ((i : ℕ) → i < length xs → P (get_or xs i d)) → All P xs
all-at P d [] h = none
all-at P d (x ∷ xs) h = more (h 0 (omega arith)) (all-at P d xs (λ i l. h (suc i) (omega arith)))

row-many : (ts : Types) (rs : List Row) → (row_table ts rs).many ≡ length rs
unfolding row_table
row-many ts rs = refl

module _ (limits : Limits) (supported : Supported limits) (g : Guard) (ok : WellFormed limits g) (total : length (flat g.types) ≤ total_variant_limit) where
  abbrev ts : Types
  ts = g.types

  abbrev rs : List Row
  rs = g.rows

  few-fields : All (λ fs. length fs ≤ 3) (flat ts)
  few-fields = flat-all (λ fs. length fs ≤ 3) ts ok.field_counts

  few-parts : All (λ r. length (row_parts r) ≤ 3) rs
  few-parts = all-at (λ r. length (row_parts r) ≤ 3) no_row rs (λ i h. go i (row_at rs i) (ok.rows i h))
    where
      go : (i : ℕ) (r : Row) → RowFits ts rs i r → length (row_parts r) ≤ 3
      go i (variable t) h = omega arith
      go i (constant t z) h = omega arith
      go i (built t v ps) (ht, hv, hp, e) = omega (arith, map-length (type_at ts rs) ps, ap length e, ok.field_counts t v)
      go i (field t a v p) h = omega arith

  abbrev kinds : List ℕ
  kinds = (row_table ts rs).kinds

  abbrev types : List ℕ
  types = (row_table ts rs).types

  abbrev variants : List ℕ
  variants = (row_table ts rs).variants

  abbrev parts : List ℕ
  parts = (row_table ts rs).parts

  abbrev first : List ℕ
  first = (type_table ts).first

  abbrev arities : List ℕ
  arities = (type_table ts).arities

  abbrev sorts : List ℕ
  sorts = (type_table ts).sorts

  -- ---- a field row

  module _ (i : ℕ) (inside : i < length rs) (t a v p : ℕ) (is : row_at rs i ≡ field t a v p) where
    fits : RowFits ts rs i (field t a v p)
    fits = subst (RowFits ts rs i) is (ok.rows i inside)

    type-inside : t < length ts
    type-inside =
        by_test (ltb t (length ts)) (λ e. ltb-true _ _ e)
        (λ e. absurd (omega (arith, fits.2, ap length (get_or-eq_default ts [] {n = t} (ltb-false t (length ts) e)))))

    kind-is : get_or kinds i 0 ≡ 3
    kind-is = row-kind-at ts rs i inside ∙ ap row_kind is

    term_is : get_or parts (3 * i) 0 ≡ a
    term_is = let e : 3 * i ≡ 3 * i + 0 = omega arith in ap (λ (k : ℕ). get_or parts k 0) e ∙ row-part-at ts rs i inside 0 few-parts (omega arith) ∙ ap (λ (r : Row). get_or (row_parts r) 0 0) is

    position-is : get_or parts (3 * i + 1) 0 ≡ p
    position-is = row-part-at ts rs i inside 1 few-parts (omega arith) ∙ ap (λ (r : Row). get_or (row_parts r) 1 0) is

    type-is : get_or types (get_or parts (3 * i) 0) 0 ≡ t
    type-is = ap (λ (k : ℕ). get_or types k 0) term_is ∙ row-type_anywhere ts rs a ∙ fits.1

    variant_is : get_or variants i 0 ≡ v
    variant_is = row-variant-at ts rs i inside ∙ ap row_variant is

    place_at_lem : place_at types variants parts first i ≡ offset_of ts t + v
    unfolding place_at
    place_at_lem = let e : get_or first (get_or types (get_or parts (3 * i) 0) 0) 0 ≡ offset_of ts t = ap (λ (k : ℕ). get_or first k 0) type-is ∙ first-at ts t type-inside in omega (arith, e, variant_is)

    arity-is : get_or arities (place_at types variants parts first i) 0 ≡ length (fields_of ts t v)
    arity-is = ap (λ (k : ℕ). get_or arities k 0) place_at_lem ∙ arity-at ts t v fits.2

    sort-is : (q : ℕ) → q < 3 → get_or sorts (3 * place_at types variants parts first i + q) 0 ≡ get_or (fields_of ts t v) q 0
    sort-is q h = ap (λ (k : ℕ). get_or sorts (3 * k + q) 0) place_at_lem ∙ sort-at ts t v q few-fields fits.2 h

    place-small : place_at types variants parts first i < 48
    place-small = omega (arith, place_at_lem, offset_inside ts t, fits.2, total)

    read-entry : (q : ℕ) → field_entry kinds types variants parts first arities i q ≡ term_or0 i p (length (fields_of ts t v)) q
    unfolding field_entry
    read-entry q =
        ap (λ (k : ℕ). cond (eqb k 3) (cond (ltb q (get_or arities (place_at types variants parts first i) 0)) (field_term_at i (get_or parts (3 * i + 1) 0) q) 0) 0) kind-is
        ∙ ap (λ (k : ℕ). cond (ltb q k) (field_term_at i (get_or parts (3 * i + 1) 0) q) 0) arity-is ∙ ap (λ (k : ℕ). cond (ltb q (length (fields_of ts t v))) (field_term_at i k q) 0) position-is

    read-sort : (k : ℕ) → k < 2 → sort_entry kinds types variants parts first arities sorts i k ≡ sort_or0 p (fields_of ts t v) k
    unfolding sort_entry
    read-sort k h =
        ap (λ (n : ℕ). cond (eqb n 3) (cond (ltb q₀ (get_or arities w 0)) (get_or sorts (3 * w + q₀) 0 + 1) 0) 0) kind-is
        ∙ ap (λ (n : ℕ). cond (ltb q₀ n) (get_or sorts (3 * w + q₀) 0 + 1) 0) arity-is
        ∙ ap (λ (n : ℕ). cond (ltb q₀ (length (fields_of ts t v))) (n + 1) 0) (sort-is q₀ (position-small (get_or parts (3 * i + 1) 0) k h))
        ∙ ap (λ (n : ℕ). sort_or0 n (fields_of ts t v) k) position-is
      where
        w : ℕ
        w = place_at types variants parts first i

        q₀ : ℕ
        q₀ = sibling_position (get_or parts (3 * i + 1) 0) k

  -- ---- what `sibling_fields` requires

  -- of a row whose kind is 3, what holds of field rows
  of_reads : (P : ℕ → Type 0) → ((i : ℕ) → i < length rs → (t a v p : ℕ) → row_at rs i ≡ field t a v p → P i) → (i : ℕ) → i < length rs → get_or kinds i 0 ≡ 3 → P i
  of_reads P h i l k = go (row_at rs i) refl
    where
      go : (r : Row) → row_at rs i ≡ r → P i
      go (variable t) e = absurd (omega (arith, row-kind-at ts rs i l, ap row_kind e))
      go (constant t z) e = absurd (omega (arith, row-kind-at ts rs i l, ap row_kind e))
      go (built t v ps) e = absurd (omega (arith, row-kind-at ts rs i l, ap row_kind e))
      go (field t a v p) e = h i l t a v p e

  pub reads_in_range : ReadsInRange (row_table ts rs).many kinds types variants parts first
  reads_in_range =
      record {
        many = omega (arith, row-many ts rs, ok.term_count, supported.terms);
        term = λ i h k. of_reads (λ i. get_or parts (3 * i) 0 < 24) (λ i l t a v p e. omega (arith, term_is i l t a v p e, (fits i l t a v p e).0, ok.term_count, supported.terms)) i (omega (arith, row-many ts rs)) k;
        type = λ i h k. of_reads (λ i. get_or types (get_or parts (3 * i) 0) 0 < 6) (λ i l t a v p e. omega (arith, type-is i l t a v p e, type-inside i l t a v p e, ok.type_count, supported.types)) i (omega (arith, row-many ts rs)) k;
        place = λ i h k. of_reads (λ i. place_at types variants parts first i < 48) place-small i (omega (arith, row-many ts rs)) k;
      }

  -- ---- the columns are those of the guard

  abbrev field_at : ℕ → ℕ
  field_at x = field_entry kinds types variants parts first arities (x / 3) (x % 3)

  abbrev sibling_at_lem : ℕ → ℕ
  sibling_at_lem x = sort_entry kinds types variants parts first arities sorts (x / 2) (x % 2)

  field_places : (i : ℕ) → i < length rs → map field_at (from 3 (3 * i)) ≡ row_fields ts i (row_at rs i)
  field_places i l = spread (3 * i) refl ∙ go (row_at rs i) refl
    where
      entry : ℕ → ℕ
      entry q = field_entry kinds types variants parts first arities i q

      place : (x q : ℕ) → x ≡ 3 * i + q → q < 3 → field_at x ≡ entry q
      place x q e h =
          let d : x / 3 ≡ i = omega arith in
          let m : x % 3 ≡ q = omega arith in
          ap (λ (k : ℕ). field_entry kinds types variants parts first arities k (x % 3)) d ∙ ap entry m

      spread : (x : ℕ) → x ≡ 3 * i → map field_at (from 3 x) ≡ entry 0 ∷ entry 1 ∷ entry 2 ∷ []
      spread x e = three (place x 0 (omega arith) (omega arith)) (place (suc x) 1 (omega arith) (omega arith)) (place (suc (suc x)) 2 (omega arith) (omega arith))

      zero_at_lem : (r : Row) → row_at rs i ≡ r → ¬ (row_kind r ≡ 3) → (q : ℕ) → entry q ≡ 0
      zero_at_lem r e n q = sym (field-other kinds types variants parts first arities i q (λ k. n (ap row_kind (sym e) ∙ sym (row-kind-at ts rs i l) ∙ k)))

      zeros : (r : Row) → row_at rs i ≡ r → ¬ (row_kind r ≡ 3) → entry 0 ∷ entry 1 ∷ entry 2 ∷ [] ≡ 0 ∷ 0 ∷ 0 ∷ []
      zeros r e n = three (zero_at_lem r e n 0) (zero_at_lem r e n 1) (zero_at_lem r e n 2)

      go : (r : Row) → row_at rs i ≡ r → entry 0 ∷ entry 1 ∷ entry 2 ∷ [] ≡ row_fields ts i r
      go (variable t) e = zeros (variable t) e (λ k. omega arith)
      go (constant t z) e = zeros (constant t z) e (λ k. omega arith)
      go (built t v ps) e = zeros (built t v ps) e (λ k. omega arith)
      go (field t a v p) e =
          three (read-entry i l t a v p e 0) (read-entry i l t a v p e 1) (read-entry i l t a v p e 2)
          ∙ sym (read-fields i p (fields_of ts t v) (fits i l t a v p e).3 (ok.field_counts t v))

  sort_places : (i : ℕ) → i < length rs → map sibling_at_lem (from 2 (2 * i)) ≡ row_sorts ts i (row_at rs i)
  sort_places i l = spread (2 * i) refl ∙ go (row_at rs i) refl
    where
      entry : ℕ → ℕ
      entry k = sort_entry kinds types variants parts first arities sorts i k

      place : (x k : ℕ) → x ≡ 2 * i + k → k < 2 → sibling_at_lem x ≡ entry k
      place x k e h =
          let d : x / 2 ≡ i = omega arith in
          let m : x % 2 ≡ k = omega arith in
          ap (λ (n : ℕ). sort_entry kinds types variants parts first arities sorts n (x % 2)) d ∙ ap entry m

      spread : (x : ℕ) → x ≡ 2 * i → map sibling_at_lem (from 2 x) ≡ entry 0 ∷ entry 1 ∷ []
      spread x e = two (place x 0 (omega arith) (omega arith)) (place (suc x) 1 (omega arith) (omega arith))

      zero_at_lem : (r : Row) → row_at rs i ≡ r → ¬ (row_kind r ≡ 3) → (k : ℕ) → entry k ≡ 0
      zero_at_lem r e n k = sym (sort-other kinds types variants parts first arities i sorts k (λ z. n (ap row_kind (sym e) ∙ sym (row-kind-at ts rs i l) ∙ z)))

      zeros : (r : Row) → row_at rs i ≡ r → ¬ (row_kind r ≡ 3) → entry 0 ∷ entry 1 ∷ [] ≡ 0 ∷ 0 ∷ []
      zeros r e n = two (zero_at_lem r e n 0) (zero_at_lem r e n 1)

      go : (r : Row) → row_at rs i ≡ r → entry 0 ∷ entry 1 ∷ [] ≡ row_sorts ts i r
      go (variable t) e = zeros (variable t) e (λ k. omega arith)
      go (constant t z) e = zeros (constant t z) e (λ k. omega arith)
      go (built t v ps) e = zeros (built t v ps) e (λ k. omega arith)
      go (field t a v p) e =
          two (read-sort i l t a v p e 0 (omega arith)) (read-sort i l t a v p e 1 (omega arith))
          ∙ sym (read-sorts i p (fields_of ts t v) (fits i l t a v p e).3 (ok.field_counts t v))

  pub siblings_are : siblings_by (type_table ts) (row_table ts rs) ≡ siblings_in ts rs
  unfolding siblings_by siblings_in field_entries sort_entries
  siblings_are =
      both-columns (siblings_in ts rs) (siblings_by (type_table ts) (row_table ts rs)).fields (siblings_by (type_table ts) (row_table ts rs)).sorts
      (ap (λ (n : ℕ). pad 72 (map field_at (from (3 * n) 0))) (row-many ts rs) ∙ ap (pad 72) (places_by_row 3 field_at (row_fields ts) rs field_places))
      (ap (λ (n : ℕ). pad 48 (map sibling_at_lem (from (2 * n) 0))) (row-many ts rs) ∙ ap (pad 48) (places_by_row 2 sibling_at_lem (row_sorts ts) rs sort_places))

  -- ---- the columns of the guard, row by row

  pub row-fields-at : (i q : ℕ) → i < length rs → q < 3 → get_or (siblings_in ts rs).fields (3 * i + q) 0 ≡ get_or (row_fields ts i (row_at rs i)) q 0
  unfolding siblings_in
  row-fields-at i q h l = pad_get 0 72 (3 * i + q) (from_rows (row_fields ts) 0 rs) ∙ place_of-row 3 field_at (row_fields ts) rs field_places i q h l (omega arith)

  pub row-sorts-at : (i k : ℕ) → i < length rs → k < 2 → get_or (siblings_in ts rs).sorts (2 * i + k) 0 ≡ get_or (row_sorts ts i (row_at rs i)) k 0
  unfolding siblings_in
  row-sorts-at i k h l = pad_get 0 48 (2 * i + k) (from_rows (row_sorts ts) 0 rs) ∙ place_of-row 2 sibling_at_lem (row_sorts ts) rs sort_places i k h l (omega arith)
