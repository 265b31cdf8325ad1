-- The shapes that are computed from the tables of a well-formed guard are the guard's, place by place. Assumes nothing.
use mathlib.Core.Path.{◌≡◌, refl, ap, sym, ◌∙◌, subst}
use mathlib.Core.Bool.{Bool, true, false, cond}
use mathlib.Core.List.{List, [], ◌∷◌, map}
use mathlib.Core.Option.{Option, none, some}
use Prim.Native.Nat.{ℕ, zero, suc, ◌+◌, ◌*◌, ◌-◌, ◌/◌, ◌%◌, ◌^◌, ◌≤◌, ◌<◌}
use native.Mathlib.Omega.{arith}
use lib.Dec.{eqb, ltb}
use lib.ListN.{length, get_or, get_or-eq_default, get_or-map}
use borrow.Author.Tests.{eq-eqb, eqb-true, lt-ltb, le-ltb, ltb-true, ltb-false, ne_eqb}
use Rattle.laws.specs.All.{All, All.more, All.none}
use Rattle.laws.proofs.Bools.{by_test}
use Rattle.laws.proofs.Lists.{map-length, none-some}
use Rattle.guard.specs.Closure.{every_variant}
use Rattle.guard.specs.Guard.{Guard, Row, Row.built, Row.constant, Row.field, Row.variable, no_row, row_at, type_at, type_of}
use Rattle.guard.specs.Limits.{Limits, Supported, total_variant_limit}
use Rattle.guard.specs.Message.{Message, Message.made, Message.number}
use Rattle.guard.specs.Terms.{default_term, field_terms, read_at, sibling_term}
use Rattle.guard.specs.Types.{Types, Variant, defaults, fields_of, variants_of}
use Rattle.guard.specs.WellFormed.{RowFits, WellFormed}
use Rattle.guard.proofs.DefaultLaws.{default-belongs}
use Rattle.guard.proofs.TableLaws.{read-row}
use Rattle.tables.specs.Layout.{default_column, flat, row_kind, row_parts, row_table, row_variant, type_table, variant_of}
use Rattle.tables.proofs.Columns.{pad_get, pad-past}
use Rattle.tables.proofs.Lookups.{arity-at, first-at, flat-all, map_at, offset_of, row-kind-at, row-part-at, row-type_anywhere, row-variant-at, sort-at, variants_at_lem}
use Rattle.siblings.specs.Siblings.{siblings_in}
use Rattle.siblings.proofs.ReadLaws.{read-fields-at}
use Rattle.arrays.specs.Arrays.{default_shape, row_shape, shape, shapes_of}
use Rattle.rowshapes.specs.RowShapes.{kind_number}
use Rattle.rowshapes.specs.RowShapes.{arity_of, others_of, owner_of, part_place, row_part, row_place, shape_place}
use Rattle.shapecolumn.specs.Shapes.{default_part, default_place, shape_entry}
use Rattle.columns.proofs.EntryLaws.{bit_is}
use Rattle.arrays.proofs.SlotLaws.{default-shape-at, field-length, no-default-shape, no-row-shape, row-shape-at}

-- ---- a shape by its places

-- from place 4 on there are the parts
parts-from_4 : (owner t v others many part j : ℕ) → 4 ≤ j → shape_place owner t v others many part j ≡ part
unfolding shape_place
parts-from_4 owner t v others many part j h =
    ap (λ (b : Bool). cond b owner (cond (eqb j 1) (kind_number t v) (cond (eqb j 2) others (cond (eqb j 3) many part)))) (ne_eqb j 0 (λ e. omega arith))
    ∙ ap (λ (b : Bool). cond b (kind_number t v) (cond (eqb j 2) others (cond (eqb j 3) many part))) (ne_eqb j 1 (λ e. omega arith))
    ∙ ap (λ (b : Bool). cond b others (cond (eqb j 3) many part)) (ne_eqb j 2 (λ e. omega arith)) ∙ ap (λ (b : Bool). cond b many part) (ne_eqb j 3 (λ e. omega arith))

shape_at : (owner t v others part : ℕ) (ps : List ℕ) (j : ℕ) → (4 ≤ j → part ≡ get_or ps (j - 4) 0) → shape_place owner t v others (length ps) part j ≡ get_or (shape owner t v others ps) j 0
unfolding shape_place
shape_at owner t v others part ps zero h = refl
shape_at owner t v others part ps (suc zero) h = refl
shape_at owner t v others part ps (suc (suc zero)) h = refl
shape_at owner t v others part ps (suc (suc (suc zero))) h = refl
shape_at owner t v others part ps (suc (suc (suc (suc j)))) h =
    let e : suc (suc (suc (suc j))) - 4 ≡ j = omega arith in
    parts-from_4 owner t v others (length ps) part (suc (suc (suc (suc j)))) (omega arith) ∙ h (omega arith) ∙ ap (λ (k : ℕ). get_or ps k 0) e ∙ sym (pad_get 0 4 j ps)

-- from what each place is found to be; `b` says that there is no shape
shape-by : (b : Bool) (o t v m n p j owner t' v' others : ℕ) (ps : List ℕ) → b ≡ false → o ≡ owner → t ≡ t' → v ≡ v' → m ≡ others → n ≡ length ps → (4 ≤ j → p ≡ get_or ps (j - 4) 0)
    → cond b 0 (shape_place o t v m n p j) ≡ get_or (shape owner t' v' others ps) j 0
shape-by b o t v m n p j owner t' v' others ps is_b isO is_t is_v isM is_n is_p =
    let same : shape_place o t v m n p j ≡ shape_place owner t' v' others (length ps) p j = cc in
    ap (λ (x : Bool). cond x 0 (shape_place o t v m n p j)) is_b ∙ same ∙ shape_at owner t' v' others p ps j is_p

no-shape : (b : Bool) (n : ℕ) → b ≡ true → cond b 0 n ≡ 0
no-shape b n e = ap (λ (x : Bool). cond x 0 n) e

part-at : (column : List ℕ) (i j : ℕ) (ps : List ℕ) → length ps ≤ 3 → ((q : ℕ) → q < 3 → get_or column (3 * i + q) 0 ≡ get_or ps q 0) → 4 ≤ j → part_place column i j ≡ get_or ps (j - 4) 0
unfolding part_place
part-at column i j ps few each h =
    by_test (ltb j 7)
    (λ b. let e : 3 * i + j - 4 ≡ 3 * i + (j - 4) = omega arith in
    ap (λ (t : Bool). cond t (get_or column (3 * i + j - 4) 0) 0) b ∙ ap (λ (k : ℕ). get_or column k 0) e ∙ each (j - 4) (omega (arith, ltb-true j 7 b)))
    (λ b. ap (λ (t : Bool). cond t (get_or column (3 * i + j - 4) 0) 0) b ∙ sym (get_or-eq_default ps 0 (omega (arith, ltb-false j 7 b))))

all-at : {A : Type 0} (P : A → Type 0) (d : A) (xs : List A) → ((i : ℕ) → i < length xs → P (get_or xs i d)) → All P xs
all-at P d [] h = none
all-at P d (x ∷ xs) h = more (h 0 (omega arith)) (all-at P d xs (λ i l. h (suc i) (omega arith)))

module _ (limits : Limits) (supported : Supported limits) (g : Guard) (ok : WellFormed limits g) (total : length (flat g.types) ≤ total_variant_limit) where
  abbrev ts : Types
  ts = g.types

  abbrev rs : List Row
  rs = g.rows

  abbrev kinds : List ℕ
  kinds = (row_table ts rs).kinds

  abbrev types : List ℕ
  types = (row_table ts rs).types

  abbrev variants : List ℕ
  variants = (row_table ts rs).variants

  abbrev parts : List ℕ
  parts = (row_table ts rs).parts

  abbrev fields : List ℕ
  fields = (siblings_in ts rs).fields

  abbrev counts : List ℕ
  counts = (type_table ts).variants

  abbrev first : List ℕ
  first = (type_table ts).first

  abbrev arities : List ℕ
  arities = (type_table ts).arities

  abbrev sorts : List ℕ
  sorts = (type_table ts).sorts

  abbrev variant_of-default : List ℕ
  variant_of-default = default_column (defaults ts)

  -- ---- what the tables say

  few-fields : All (λ fs. length fs ≤ 3) (flat ts)
  few-fields = flat-all (λ fs. length fs ≤ 3) ts ok.field_counts

  few-parts : All (λ r. length (row_parts r) ≤ 3) rs
  few-parts = all-at (λ r. length (row_parts r) ≤ 3) no_row rs (λ i h. go i (row_at rs i) (ok.rows i h))
    where
      go : (i : ℕ) (r : Row) → RowFits ts rs i r → length (row_parts r) ≤ 3
      go i (variable t) h = omega arith
      go i (constant t z) h = omega arith
      go i (built t v ps) (ht, hv, hp, e) = omega (arith, map-length (type_at ts rs) ps, ap length e, ok.field_counts t v)
      go i (field t a v p) h = omega arith

  pub kind-past : (i : ℕ) → length rs ≤ i → get_or kinds i 0 ≡ 0
  unfolding row_table
  kind-past i h = pad-past 0 24 i (map row_kind rs) (omega (arith, map-length row_kind rs))

  count_past : (t : ℕ) → length ts ≤ t → get_or counts t 0 ≡ 0
  count_past t h = variants_at_lem ts t ∙ ap length (get_or-eq_default ts [] {n = t} h)

  type-inside : (t v : ℕ) → v < length (variants_of ts t) → t < length ts
  type-inside t v h = by_test (ltb t (length ts)) (λ e. ltb-true _ _ e) (λ e. absurd (omega (arith, h, ap length (get_or-eq_default ts [] {n = t} (ltb-false t (length ts) e)))))

  pub first_of : (t v : ℕ) → v < length (variants_of ts t) → get_or first t 0 ≡ offset_of ts t
  first_of t v h = first-at ts t (type-inside t v h)

  arity-is : (t v : ℕ) → v < length (variants_of ts t) → arity_of first arities t v ≡ length (fields_of ts t v)
  unfolding arity_of
  arity-is t v h = ap (λ (k : ℕ). get_or arities (k + v) 0) (first_of t v h) ∙ arity-at ts t v h

  module _ (i : ℕ) (inside : i < length rs) (r : Row) (is : row_at rs i ≡ r) where
    pub row_fits_lem : RowFits ts rs i r
    row_fits_lem = subst (RowFits ts rs i) is (ok.rows i inside)

    pub kind-is : get_or kinds i 0 ≡ row_kind r
    kind-is = row-kind-at ts rs i inside ∙ ap row_kind is

    pub type-is : get_or types i 0 ≡ type_of ts r
    type-is = row-type_anywhere ts rs i ∙ ap (type_of ts) is

    pub variant_is : get_or variants i 0 ≡ row_variant r
    variant_is = row-variant-at ts rs i inside ∙ ap row_variant is

    pub part-is : (q : ℕ) → q < 3 → get_or parts (3 * i + q) 0 ≡ get_or (row_parts r) q 0
    part-is q h = row-part-at ts rs i inside q few-parts h ∙ ap (λ (r : Row). get_or (row_parts r) q 0) is

    pub term_is : get_or parts (3 * i) 0 ≡ get_or (row_parts r) 0 0
    term_is = let e : 3 * i ≡ 3 * i + 0 = omega arith in ap (λ (k : ℕ). get_or parts k 0) e ∙ part-is 0 (omega arith)

  -- ---- the shape of a row

  abbrev place : ℕ → ℕ → ℕ
  place i j = row_place kinds types variants parts fields first arities i j

  place_of-other : (i j : ℕ) → get_or kinds i 0 < 2 → place i j ≡ 0
  unfolding row_place
  place_of-other i j h = no-shape (ltb (get_or kinds i 0) 2) _ (lt-ltb (get_or kinds i 0) 2 h)

  -- a row that builds or reads a term: what each place is found to be
  place-by : (i j : ℕ) → i < length rs → (r : Row) → row_at rs i ≡ r → (owner t v others : ℕ) (ps : List ℕ)
      → 2 ≤ row_kind r → owner_of (row_kind r) parts i ≡ owner → get_or types owner 0 ≡ t → row_variant r ≡ v → v < length (variants_of ts t) → others_of (row_kind r) v ≡ others
      → length ps ≡ length (fields_of ts t v) → (4 ≤ j → row_part (row_kind r) parts fields i j ≡ get_or ps (j - 4) 0) → place i j ≡ get_or (shape owner t v others ps) j 0
  unfolding row_place
  place-by i j h r e owner t v others ps two isO is_t is_v inside isM is_n is_p =
      shape-by (ltb kind 2) (owner_of kind parts i) type variant (others_of kind variant) (arity_of first arities type variant) (row_part kind parts fields i j) j owner t v others ps
      (le-ltb kind 2 (omega (arith, is_k))) is_owner is_type is_variant (ap (others_of kind) is_variant ∙ ap (λ (k : ℕ). others_of k v) is_k ∙ isM)
      (ap (λ (k : ℕ). arity_of first arities k variant) is_type ∙ ap (arity_of first arities t) is_variant ∙ arity-is t v inside ∙ sym is_n)
      (λ l. ap (λ (k : ℕ). row_part k parts fields i j) is_k ∙ is_p l)
    where
      kind : ℕ
      kind = get_or kinds i 0

      type : ℕ
      type = get_or types (owner_of kind parts i) 0

      variant : ℕ
      variant = get_or variants i 0

      is_k : kind ≡ row_kind r
      is_k = kind-is i h r e

      is_owner : owner_of kind parts i ≡ owner
      is_owner = ap (λ (k : ℕ). owner_of k parts i) is_k ∙ isO

      is_type : type ≡ t
      is_type = ap (λ (k : ℕ). get_or types k 0) is_owner ∙ is_t

      is_variant : variant ≡ v
      is_variant = variant_is i h r e ∙ is_v

  place_of-built : (i j t v : ℕ) (ps : List ℕ) → i < length rs → row_at rs i ≡ built t v ps → place i j ≡ get_or (row_shape ts i (built t v ps)) j 0
  unfolding owner_of others_of row_part
  place_of-built i j t v ps h e =
      let fits : RowFits ts rs i (built t v ps) = row_fits_lem i h (built t v ps) e in
      let same : length ps ≡ length (fields_of ts t v) = sym (map-length (type_at ts rs) ps) ∙ ap length fits.3 in
      place-by i j h (built t v ps) e i t v 0 ps (omega arith) refl (type-is i h (built t v ps) e) refl fits.1 refl same
      (part-at parts i j ps (omega (arith, same, ok.field_counts t v)) (part-is i h (built t v ps) e))

  place_of-field : (i j t a v p : ℕ) → i < length rs → row_at rs i ≡ field t a v p → place i j ≡ get_or (row_shape ts i (field t a v p)) j 0
  unfolding owner_of others_of row_part
  place_of-field i j t a v p h e =
      let fits : RowFits ts rs i (field t a v p) = row_fits_lem i h (field t a v p) e in
      let terms : List ℕ = field_terms i p 0 (sibling_term i) (fields_of ts t v) in
      let same : length terms ≡ length (fields_of ts t v) = field-length i p 0 (sibling_term i) (fields_of ts t v) in
      place-by i j h (field t a v p) e a t v (every_variant - 2 ^ v) terms (omega arith) (term_is i h (field t a v p) e) (row-type_anywhere ts rs a ∙ fits.1) refl fits.2
      (ap (λ (k : ℕ). every_variant - k) (bit_is v (omega (arith, fits.2, ok.variant_counts t)))) same
      (part-at fields i j terms (omega (arith, same, ok.field_counts t v)) (read-fields-at limits supported g ok total (read_at ts i t a v p) (read-row g i t a v p h e)))

  row-place : (i j : ℕ) → i < 24 → j < 8 → place i j ≡ get_or (shapes_of g) (8 * i + j) 0
  row-place i j h l =
      by_test (ltb i (length rs)) (λ b. go (ltb-true _ _ b) (row_at rs i) refl)
      (λ b. let past : length rs ≤ i = ltb-false i (length rs) b in place_of-other i j (omega (arith, kind-past i past)) ∙ sym (no-row-shape limits supported g ok total i j past h l))
    where
      go : i < length rs → (r : Row) → row_at rs i ≡ r → place i j ≡ get_or (shapes_of g) (8 * i + j) 0
      go m r e = shown r e ∙ sym (row-shape-at limits supported g ok total i j m l ∙ ap (λ (w : Row). get_or (row_shape ts i w) j 0) e)
        where
          shown : (r : Row) → row_at rs i ≡ r → place i j ≡ get_or (row_shape ts i r) j 0
          shown (variable t) e = place_of-other i j (omega (arith, kind-is i m (variable t) e)) ∙ sym (pad_get {A = ℕ} 0 8 j [])
          shown (constant t z) e = place_of-other i j (omega (arith, kind-is i m (constant t z) e)) ∙ sym (pad_get {A = ℕ} 0 8 j [])
          shown (built t v ps) e = place_of-built i j t v ps m e
          shown (field t a v p) e = place_of-field i j t a v p m e

  -- ---- the shape of a default

  abbrev default-at : ℕ → ℕ → ℕ
  default-at t j = default_place counts variant_of-default first arities sorts t j

  no_default : (t j : ℕ) → get_or counts t 0 ≡ 0 → default-at t j ≡ 0
  unfolding default_place
  no_default t j e = no-shape (eqb (get_or counts t 0) 0) _ (eq-eqb (get_or counts t 0) 0 e)

  default-variant : (t : ℕ) → get_or variant_of-default t 0 ≡ variant_of (get_or (defaults ts) t none)
  unfolding default_column
  default-variant t = pad_get 0 6 t (map variant_of (defaults ts)) ∙ get_or-map variant_of (defaults ts) t none

  default-part-at : (t v j : ℕ) → v < length (variants_of ts t) → default_part first arities sorts t v j ≡ get_or (map default_term (fields_of ts t v)) (j - 4) 0
  unfolding default_part
  default-part-at t v j h =
      by_test (ltb (j - 4) (length fs))
      (λ b. let l : j - 4 < length fs = ltb-true _ _ b in
      ap (λ (n : ℕ). cond (ltb (j - 4) n) (default_term found) 0) (arity-is t v h) ∙ ap (λ (x : Bool). cond x (default_term found) 0) b
      ∙ ap (λ (k : ℕ). default_term (get_or sorts (3 * (k + v) + (j - 4)) 0)) (first_of t v h) ∙ ap default_term (sort-at ts t v (j - 4) few-fields h (omega (arith, ok.field_counts t v)))
      ∙ sym (map_at default_term fs (j - 4) 0 0 l))
      (λ b. ap (λ (n : ℕ). cond (ltb (j - 4) n) (default_term found) 0) (arity-is t v h) ∙ ap (λ (x : Bool). cond x (default_term found) 0) b
      ∙ sym (get_or-eq_default (map default_term fs) 0 (omega (arith, map-length default_term fs, ltb-false (j - 4) (length fs) b))))
    where
      fs : Variant
      fs = fields_of ts t v

      found : ℕ
      found = get_or sorts (3 * (get_or first t 0 + v) + (j - 4)) 0

  default-place : (t j : ℕ) → t < 8 → j < 8 → default-at t j ≡ get_or (shapes_of g) (8 * (24 + t) + j) 0
  unfolding default_place
  default-place t j h l =
      by_test (ltb t (length ts)) (λ b. go (ltb-true _ _ b))
      (λ b. let past : length ts ≤ t = ltb-false t (length ts) b in no_default t j (count_past t past) ∙ sym (no-default-shape limits supported g ok total t j past))
    where
      go : t < length ts → default-at t j ≡ get_or (shapes_of g) (8 * (24 + t) + j) 0
      go m = shown (get_or (defaults ts) t none) refl ∙ sym (default-shape-at limits supported g ok total t j m l)
        where
          shown : (o : Option Message) → get_or (defaults ts) t none ≡ o → default-at t j ≡ get_or (default_shape ts t (get_or (defaults ts) t none)) j 0
          shown none e = let (x, q) = ok.ready t m in absurd (none-some x (sym e ∙ q))
          shown (some (number u z)) e =
              no_default t j (variants_at_lem ts t ∙ eqb-true (length (variants_of ts t)) 0 (default-belongs ts t (number u z) e).1) ∙ sym (ap (λ (o : Option Message). get_or (default_shape ts t o) j 0) e ∙ pad_get {A = ℕ} 0 8 j [])
          shown (some (made u v ms)) e =
              let inside : v < length (variants_of ts t) = (default-belongs ts t (made u v ms) e).1 in
              let is_v : get_or variant_of-default t 0 ≡ v = default-variant t ∙ ap variant_of e in
              let v₀ : ℕ = get_or variant_of-default t 0 in
              shape-by (eqb (get_or counts t 0) 0) (default_term t) t v₀ 0 (arity_of first arities t v₀) (default_part first arities sorts t v₀ j) j (default_term t) t v 0 (map default_term (fields_of ts t v))
              (ne_eqb (get_or counts t 0) 0 (λ z. omega (arith, z, variants_at_lem ts t, inside))) refl refl is_v refl
              (ap (arity_of first arities t) is_v ∙ arity-is t v inside ∙ sym (map-length default_term (fields_of ts t v)))
              (λ k. ap (λ (w : ℕ). default_part first arities sorts t w j) is_v ∙ default-part-at t v j inside) ∙ sym (ap (λ (o : Option Message). get_or (default_shape ts t o) j 0) e)

  -- ---- all places

  pub shape_is : (x : ℕ) → x < 256 → shape_entry kinds types variants parts fields counts variant_of-default first arities sorts x ≡ get_or (shapes_of g) x 0
  unfolding shape_entry
  shape_is x h =
      by_test (ltb x 192)
      (λ b. let l : x < 192 = ltb-true _ _ b in let e : 8 * (x / 8) + x % 8 ≡ x = omega arith in
      ap (λ (t : Bool). cond t (place (x / 8) (x % 8)) (default-at (x / 8 - 24) (x % 8))) b ∙ row-place (x / 8) (x % 8) (omega arith) (omega arith) ∙ ap (λ (k : ℕ). get_or (shapes_of g) k 0) e)
      (λ b. let l : 192 ≤ x = ltb-false x 192 b in let e : 8 * (24 + (x / 8 - 24)) + x % 8 ≡ x = omega arith in
      ap (λ (t : Bool). cond t (place (x / 8) (x % 8)) (default-at (x / 8 - 24) (x % 8))) b ∙ default-place (x / 8 - 24) (x % 8) (omega arith) (omega arith) ∙ ap (λ (k : ℕ). get_or (shapes_of g) k 0) e)
