-- What stands in each slot of a well-formed guard's problem: of shapes, reads and constants what the row or the default
-- gives; of sorts the type of each term, and no others. Assumes nothing.
use mathlib.Core.Path.{◌≡◌, refl, ap, sym, ◌∙◌, subst}
use mathlib.Core.Bool.{Bool, true, false}
use mathlib.Core.List.{List, [], ◌∷◌, Memᴰ, ◌++◌, map}
use mathlib.Core.Option.{Option, none, some}
use Prim.Native.Nat.{ℕ, zero, suc, ◌+◌, ◌*◌, ◌-◌, ◌/◌, ◌%◌, ◌^◌, ◌≤◌, ◌<◌}
use native.Mathlib.Nat.{zero-add}
use native.Mathlib.Omega.{arith}
use lib.Dec.{eqb, ltb}
use lib.ListN.{length, get_or, length-append, get_or-append, get_or-eq_default, get_or-map}
use lib.Seq.{get_or-append-add}
use borrow.Author.Tests.{ltb-true, ltb-false}
use Rattle.laws.specs.Lists.{concat_map, from}
use Rattle.laws.proofs.Bools.{by_test}
use Rattle.laws.proofs.Lists.{all_mem, from_bounds, map-from-at, map-from-length, map-from_out, map-length, mem_map}
use Rattle.guard.specs.Closure.{every_variant}
use Rattle.guard.specs.Guard.{Guard, Row, Row.built, Row.constant, Row.field, Row.variable, no_row, row_at, type_at, type_of}
use Rattle.guard.specs.Limits.{Limits, Supported, total_variant_limit}
use Rattle.guard.specs.Message.{Message, Message.made, Message.number}
use Rattle.guard.specs.Terms.{Read, Term, default_term, field_terms, fieldless, from_rows, pair_terms, sibling_term, siblings_of, table_of}
use Rattle.guard.specs.Types.{Types, Variant, defaults, fields_of, variants_of}
use Rattle.guard.specs.WellFormed.{RowFits, WellFormed}
use Rattle.guard.proofs.Accepted.{row_type}
use Rattle.guard.proofs.TableLaws.{term-cases, term-default, term_inv, term-row}
use Rattle.tables.specs.Layout.{flat, pad}
use Rattle.tables.proofs.Columns.{pad_get, pad-length, pad-past}
use Rattle.tables.proofs.Lookups.{map_at}
use Rattle.siblings.specs.Siblings.{row_sorts, siblings_in}
use Rattle.siblings.proofs.ReadLaws.{sibling_sort_at, sibling_terms, sort_of_term}
use Rattle.siblings.proofs.RowEntries.{read-sorts}
use Rattle.arrays.specs.Arrays.{constants_of, default_constant, default_shape, fieldless_of, full_of, mask_of, reads_of, row_constant, row_read, row_shape, shape, shapes_of, sorts_of}
use Rattle.arrays.proofs.Blocks.{back_at, blocks_at, blocks_length, both-length, front_at, rows-at, rows-length}

-- ---- lengths of what rows and defaults give

pub field-length : (r p q s : ℕ) (fs : Variant) → length (field_terms r p q s fs) ≡ length fs
field-length r p q s [] = refl
field-length r p q s (f ∷ fs) = go (eqb p q) (field-length r p (suc q) s fs) (field-length r p (suc q) (suc s) fs)
  where
    go : (b : Bool) → length (field_terms r p (suc q) s fs) ≡ length fs → length (field_terms r p (suc q) (suc s) fs) ≡ length fs
        → length {A = ℕ} (elim b [ true ↦ r ∷ field_terms r p (suc q) s fs | false ↦ s ∷ field_terms r p (suc q) (suc s) fs ]) ≡ suc (length fs)
    go true a b = ap suc a
    go false a b = ap suc b

shape-length : (owner t v others : ℕ) (parts : List ℕ) → length parts ≤ 3 → length (shape owner t v others parts) ≡ 8
shape-length owner t v others parts h = omega (arith, pad-length 0 4 parts (omega arith))

read_length : (ts : Types) (i : ℕ) (r : Row) → length (row_read ts i r) ≡ 4
read_length ts i (variable t) = refl
read_length ts i (constant t z) = refl
read_length ts i (built t v ps) = refl
read_length ts i (field t a v p) = refl

constant-length : (i : ℕ) (r : Row) → length (row_constant i r) ≡ 1
constant-length i (variable t) = refl
constant-length i (constant t z) = refl
constant-length i (built t v ps) = refl
constant-length i (field t a v p) = refl

-- the type of a term in a list of pairs
pair-type : (is fs : List ℕ) (x : Term) → Memᴰ x (pair_terms is fs) → Memᴰ x.type fs
pair-type [] fs x x3 = elim x3 [ ]
pair-type (i ∷ is) [] x x6 = elim x6 [ ]
pair-type (i ∷ is) (f ∷ fs) x (mathlib.Core.List.Memᴰ.head e) = mathlib.Core.List.Memᴰ.head (ap (λ (y : Term). y.type) e)
pair-type (i ∷ is) (f ∷ fs) x (mathlib.Core.List.Memᴰ.tail m) = mathlib.Core.List.Memᴰ.tail (pair-type is fs x m)

module _ (limits : Limits) (supported : Supported limits) (g : Guard) (ok : WellFormed limits g) (total : length (flat g.types) ≤ total_variant_limit) where
  abbrev ts : Types
  ts = g.types

  abbrev rs : List Row
  rs = g.rows

  few-rows : length rs ≤ 24
  few-rows = omega (arith, ok.term_count, supported.terms)

  pub few-types : length ts ≤ 6
  few-types = omega (arith, ok.type_count, supported.types)

  -- ---- shapes

  row-length : (i : ℕ) → i < length rs → length (row_shape ts i (row_at rs i)) ≡ 8
  row-length i h = go (row_at rs i) (ok.rows i h)
    where
      go : (r : Row) → RowFits ts rs i r → length (row_shape ts i r) ≡ 8
      go (variable t) f = refl
      go (constant t z) f = refl
      go (built t v ps) (ht, hv, hp, e) = shape-length i t v 0 ps (omega (arith, map-length (type_at ts rs) ps, ap length e, ok.field_counts t v))
      go (field t a v p) f = shape-length a t v (every_variant - 2 ^ v) (field_terms i p 0 (sibling_term i) (fields_of ts t v)) (omega (arith, field-length i p 0 (sibling_term i) (fields_of ts t v), ok.field_counts t v))

  abbrev default-shape : ℕ → List ℕ
  default-shape t = default_shape ts t (get_or (defaults ts) t none)

  default-length : (t : ℕ) → length (default-shape t) ≡ 8
  default-length t = go (get_or (defaults ts) t none)
    where
      go : (o : Option Message) → length (default_shape ts t o) ≡ 8
      go none = refl
      go (some (number u z)) = refl
      go (some (made u v ms)) = shape-length (default_term t) t v 0 (map default_term (fields_of ts t v)) (omega (arith, map-length default_term (fields_of ts t v), ok.field_counts t v))

  abbrev row-shapes : List ℕ
  row-shapes = from_rows (row_shape ts) 0 rs

  abbrev default-shapes : List ℕ
  default-shapes = concat_map default-shape (from (length ts) 0)

  row-shapes-length : length row-shapes ≡ 8 * length rs
  row-shapes-length = rows-length 8 (row_shape ts) rs row-length

  default-shapes-length : length default-shapes ≡ 8 * length ts
  default-shapes-length = blocks_length 8 default-shape (length ts) (λ t h. default-length t)

  row-shapes-few : length row-shapes ≤ 192
  row-shapes-few = omega (arith, row-shapes-length, few-rows)

  shapes-front : (k : ℕ) → k < 192 → get_or (shapes_of g) k 0 ≡ get_or row-shapes k 0
  unfolding shapes_of
  shapes-front k h = pad_get 0 256 k (pad 192 row-shapes ++ default-shapes) ∙ front_at 192 row-shapes default-shapes row-shapes-few k h

  shapes-back : (t j : ℕ) → get_or (shapes_of g) (8 * (24 + t) + j) 0 ≡ get_or default-shapes (8 * t + j) 0
  unfolding shapes_of
  shapes-back t j =
      let e : 8 * (24 + t) + j ≡ 192 + (8 * t + j) = omega arith in
      pad_get 0 256 (8 * (24 + t) + j) (pad 192 row-shapes ++ default-shapes) ∙ ap (λ (k : ℕ). get_or (pad 192 row-shapes ++ default-shapes) k 0) e
      ∙ back_at 192 row-shapes default-shapes row-shapes-few (8 * t + j)

  pub shapes-length : length (shapes_of g) ≡ 256
  unfolding shapes_of
  shapes-length = pad-length 0 256 (pad 192 row-shapes ++ default-shapes) (omega (arith, both-length 192 row-shapes default-shapes row-shapes-few, default-shapes-length, few-types))

  pub row-shape-at : (i j : ℕ) → i < length rs → j < 8 → get_or (shapes_of g) (8 * i + j) 0 ≡ get_or (row_shape ts i (row_at rs i)) j 0
  row-shape-at i j h l = shapes-front (8 * i + j) (omega (arith, few-rows)) ∙ rows-at 8 (row_shape ts) rs row-length i j h l

  pub no-row-shape : (i j : ℕ) → length rs ≤ i → i < 24 → j < 8 → get_or (shapes_of g) (8 * i + j) 0 ≡ 0
  no-row-shape i j h l m = shapes-front (8 * i + j) (omega arith) ∙ get_or-eq_default row-shapes 0 (omega (arith, row-shapes-length))

  pub default-shape-at : (t j : ℕ) → t < length ts → j < 8 → get_or (shapes_of g) (8 * (24 + t) + j) 0 ≡ get_or (default_shape ts t (get_or (defaults ts) t none)) j 0
  default-shape-at t j h l = shapes-back t j ∙ blocks_at 8 default-shape (length ts) (λ t h. default-length t) t j h l

  pub no-default-shape : (t j : ℕ) → length ts ≤ t → get_or (shapes_of g) (8 * (24 + t) + j) 0 ≡ 0
  no-default-shape t j h = shapes-back t j ∙ get_or-eq_default default-shapes 0 (omega (arith, default-shapes-length))

  -- ---- reads

  abbrev row_reads : List ℕ
  row_reads = from_rows (row_read ts) 0 rs

  reads-few : length row_reads ≡ 4 * length rs
  reads-few = rows-length 4 (row_read ts) rs (λ i h. read_length ts i (row_at rs i))

  pub reads-length : length (reads_of g) ≡ 96
  unfolding reads_of
  reads-length = pad-length 0 96 row_reads (omega (arith, reads-few, few-rows))

  pub row-read-at : (i j : ℕ) → i < length rs → j < 4 → get_or (reads_of g) (4 * i + j) 0 ≡ get_or (row_read ts i (row_at rs i)) j 0
  unfolding reads_of
  row-read-at i j h l = pad_get 0 96 (4 * i + j) row_reads ∙ rows-at 4 (row_read ts) rs (λ i h. read_length ts i (row_at rs i)) i j h l

  pub no-row-read : (i j : ℕ) → length rs ≤ i → get_or (reads_of g) (4 * i + j) 0 ≡ 0
  unfolding reads_of
  no-row-read i j h = pad-past 0 96 (4 * i + j) row_reads (omega (arith, reads-few))

  -- ---- constants

  abbrev row-constants : List ℕ
  row-constants = from_rows row_constant 0 rs

  abbrev default-constant : ℕ → ℕ
  default-constant t = default_constant t (variants_of ts t)

  abbrev default-constants : List ℕ
  default-constants = map default-constant (from (length ts) 0)

  row-constants-length : length row-constants ≡ length rs
  row-constants-length = rows-length 1 row_constant rs (λ i h. constant-length i (row_at rs i)) ∙ omega arith

  row-constants-few : length row-constants ≤ 24
  row-constants-few = omega (arith, row-constants-length, few-rows)

  constants-front : (i : ℕ) → i < 24 → get_or (constants_of g) i 0 ≡ get_or row-constants i 0
  unfolding constants_of
  constants-front i h = pad_get 0 32 i (pad 24 row-constants ++ default-constants) ∙ front_at 24 row-constants default-constants row-constants-few i h

  constants-back : (t : ℕ) → get_or (constants_of g) (24 + t) 0 ≡ get_or default-constants t 0
  unfolding constants_of
  constants-back t = pad_get 0 32 (24 + t) (pad 24 row-constants ++ default-constants) ∙ back_at 24 row-constants default-constants row-constants-few t

  pub constants-length : length (constants_of g) ≡ 32
  unfolding constants_of
  constants-length =
      pad-length 0 32 (pad 24 row-constants ++ default-constants)
      (omega (arith, both-length 24 row-constants default-constants row-constants-few, map-from-length default-constant (length ts) 0, few-types))

  pub row-constant-at : (i : ℕ) → i < length rs → get_or (constants_of g) i 0 ≡ get_or (row_constant i (row_at rs i)) 0 0
  row-constant-at i h =
      let e : i ≡ 1 * i + 0 = omega arith in
      constants-front i (omega (arith, few-rows)) ∙ ap (λ (k : ℕ). get_or row-constants k 0) e ∙ rows-at 1 row_constant rs (λ i h. constant-length i (row_at rs i)) i 0 h (omega arith)

  pub no-row-constant : (i : ℕ) → length rs ≤ i → i < 24 → get_or (constants_of g) i 0 ≡ 0
  no-row-constant i h l = constants-front i l ∙ get_or-eq_default row-constants 0 (omega (arith, row-constants-length))

  pub default-constant-at : (t : ℕ) → t < length ts → get_or (constants_of g) (24 + t) 0 ≡ default_constant t (variants_of ts t)
  default-constant-at t h = constants-back t ∙ map-from-at default-constant (length ts) 0 t 0 h ∙ ap default-constant (zero-add t)

  pub no-default-constant : (t : ℕ) → length ts ≤ t → get_or (constants_of g) (24 + t) 0 ≡ 0
  no-default-constant t h = constants-back t ∙ map-from_out default-constant (length ts) 0 t 0 h

  -- ---- masks of a type

  pub full_length : length (full_of g) ≡ 8
  unfolding full_of
  full_length = pad-length 0 8 (0 ∷ map (λ vs. 2 ^ length vs - 1) ts) (omega (arith, map-length (λ (vs : List Variant). 2 ^ length vs - 1) ts, few-types))

  pub full_none : get_or (full_of g) 0 0 ≡ 0
  unfolding full_of
  full_none = pad_get 0 8 0 (0 ∷ map (λ vs. 2 ^ length vs - 1) ts)

  pub full_at : (t : ℕ) → get_or (full_of g) (suc t) 0 ≡ 2 ^ length (variants_of ts t) - 1
  unfolding full_of
  full_at t = pad_get 0 8 (suc t) (0 ∷ map (λ vs. 2 ^ length vs - 1) ts) ∙ get_or-map (λ (vs : List Variant). 2 ^ length vs - 1) ts t []

  pub fieldless-length : length (fieldless_of g) ≡ 8
  unfolding fieldless_of
  fieldless-length = pad-length 0 8 (0 ∷ map (λ vs. mask_of (fieldless 0 vs)) ts) (omega (arith, map-length (λ (vs : List Variant). mask_of (fieldless 0 vs)) ts, few-types))

  pub fieldless-none : get_or (fieldless_of g) 0 0 ≡ 0
  unfolding fieldless_of
  fieldless-none = pad_get 0 8 0 (0 ∷ map (λ vs. mask_of (fieldless 0 vs)) ts)

  pub fieldless-at : (t : ℕ) → get_or (fieldless_of g) (suc t) 0 ≡ mask_of (fieldless 0 (variants_of ts t))
  unfolding fieldless_of
  fieldless-at t = pad_get 0 8 (suc t) (0 ∷ map (λ vs. mask_of (fieldless 0 vs)) ts) ∙ get_or-map (λ (vs : List Variant). mask_of (fieldless 0 vs)) ts t []

  -- ---- sorts: rows in places 0 to 23, siblings from 24, defaults from 72

  abbrev row-sorts : List ℕ
  row-sorts = map (λ r. suc (type_of ts r)) rs

  abbrev sibling_sorts : List ℕ
  sibling_sorts = (siblings_in ts rs).sorts

  abbrev default-sorts : List ℕ
  default-sorts = map suc (from (length ts) 0)

  abbrev before-defaults : List ℕ
  before-defaults = pad 24 row-sorts ++ sibling_sorts

  row-sorts-few : length row-sorts ≤ 24
  row-sorts-few = omega (arith, map-length (λ (r : Row). suc (type_of ts r)) rs, few-rows)

  sibling_sorts_length : (i : ℕ) → i < length rs → length (row_sorts ts i (row_at rs i)) ≡ 2
  sibling_sorts_length i h = go (row_at rs i) (ok.rows i h)
    where
      go : (r : Row) → RowFits ts rs i r → length (row_sorts ts i r) ≡ 2
      go (variable t) f = refl
      go (constant t z) f = refl
      go (built t v ps) f = refl
      go (field t a v p) f = ap length (read-sorts i p (fields_of ts t v) f.3 (ok.field_counts t v))

  sibling_rows_length : length (from_rows (row_sorts ts) 0 rs) ≡ 2 * length rs
  sibling_rows_length = rows-length 2 (row_sorts ts) rs sibling_sorts_length

  sibling_places : length sibling_sorts ≡ 48
  unfolding siblings_in
  sibling_places = pad-length 0 48 (from_rows (row_sorts ts) 0 rs) (omega (arith, sibling_rows_length, few-rows))

  no_sibling_sort : (k : ℕ) → 2 * length rs ≤ k → get_or sibling_sorts k 0 ≡ 0
  unfolding siblings_in
  no_sibling_sort k h = pad-past 0 48 k (from_rows (row_sorts ts) 0 rs) (omega (arith, sibling_rows_length))

  before-length : length before-defaults ≡ 72
  before-length = omega (arith, both-length 24 row-sorts sibling_sorts row-sorts-few, sibling_places)

  sorts-before : (x : ℕ) → x < 72 → get_or (sorts_of g) x 0 ≡ get_or before-defaults x 0
  unfolding sorts_of
  sorts-before x h = get_or-append before-defaults (pad 24 default-sorts) 0 x (omega (arith, before-length))

  -- place by place
  sorts-row : (i : ℕ) → i < 24 → get_or (sorts_of g) i 0 ≡ get_or row-sorts i 0
  sorts-row i h = sorts-before i (omega arith) ∙ front_at 24 row-sorts sibling_sorts row-sorts-few i h

  pub sorts_sibling : (k : ℕ) → k < 48 → get_or (sorts_of g) (24 + k) 0 ≡ get_or (siblings_in ts rs).sorts k 0
  sorts_sibling k h = sorts-before (24 + k) (omega arith) ∙ back_at 24 row-sorts sibling_sorts row-sorts-few k

  sorts-default : (t : ℕ) → get_or (sorts_of g) (72 + t) 0 ≡ get_or default-sorts t 0
  unfolding sorts_of
  sorts-default t =
      let e : 72 + t ≡ length before-defaults + t = omega (arith, before-length) in
      ap (λ (x : ℕ). get_or (before-defaults ++ pad 24 default-sorts) x 0) e ∙ get_or-append-add before-defaults (pad 24 default-sorts) t 0 ∙ pad_get 0 24 t default-sorts

  pub sorts-length : length (sorts_of g) ≡ 96
  unfolding sorts_of
  sorts-length = omega (arith, length-append before-defaults (pad 24 default-sorts), before-length, pad-length 0 24 default-sorts (omega (arith, map-from-length suc (length ts) 0, few-types)))

  pub row-sort-at : (i : ℕ) → i < length rs → get_or (sorts_of g) i 0 ≡ suc (type_at ts rs i)
  row-sort-at i h = sorts-row i (omega (arith, few-rows)) ∙ map_at (λ (r : Row). suc (type_of ts r)) rs i no_row 0 h

  pub no-row-sort : (i : ℕ) → length rs ≤ i → i < 24 → get_or (sorts_of g) i 0 ≡ 0
  no-row-sort i h l = sorts-row i l ∙ get_or-eq_default row-sorts 0 (omega (arith, map-length (λ (r : Row). suc (type_of ts r)) rs))

  pub default-sort-at : (t : ℕ) → t < length ts → get_or (sorts_of g) (72 + t) 0 ≡ suc t
  default-sort-at t h = sorts-default t ∙ map-from-at suc (length ts) 0 t 0 h ∙ ap suc (zero-add t)

  pub no-default-sort : (t : ℕ) → length ts ≤ t → get_or (sorts_of g) (72 + t) 0 ≡ 0
  no-default-sort t h = sorts-default t ∙ map-from_out suc (length ts) 0 t 0 h

  -- a sibling's number is that of a place for siblings
  sibling_number : (r : Read) → Memᴰ r (table_of g).reads → (x : Term) → Memᴰ x (siblings_of ts r) → 24 ≤ x.term
  sibling_number r m x n =
      let e = sibling_terms g r m in
      let k : Memᴰ x.term (from (length (siblings_of ts r)) (sibling_term r.row)) = subst (λ (l : List ℕ). Memᴰ x.term l) e (mem_map (λ (y : Term). y.term) n) in
      omega (arith, (from_bounds (length (siblings_of ts r)) (sibling_term r.row) x.term k).0)

  -- the type of each term stands in its place
  pub sort_of : (x : Term) → Memᴰ x (table_of g).terms → get_or (sorts_of g) x.term 0 ≡ suc x.type
  sort_of = term-cases g (λ x. get_or (sorts_of g) x.term 0 ≡ suc x.type) row-sort-at of_sibling default-sort-at
    where
      of_sibling : (r : Read) → Memᴰ r (table_of g).reads → (x : Term) → Memᴰ x (siblings_of ts r) → get_or (sorts_of g) x.term 0 ≡ suc x.type
      of_sibling r m x n =
          let s : get_or sibling_sorts (x.term - 24) 0 ≡ suc x.type = sibling_sort_at limits supported g ok total r m x n in
          let e : x.term ≡ 24 + (x.term - 24) = omega (arith, sibling_number r m x n) in
          let inside : x.term - 24 < 48 = by_test (ltb (x.term - 24) 48) (λ b. ltb-true _ _ b)
          (λ b. absurd (omega (arith, s, get_or-eq_default sibling_sorts 0 {n = x.term - 24} (omega (arith, sibling_places, ltb-false (x.term - 24) 48 b))))) in
          ap (λ (k : ℕ). get_or (sorts_of g) k 0) e ∙ sorts_sibling (x.term - 24) inside ∙ s

  -- and what is not 0 is a term's
  pub sort-term : (x u : ℕ) → x < 78 → get_or (sorts_of g) x 0 ≡ suc u → Memᴰ (record { term = x; type = u }) (table_of g).terms
  sort-term x u h s = by_test (ltb x 24) (λ b. row (ltb-true _ _ b)) (λ b. by_test (ltb x 72) (λ c. sibling (ltb-false x 24 b) (ltb-true _ _ c)) (λ c. default (ltb-false x 72 c)))
    where
      Here : ℕ → ℕ → Type 0
      Here i t = Memᴰ (record { term = i; type = t }) (table_of g).terms

      row : x < 24 → Here x u
      row l =
          by_test (ltb x (length rs))
          (λ b. let inside : x < length rs = ltb-true _ _ b in let e : type_at ts rs x ≡ u = omega (arith, s, row-sort-at x inside) in subst (Here x) e (term-row g x inside))
          (λ b. absurd (omega (arith, s, no-row-sort x (ltb-false x (length rs) b) l)))

      sibling : 24 ≤ x → x < 72 → Here x u
      sibling l m =
          let i : ℕ = (x - 24) / 2 in
          let k : ℕ = (x - 24) % 2 in
          let e : x ≡ 24 + (2 * i + k) = omega arith in
          let there : get_or sibling_sorts (2 * i + k) 0 ≡ suc u = sym (sorts_sibling (2 * i + k) (omega arith)) ∙ ap (λ (n : ℕ). get_or (sorts_of g) n 0) (sym e) ∙ s in
          let inside : i < length rs = by_test (ltb i (length rs)) (λ b. ltb-true _ _ b) (λ b. absurd (omega (arith, there, no_sibling_sort (2 * i + k) (omega (arith, ltb-false i (length rs) b))))) in
          let q : sibling_term i + k ≡ x = omega arith in
          subst (λ (n : ℕ). Here n u) q (sort_of_term limits supported g ok total i k u inside (omega arith) there)

      default : 72 ≤ x → Here x u
      default l =
          let e : 72 + (x - 72) ≡ x = omega arith in
          let there : get_or (sorts_of g) (72 + (x - 72)) 0 ≡ suc u = ap (λ (n : ℕ). get_or (sorts_of g) n 0) e ∙ s in
          by_test (ltb (x - 72) (length ts))
          (λ b. let inside : x - 72 < length ts = ltb-true _ _ b in let q : x - 72 ≡ u = omega (arith, there, default-sort-at (x - 72) inside) in
          subst (λ (n : ℕ). Here n u) e (subst (Here (72 + (x - 72))) q (term-default g (x - 72) inside)))
          (λ b. absurd (omega (arith, there, no-default-sort (x - 72) (ltb-false (x - 72) (length ts) b))))

  -- every term's type is there
  pub term_type_lem : (x : Term) → Memᴰ x (table_of g).terms → x.type < length ts
  term_type_lem =
      term_inv g (λ x. x.type < length ts) (row_type ts ok.field_types rs ok.rows)
      (λ r m x n. all_mem (ok.field_types r.type r.variant) x.type (pair-type r.fields (fields_of ts r.type r.variant) x n)) (λ t h. h)

  pub sorts-small : (x : ℕ) → get_or (sorts_of g) x 0 < 7
  sorts-small x = by_test (ltb x 78) (λ b. go (get_or (sorts_of g) x 0) refl (ltb-true _ _ b)) (λ b. past (ltb-false x 78 b))
    where
      go : (n : ℕ) → get_or (sorts_of g) x 0 ≡ n → x < 78 → n < 7
      go zero e h = omega arith
      go (suc u) e h = omega (arith, term_type_lem (record { term = x; type = u }) (sort-term x u h e), few-types)

      past : 78 ≤ x → get_or (sorts_of g) x 0 < 7
      past h =
          let e : x ≡ 72 + (x - 72) = omega arith in
          let z : get_or (sorts_of g) x 0 ≡ 0 = ap (λ (n : ℕ). get_or (sorts_of g) n 0) e ∙ no-default-sort (x - 72) (omega (arith, few-types)) in
          omega arith
