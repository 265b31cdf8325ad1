-- Reads, sorts, masks and constants that are computed from the tables of a well-formed guard are the guard's, place by
-- place. Assumes nothing.
use mathlib.Core.Path.{◌≡◌, refl, ap, sym, ◌∙◌}
use mathlib.Core.Bool.{Bool, true, false, cond}
use mathlib.Core.List.{List, [], ◌∷◌, map}
use Prim.Native.Nat.{ℕ, zero, suc, ◌+◌, ◌*◌, ◌-◌, ◌/◌, ◌%◌, ◌^◌, ◌≤◌, ◌<◌}
use native.Mathlib.Nat.{add-zero, zero-add}
use native.Mathlib.Omega.{arith}
use lib.Dec.{eqb, ltb}
use lib.ListN.{length, get_or}
use borrow.Author.Tests.{eq-eqb, ltb-true, ltb-false, ne_eqb}
use Rattle.laws.specs.Lists.{from, sum}
use Rattle.laws.proofs.Bools.{by_test}
use Rattle.guard.specs.Guard.{Guard, Row, Row.built, Row.constant, Row.field, Row.variable, row_at, type_at}
use Rattle.guard.specs.Limits.{Limits, Supported, total_variant_limit}
use Rattle.guard.specs.Terms.{absent_term, default_term, fieldless}
use Rattle.guard.specs.Types.{Types, Variant, fields_of, variants_of}
use Rattle.guard.specs.WellFormed.{RowFits, WellFormed}
use Rattle.guard.proofs.Accepted.{row_type}
use Rattle.tables.specs.Layout.{flat, row_kind, row_table, type_table}
use Rattle.tables.proofs.Columns.{pad_get}
use Rattle.tables.proofs.Lookups.{arity-at, row-type_anywhere, variants_at_lem}
use Rattle.siblings.specs.Siblings.{siblings_in}
use Rattle.arrays.specs.Arrays.{constants_of, default_constant, fieldless_of, full_of, mask_of, reads_of, row_constant, row_read, sorts_of}
use Rattle.readcolumn.specs.Reads.{field_key}
use Rattle.columns.specs.Entries.{bit_of, ones_of, plus_one, plus_one_if}
use Rattle.readcolumn.specs.Reads.{constant_entry, read_entry, read_place}
use Rattle.sortcolumn.specs.Sorts.{fieldless_bit, fieldless_entry, fieldless_mask, full_entry, sort_entry}
use Rattle.columns.proofs.EntryLaws.{bit_is, one_more, ones_all, ones_are}
use Rattle.problem.proofs.ShapeColumn.{first_of, kind-is, kind-past, part-is, row_fits_lem, term_is, type-is, variant_is}
use Rattle.arrays.proofs.SlotLaws as slots

-- ---- choices

if_true : (b : Bool) (x y : ℕ) → b ≡ true → cond b x y ≡ x
if_true b x y e = ap (λ (t : Bool). cond t x y) e

if_false : (b : Bool) (x y : ℕ) → b ≡ false → cond b x y ≡ y
if_false b x y e = ap (λ (t : Bool). cond t x y) e

same_if : (b : Bool) (x y z : ℕ) → x ≡ z → y ≡ z → cond b x y ≡ z
same_if true x y z e f = e
same_if false x y z e f = f

type-plus-one : (b : Bool) (t : ℕ) → b ≡ true → t < 6 → plus_one_if b t ≡ suc t
unfolding plus_one_if
type-plus-one b t e h = if_true b (plus_one t) 0 e ∙ one_more t h ∙ omega arith

no-plus-one : (b : Bool) (t : ℕ) → b ≡ false → plus_one_if b t ≡ 0
unfolding plus_one_if
no-plus-one b t e = if_false b (plus_one t) 0 e

-- a read by its places
read_at_lem : (a t v p absent j : ℕ) → v < 16 → j < 4 → read_place a t v p absent j ≡ get_or (a ∷ field_key t v p ∷ 2 ^ v ∷ absent ∷ []) j 0
unfolding read_place
read_at_lem a t v p absent zero h l = refl
read_at_lem a t v p absent (suc zero) h l = refl
read_at_lem a t v p absent (suc (suc zero)) h l = bit_is v h
read_at_lem a t v p absent (suc (suc (suc zero))) h l = refl
read_at_lem a t v p absent (suc (suc (suc (suc j)))) h l = absurd (omega arith)

-- the fieldless variants one by one, counted from k
fieldless-sum : (vs : List Variant) (f : ℕ → ℕ) (k : ℕ) → ((v : ℕ) → v < length vs → f (k + v) ≡ cond (eqb (length (get_or vs v [])) 0) (2 ^ (k + v)) 0) → sum (map f (from (length vs) k)) ≡ mask_of (fieldless k vs)
fieldless-sum [] f k each = refl
fieldless-sum (fs ∷ vs) f k each = go fs (each 0 (omega arith)) (fieldless-sum vs f (suc k) (λ v h. let e : suc k + v ≡ k + suc v = omega arith in ap f e ∙ each (suc v) (omega arith) ∙ ap (λ (n : ℕ). cond (eqb (length (get_or vs v [])) 0) (2 ^ n) 0) (sym e)))
  where
    go : (fs : Variant) → f (k + 0) ≡ cond (eqb (length fs) 0) (2 ^ (k + 0)) 0 → sum (map f (from (length vs) (suc k))) ≡ mask_of (fieldless (suc k) vs) → f k + sum (map f (from (length vs) (suc k))) ≡ mask_of (fieldless k (fs ∷ vs))
    go [] here rest =
        let e : f k ≡ 2 ^ k = ap f (sym (add-zero k)) ∙ here ∙ ap (λ (n : ℕ). 2 ^ n) (add-zero k) in
        omega (arith, e, rest)
    go (x ∷ xs) here rest =
        let e : f k ≡ 0 = ap f (sym (add-zero k)) ∙ here ∙ if_false (eqb (suc (length xs)) 0) (2 ^ (k + 0)) 0 (ne_eqb (suc (length xs)) 0 (λ z. omega arith)) in
        omega (arith, e, rest)

module _ (limits : Limits) (supported : Supported limits) (g : Guard) (ok : WellFormed limits g) (total : length (flat g.types) ≤ total_variant_limit) where
  abbrev ts : Types
  ts = g.types

  abbrev rs : List Row
  rs = g.rows

  abbrev kinds : List ℕ
  kinds = (row_table ts rs).kinds

  abbrev types : List ℕ
  types = (row_table ts rs).types

  abbrev variants : List ℕ
  variants = (row_table ts rs).variants

  abbrev parts : List ℕ
  parts = (row_table ts rs).parts

  abbrev counts : List ℕ
  counts = (type_table ts).variants

  abbrev first : List ℕ
  first = (type_table ts).first

  abbrev arities : List ℕ
  arities = (type_table ts).arities

  few-types : length ts ≤ 6
  few-types = slots.few-types limits supported g ok total

  row-type-small : (i : ℕ) → i < length rs → type_at ts rs i < 6
  row-type-small i h = omega (arith, row_type ts ok.field_types rs ok.rows i h, few-types)

  -- ---- reads

  abbrev found : ℕ → ℕ → ℕ
  found i j = read_place (get_or parts (3 * i) 0) (get_or types (get_or parts (3 * i) 0) 0) (get_or variants i 0) (get_or parts (3 * i + 1) 0) (default_term (get_or types i 0)) j

  read_of-other : (i j : ℕ) → ¬ (get_or kinds i 0 ≡ 3) → cond (eqb (get_or kinds i 0) 3) (found i j) 0 ≡ 0
  read_of-other i j n = if_false (eqb (get_or kinds i 0) 3) (found i j) 0 (ne_eqb (get_or kinds i 0) 3 n)

  read_of-row : (i j : ℕ) → i < 24 → j < 4 → cond (eqb (get_or kinds i 0) 3) (found i j) 0 ≡ get_or (reads_of g) (4 * i + j) 0
  read_of-row i j h l =
      by_test (ltb i (length rs)) (λ b. go (ltb-true _ _ b))
      (λ b. let past : length rs ≤ i = ltb-false i (length rs) b in
      read_of-other i j (λ z. omega (arith, z, kind-past limits supported g ok total i past)) ∙ sym (slots.no-row-read limits supported g ok total i j past))
    where
      go : i < length rs → cond (eqb (get_or kinds i 0) 3) (found i j) 0 ≡ get_or (reads_of g) (4 * i + j) 0
      go m = shown (row_at rs i) refl ∙ sym (slots.row-read-at limits supported g ok total i j m l)
        where
          kind : (r : Row) → row_at rs i ≡ r → get_or kinds i 0 ≡ row_kind r
          kind = kind-is limits supported g ok total i m

          empty : (r : Row) → row_at rs i ≡ r → ¬ (row_kind r ≡ 3) → get_or (row_read ts i r) j 0 ≡ 0 → cond (eqb (get_or kinds i 0) 3) (found i j) 0 ≡ get_or (row_read ts i (row_at rs i)) j 0
          empty r e n z = read_of-other i j (λ k. n (sym (kind r e) ∙ k)) ∙ sym (ap (λ (w : Row). get_or (row_read ts i w) j 0) e ∙ z)

          shown : (r : Row) → row_at rs i ≡ r → cond (eqb (get_or kinds i 0) 3) (found i j) 0 ≡ get_or (row_read ts i (row_at rs i)) j 0
          shown (variable t) e = empty (variable t) e (λ z. omega arith) (pad_get {A = ℕ} 0 4 j [])
          shown (constant t z) e = empty (constant t z) e (λ z. omega arith) (pad_get {A = ℕ} 0 4 j [])
          shown (built t v ps) e = empty (built t v ps) e (λ z. omega arith) (pad_get {A = ℕ} 0 4 j [])
          shown (field t a v p) e =
              let r : Row = field t a v p in
              let fits : RowFits ts rs i r = row_fits_lem limits supported g ok total i m r e in
              let is_a : get_or parts (3 * i) 0 ≡ a = term_is limits supported g ok total i m r e in
              let is_t : get_or types (get_or parts (3 * i) 0) 0 ≡ t = ap (λ (k : ℕ). get_or types k 0) is_a ∙ row-type_anywhere ts rs a ∙ fits.1 in
              let is_v : get_or variants i 0 ≡ v = variant_is limits supported g ok total i m r e in
              let is_p : get_or parts (3 * i + 1) 0 ≡ p = part-is limits supported g ok total i m r e 1 (omega arith) in
              let is_d : default_term (get_or types i 0) ≡ absent_term ts t v p = ap default_term (type-is limits supported g ok total i m r e) in
              if_true (eqb (get_or kinds i 0) 3) (found i j) 0 (eq-eqb (get_or kinds i 0) 3 (kind r e)) ∙ same is_a is_t is_v is_p is_d
              ∙ read_at_lem a t v p (absent_term ts t v p) j (omega (arith, fits.2, ok.variant_counts t)) l ∙ sym (ap (λ (w : Row). get_or (row_read ts i w) j 0) e)
            where
              same : {a a' t t' v v' p p' d d' : ℕ} → a ≡ a' → t ≡ t' → v ≡ v' → p ≡ p' → d ≡ d' → read_place a t v p d j ≡ read_place a' t' v' p' d' j
              same p₁ p₂ p₃ p₄ p₅ = cc

  pub read_is : (x : ℕ) → x < 96 → read_entry kinds types variants parts x ≡ get_or (reads_of g) x 0
  unfolding read_entry
  read_is x h = let e : 4 * (x / 4) + x % 4 ≡ x = omega arith in read_of-row (x / 4) (x % 4) (omega arith) (omega arith) ∙ ap (λ (k : ℕ). get_or (reads_of g) k 0) e

  -- ---- sorts

  row-sort : (x : ℕ) → x < 24 → plus_one_if (ltb x (length rs)) (get_or types x 0) ≡ get_or (sorts_of g) x 0
  row-sort x h =
      by_test (ltb x (length rs))
      (λ b. let m : x < length rs = ltb-true _ _ b in
      ap (plus_one_if (ltb x (length rs))) (row-type_anywhere ts rs x) ∙ type-plus-one (ltb x (length rs)) (type_at ts rs x) b (row-type-small x m) ∙ sym (slots.row-sort-at limits supported g ok total x m))
      (λ b. no-plus-one (ltb x (length rs)) (get_or types x 0) b ∙ sym (slots.no-row-sort limits supported g ok total x (ltb-false x (length rs) b) h))

  default-sort : (t : ℕ) → plus_one_if (ltb t (length ts)) t ≡ get_or (sorts_of g) (72 + t) 0
  default-sort t =
      by_test (ltb t (length ts))
      (λ b. let m : t < length ts = ltb-true _ _ b in type-plus-one (ltb t (length ts)) t b (omega (arith, few-types)) ∙ sym (slots.default-sort-at limits supported g ok total t m))
      (λ b. no-plus-one (ltb t (length ts)) t b ∙ sym (slots.no-default-sort limits supported g ok total t (ltb-false t (length ts) b)))

  pub sort-is : (x : ℕ) → sort_entry (length rs) (length ts) types (siblings_in ts rs).sorts x ≡ get_or (sorts_of g) x 0
  unfolding sort_entry
  sort-is x =
      by_test (ltb x 24) (λ b. if_true (ltb x 24) row later b ∙ row-sort x (ltb-true _ _ b))
      (λ b. if_false (ltb x 24) row later b ∙ by_test (ltb x 72)
      (λ c. let e : 24 + (x - 24) ≡ x = omega (arith, ltb-false x 24 b) in
      if_true (ltb x 72) sibling default c ∙ sym (slots.sorts_sibling limits supported g ok total (x - 24) (omega (arith, ltb-true x 72 c, ltb-false x 24 b))) ∙ ap (λ (k : ℕ). get_or (sorts_of g) k 0) e)
      (λ c. let e : 72 + (x - 72) ≡ x = omega (arith, ltb-false x 72 c) in
      if_false (ltb x 72) sibling default c ∙ default-sort (x - 72) ∙ ap (λ (k : ℕ). get_or (sorts_of g) k 0) e))
    where
      row : ℕ
      row = plus_one_if (ltb x (length rs)) (get_or types x 0)

      sibling : ℕ
      sibling = get_or (siblings_in ts rs).sorts (x - 24) 0

      default : ℕ
      default = plus_one_if (ltb (x - 72) (length ts)) (x - 72)

      later : ℕ
      later = cond (ltb x 72) sibling default

  -- ---- masks of a type

  ones_of-type : (t : ℕ) → ones_of (get_or counts t 0) ≡ 2 ^ length (variants_of ts t) - 1
  ones_of-type t = ap ones_of (variants_at_lem ts t) ∙ go (length (variants_of ts t)) (ok.variant_counts t)
    where
      go : (n : ℕ) → n ≤ 16 → ones_of n ≡ 2 ^ n - 1
      go n h = by_test (ltb n 16) (λ b. ones_are n (ltb-true _ _ b)) (λ b. let e : 16 ≡ n = omega (arith, ltb-false n 16 b) in ones_all n (ltb-false n 16 b) ∙ ap (λ (k : ℕ). 2 ^ k - 1) e)

  pub full_is : (y : ℕ) → full_entry counts y ≡ get_or (full_of g) y 0
  unfolding full_entry
  full_is zero = sym (slots.full_none limits supported g ok total)
  full_is (suc t) =
      let e : suc t - 1 ≡ t = omega arith in
      if_false (eqb (suc t) 0) 0 (ones_of (get_or counts (suc t - 1) 0)) (ne_eqb (suc t) 0 (λ z. omega arith)) ∙ ap (λ (k : ℕ). ones_of (get_or counts k 0)) e ∙ ones_of-type t
      ∙ sym (slots.full_at limits supported g ok total t)

  -- which variants of a type are fieldless
  bit_of-type : (t v : ℕ) → v < length (variants_of ts t) → fieldless_bit arities (get_or first t 0) v ≡ cond (eqb (length (fields_of ts t v)) 0) (2 ^ v) 0
  unfolding fieldless_bit
  bit_of-type t v h =
      ap (λ (k : ℕ). cond (eqb (get_or arities (k + v) 0) 0) (bit_of v) 0) (first_of limits supported g ok total t v h) ∙ ap (λ (n : ℕ). cond (eqb n 0) (bit_of v) 0) (arity-at ts t v h)
      ∙ ap (λ (n : ℕ). cond (eqb (length (fields_of ts t v)) 0) n 0) (bit_is v (omega (arith, h, ok.variant_counts t)))

  mask_of-type : (t : ℕ) → let n = get_or counts t 0 in fieldless_mask arities (get_or first t 0) (cond (ltb n 16) n 16) ≡ mask_of (fieldless 0 (variants_of ts t))
  unfolding fieldless_mask
  mask_of-type t =
      ap (λ (n : ℕ). fieldless_mask arities (get_or first t 0) (cond (ltb n 16) n 16)) (variants_at_lem ts t)
      ∙ ap (fieldless_mask arities (get_or first t 0)) (few (length (variants_of ts t)) (ok.variant_counts t))
      ∙ fieldless-sum (variants_of ts t) (fieldless_bit arities (get_or first t 0)) 0
      (λ v h. ap (fieldless_bit arities (get_or first t 0)) (zero-add v) ∙ bit_of-type t v h ∙ ap (λ (k : ℕ). cond (eqb (length (fields_of ts t v)) 0) (2 ^ k) 0) (sym (zero-add v)))
    where
      few : (n : ℕ) → n ≤ 16 → cond (ltb n 16) n 16 ≡ n
      few n h = by_test (ltb n 16) (if_true (ltb n 16) n 16) (λ b. let e : 16 ≡ n = omega (arith, ltb-false n 16 b) in if_false (ltb n 16) n 16 b ∙ e)

  pub fieldless-is : (y : ℕ) → fieldless_entry counts first arities y ≡ get_or (fieldless_of g) y 0
  unfolding fieldless_entry
  fieldless-is zero = sym (slots.fieldless-none limits supported g ok total)
  fieldless-is (suc t) =
      let e : suc t - 1 ≡ t = omega arith in
      if_false (eqb (suc t) 0) 0 (mask (suc t - 1)) (ne_eqb (suc t) 0 (λ z. omega arith)) ∙ ap mask e ∙ mask_of-type t ∙ sym (slots.fieldless-at limits supported g ok total t)
    where
      mask : ℕ → ℕ
      mask k = let n = get_or counts k 0 in fieldless_mask arities (get_or first k 0) (cond (ltb n 16) n 16)

  -- ---- constants

  row-constant : (i : ℕ) → i < 24 → plus_one_if (eqb (get_or kinds i 0) 1) (get_or types i 0) ≡ get_or (constants_of g) i 0
  row-constant i h =
      by_test (ltb i (length rs)) (λ b. go (ltb-true _ _ b))
      (λ b. let past : length rs ≤ i = ltb-false i (length rs) b in
      other (λ z. omega (arith, z, kind-past limits supported g ok total i past)) ∙ sym (slots.no-row-constant limits supported g ok total i past h))
    where
      other : ¬ (get_or kinds i 0 ≡ 1) → plus_one_if (eqb (get_or kinds i 0) 1) (get_or types i 0) ≡ 0
      other n = no-plus-one (eqb (get_or kinds i 0) 1) (get_or types i 0) (ne_eqb (get_or kinds i 0) 1 n)

      go : i < length rs → plus_one_if (eqb (get_or kinds i 0) 1) (get_or types i 0) ≡ get_or (constants_of g) i 0
      go m = shown (row_at rs i) refl ∙ sym (slots.row-constant-at limits supported g ok total i m)
        where
          kind : (r : Row) → row_at rs i ≡ r → get_or kinds i 0 ≡ row_kind r
          kind = kind-is limits supported g ok total i m

          empty : (r : Row) → row_at rs i ≡ r → ¬ (row_kind r ≡ 1) → get_or (row_constant i r) 0 0 ≡ 0 → plus_one_if (eqb (get_or kinds i 0) 1) (get_or types i 0) ≡ get_or (row_constant i (row_at rs i)) 0 0
          empty r e n z = other (λ k. n (sym (kind r e) ∙ k)) ∙ sym (ap (λ (w : Row). get_or (row_constant i w) 0 0) e ∙ z)

          shown : (r : Row) → row_at rs i ≡ r → plus_one_if (eqb (get_or kinds i 0) 1) (get_or types i 0) ≡ get_or (row_constant i (row_at rs i)) 0 0
          shown (variable t) e = empty (variable t) e (λ z. omega arith) refl
          shown (built t v ps) e = empty (built t v ps) e (λ z. omega arith) refl
          shown (field t a v p) e = empty (field t a v p) e (λ z. omega arith) refl
          shown (constant t z) e =
              let r : Row = constant t z in
              let is_t : get_or types i 0 ≡ t = type-is limits supported g ok total i m r e in
              ap (plus_one_if (eqb (get_or kinds i 0) 1)) is_t
              ∙ type-plus-one (eqb (get_or kinds i 0) 1) t (eq-eqb (get_or kinds i 0) 1 (kind r e)) (omega (arith, (row_fits_lem limits supported g ok total i m r e).0, few-types))
              ∙ sym (ap (λ (w : Row). get_or (row_constant i w) 0 0) e)

  default-constant : (t : ℕ) → cond (eqb (get_or counts t 0) 0) (plus_one_if (ltb t (length ts)) t) 0 ≡ get_or (constants_of g) (24 + t) 0
  default-constant t =
      by_test (ltb t (length ts))
      (λ b. let m : t < length ts = ltb-true _ _ b in
      ap (λ (n : ℕ). cond (eqb n 0) (plus_one_if (ltb t (length ts)) t) 0) (variants_at_lem ts t) ∙ go (variants_of ts t) (type-plus-one (ltb t (length ts)) t b (omega (arith, few-types)))
      ∙ sym (slots.default-constant-at limits supported g ok total t m))
      (λ b. same_if (eqb (get_or counts t 0) 0) (plus_one_if (ltb t (length ts)) t) 0 0 (no-plus-one (ltb t (length ts)) t b) refl ∙ sym (slots.no-default-constant limits supported g ok total t (ltb-false t (length ts) b)))
    where
      go : (vs : List Variant) → plus_one_if (ltb t (length ts)) t ≡ suc t → cond (eqb (length vs) 0) (plus_one_if (ltb t (length ts)) t) 0 ≡ default_constant t vs
      go [] e = e
      go (v ∷ vs) e = if_false (eqb (suc (length vs)) 0) (plus_one_if (ltb t (length ts)) t) 0 (ne_eqb (suc (length vs)) 0 (λ z. omega arith))

  pub constant-is : (i : ℕ) → constant_entry (length ts) kinds types counts i ≡ get_or (constants_of g) i 0
  unfolding constant_entry
  constant-is i =
      by_test (ltb i 24) (λ b. if_true (ltb i 24) row default b ∙ row-constant i (ltb-true _ _ b))
      (λ b. let e : 24 + (i - 24) ≡ i = omega (arith, ltb-false i 24 b) in if_false (ltb i 24) row default b ∙ default-constant (i - 24) ∙ ap (λ (k : ℕ). get_or (constants_of g) k 0) e)
    where
      row : ℕ
      row = plus_one_if (eqb (get_or kinds i 0) 1) (get_or types i 0)

      default : ℕ
      default = cond (eqb (get_or counts (i - 24) 0) 0) (plus_one_if (ltb (i - 24) (length ts)) (i - 24)) 0
