-- What the tables hold at an index: of types by type, variant and position; of rows and literals by number.
-- Assumes nothing.
use mathlib.Core.Path.{◌≡◌, refl, ap, sym, ◌∙◌, subst}
use mathlib.Core.List.{List, [], ◌∷◌, Memᴰ, ◌++◌, map}
use Prim.Native.Nat.{ℕ, zero, suc, ◌+◌, ◌*◌, ◌≤◌, ◌<◌}
use native.Mathlib.Omega.{arith}
use lib.ListN.{length, get_or, take, length-append, get_or-append, get_or-map, get_or-eq_default, length-map}
use lib.IntN.{pos}
use lib.Seq.{get_or-append-add}
use lib.Dec.{ltb}
use borrow.Author.Tests.{ltb-true, ltb-false}
use Rattle.laws.specs.All.{All, All.more, All.none}
use Rattle.laws.specs.Lists.{concat_map}
use Rattle.laws.proofs.Bools.{by_test}
use Rattle.laws.proofs.Lists.{all-concat_map, all_of}
use Rattle.guard.specs.Guard.{Row, no_row, row_at, type_at, type_of}
use Rattle.guard.specs.Types.{Types, Variant, fields_of, variants_of}
use Rattle.tables.specs.Layout.{flat, offsets, pad, row_kind, row_parts, row_table, row_value, row_variant, type_table}
use Rattle.tables.proofs.Columns.{pad_get, pad-length}

-- ---- lists of lists
module _ {A : Type 0} where
  pub map_at : {B : Type 0} (f : A → B) (xs : List A) (i : ℕ) (d : A) (e : B) → i < length xs → get_or (map f xs) i e ≡ f (get_or xs i d)
  map_at f [] i d e h = absurd (omega arith)
  map_at f (x ∷ xs) zero d e h = refl
  map_at f (x ∷ xs) (suc i) d e h = map_at f xs i d e (omega arith)

  -- three places to an element
  module _ (f : A → List ℕ) where
    abbrev triples : List A → List ℕ
    triples xs = concat_map (λ x. pad 3 (f x)) xs

    pub triples_length : (xs : List A) → All (λ x. length (f x) ≤ 3) xs → length (triples xs) ≡ 3 * length xs
    triples_length [] none = refl
    triples_length (x ∷ xs) (more h hs) = omega (arith, length-append (pad 3 (f x)) (triples xs), pad-length 0 3 (f x) h, triples_length xs hs)

    pub triples_at : (xs : List A) (i j : ℕ) (d : A) → All (λ x. length (f x) ≤ 3) xs → i < length xs → j < 3 → get_or (triples xs) (3 * i + j) 0 ≡ get_or (f (get_or xs i d)) j 0
    triples_at [] i j d none h l = absurd (omega arith)
    triples_at (x ∷ xs) zero j d (more a bs) h l =
        let e : 3 * 0 + j ≡ j = omega arith in
        ap (λ (k : ℕ). get_or (pad 3 (f x) ++ triples xs) k 0) e ∙ get_or-append (pad 3 (f x)) (triples xs) 0 j (omega (arith, pad-length 0 3 (f x) a)) ∙ pad_get 0 3 j (f x)
    triples_at (x ∷ xs) (suc i) j d (more a bs) h l =
        let e : 3 * suc i + j ≡ length (pad 3 (f x)) + (3 * i + j) = omega (arith, pad-length 0 3 (f x) a) in
        ap (λ (k : ℕ). get_or (pad 3 (f x) ++ triples xs) k 0) e ∙ get_or-append-add (pad 3 (f x)) (triples xs) (3 * i + j) 0 ∙ triples_at xs i j d bs (omega arith) l

-- ---- types

-- how many variants the types before type t have
abbrev pub offset_of : Types → ℕ → ℕ
offset_of ts t = length (flat (take t ts))

offsets-at : (k : ℕ) (ts : Types) (t : ℕ) → t < length ts → get_or (offsets k ts) t 0 ≡ k + offset_of ts t
offsets-at k [] t h = absurd (omega arith)
offsets-at k (vs ∷ ts) zero h = omega arith
offsets-at k (vs ∷ ts) (suc t) h = offsets-at (k + length vs) ts t (omega arith) ∙ omega (arith, length-append vs (flat (take t ts)))

pub offsets-length : (k : ℕ) (ts : Types) → length (offsets k ts) ≡ length ts
offsets-length k [] = refl
offsets-length k (vs ∷ ts) = ap suc (offsets-length (k + length vs) ts)

-- the variants of a type lie among all variants
pub offset_inside : (ts : Types) (t : ℕ) → offset_of ts t + length (variants_of ts t) ≤ length (flat ts)
offset_inside [] zero = omega arith
offset_inside [] (suc t) = omega arith
offset_inside (vs ∷ ts) zero = omega (arith, length-append vs (flat ts))
offset_inside (vs ∷ ts) (suc t) = omega (arith, offset_inside ts t, length-append vs (flat ts), length-append vs (flat (take t ts)))

pub flat-at : (ts : Types) (t v : ℕ) → v < length (variants_of ts t) → get_or (flat ts) (offset_of ts t + v) [] ≡ fields_of ts t v
flat-at [] t v h = absurd (omega arith)
flat-at (vs ∷ ts) zero v h = let e : 0 + v ≡ v = omega arith in ap (λ (k : ℕ). get_or (vs ++ flat ts) k []) e ∙ get_or-append vs (flat ts) [] v h
flat-at (vs ∷ ts) (suc t) v h =
    let e : length (vs ++ flat (take t ts)) + v ≡ length vs + (offset_of ts t + v) = omega (arith, length-append vs (flat (take t ts))) in
    ap (λ (k : ℕ). get_or (vs ++ flat ts) k []) e ∙ get_or-append-add vs (flat ts) (offset_of ts t + v) [] ∙ flat-at ts t v h

-- every variant of every type satisfies what all fields do
pub flat-all : (P : Variant → Type 0) (ts : Types) → ((t v : ℕ) → P (fields_of ts t v)) → All P (flat ts)
flat-all P ts h = all-concat_map (λ vs. vs) ts (λ vs m. all_of vs (λ fs k. pick vs m fs k))
  where
    pick : (vs : List Variant) → Memᴰ vs ts → (fs : Variant) → Memᴰ fs vs → P fs
    pick vs m fs k =
        let (t, et) = mem_at ts vs [] m in
        let (v, ev) = mem_at vs fs [] k in
        subst P (ap (λ (l : List Variant). get_or l v []) et ∙ ev) (h t v)
      where
        mem_at : {A : Type 0} (xs : List A) (x d : A) → Memᴰ x xs → (i : ℕ) × (get_or xs i d ≡ x)
        mem_at {A = A} [] x d x3 = elim x3 [ ]
        mem_at (y ∷ ys) x d (Memᴰ.head e) = (0, sym e)
        mem_at (y ∷ ys) x d (Memᴰ.tail m) = let (i, e) = mem_at ys x d m in (suc i, e)

module _ (ts : Types) where
  pub variants_at_lem : (t : ℕ) → get_or (type_table ts).variants t 0 ≡ length (variants_of ts t)
  unfolding type_table
  variants_at_lem t = pad_get 0 6 t (map length ts) ∙ get_or-map length ts t []

  pub first-at : (t : ℕ) → t < length ts → get_or (type_table ts).first t 0 ≡ offset_of ts t
  unfolding type_table
  first-at t h = pad_get 0 6 t (offsets 0 ts) ∙ offsets-at 0 ts t h ∙ omega arith

  -- by the number of a variant among all
  pub arity_of_lem : (w : ℕ) → get_or (type_table ts).arities w 0 ≡ length (get_or (flat ts) w [])
  unfolding type_table
  arity_of_lem w = pad_get 0 48 w (map length (flat ts)) ∙ get_or-map length (flat ts) w []

  pub sort_of : (w j : ℕ) → All (λ fs. length fs ≤ 3) (flat ts) → w < length (flat ts) → j < 3 → get_or (type_table ts).sorts (3 * w + j) 0 ≡ get_or (get_or (flat ts) w []) j 0
  unfolding type_table
  sort_of w j few h l = pad_get 0 144 (3 * w + j) (concat_map (pad 3) (flat ts)) ∙ triples_at (λ fs. fs) (flat ts) w j [] few h l

  -- by type and variant
  pub arity-at : (t v : ℕ) → v < length (variants_of ts t) → get_or (type_table ts).arities (offset_of ts t + v) 0 ≡ length (fields_of ts t v)
  arity-at t v h = arity_of_lem (offset_of ts t + v) ∙ ap length (flat-at ts t v h)

  pub sort-at : (t v j : ℕ) → All (λ fs. length fs ≤ 3) (flat ts) → v < length (variants_of ts t) → j < 3 → get_or (type_table ts).sorts (3 * (offset_of ts t + v) + j) 0 ≡ get_or (fields_of ts t v) j 0
  sort-at t v j few h l = sort_of (offset_of ts t + v) j few (omega (arith, offset_inside ts t)) l ∙ ap (λ (fs : Variant). get_or fs j 0) (flat-at ts t v h)

-- ---- rows

module _ (ts : Types) (rs : List Row) (i : ℕ) (inside : i < length rs) where
  pub row-kind-at : get_or (row_table ts rs).kinds i 0 ≡ row_kind (row_at rs i)
  unfolding row_table
  row-kind-at = pad_get 0 24 i (map row_kind rs) ∙ map_at row_kind rs i no_row 0 inside

  pub row-type-at : get_or (row_table ts rs).types i 0 ≡ type_at ts rs i
  unfolding row_table
  row-type-at = pad_get 0 24 i (map (type_of ts) rs) ∙ map_at (type_of ts) rs i no_row 0 inside

  pub row-variant-at : get_or (row_table ts rs).variants i 0 ≡ row_variant (row_at rs i)
  unfolding row_table
  row-variant-at = pad_get 0 24 i (map row_variant rs) ∙ map_at row_variant rs i no_row 0 inside

  pub row-value-at : get_or (row_table ts rs).values i (pos 0) ≡ row_value (row_at rs i)
  unfolding row_table
  row-value-at = pad_get (pos 0) 24 i (map row_value rs) ∙ map_at row_value rs i no_row (pos 0) inside

  pub row-part-at : (j : ℕ) → All (λ r. length (row_parts r) ≤ 3) rs → j < 3 → get_or (row_table ts rs).parts (3 * i + j) 0 ≡ get_or (row_parts (row_at rs i)) j 0
  unfolding row_table
  row-part-at j few l = pad_get 0 72 (3 * i + j) (concat_map (λ r. pad 3 (row_parts r)) rs) ∙ triples_at row_parts rs i j no_row few inside l

-- past the last row too: the default there has type 0, as the column
pub row-type_anywhere : (ts : Types) (rs : List Row) (i : ℕ) → get_or (row_table ts rs).types i 0 ≡ type_at ts rs i
unfolding row_table
row-type_anywhere ts rs i =
    by_test (ltb i (length rs)) (λ e. row-type-at ts rs i (ltb-true _ _ e))
    (λ e. pad_get 0 24 i (map (type_of ts) rs) ∙ get_or-eq_default (map (type_of ts) rs) 0 (omega (arith, length-map rs (type_of ts), ltb-false i (length rs) e))
    ∙ sym (ap (type_of ts) (get_or-eq_default rs no_row (ltb-false i (length rs) e))))
