-- The table of a guard, element by element: what is in it, and what everything in it satisfies. Assumes nothing.
use mathlib.Core.Path.{◌≡◌, refl, ap, sym, ◌∙◌, subst}
use mathlib.Core.Bool.{Bool, true, false, not}
use mathlib.Core.List.Memᴰ
use mathlib.Core.List.{List, [], ◌∷◌, Memᴰ, ◌++◌, map, nil≢cons}
use mathlib.Core.Logic.{◌⊎◌, inl, inr}
use Prim.Native.Nat.{ℕ, zero, suc, ◌+◌, ◌≤◌, ◌<◌}
use native.Mathlib.Omega.{arith}
use lib.Dec.{eqb}
use lib.ListN.{length, get_or}
use borrow.Author.Tests.{ne_eqb}
use mathlib.Core.Option.{Option, none, some}
use lib.IntN.{ℤ, pos}
use native.Mathlib.Nat.{add-zero, zero-add}
use Rattle.laws.specs.All.{All, All.more, All.none}
use Rattle.laws.specs.Lists.{concat_map, from}
use Rattle.laws.proofs.Lists.{all_get_d, all_map, all_mem, all_of, filter-is, filter_mem, from_bounds, map_inv, mem_concat_map, mem_concat_map_inv, mem_from, mem_map}
use Rattle.guard.specs.Guard.{Guard, Literal, Literal.equal, Literal.is, Literal.isnt, Literal.unequal, Row, Row.built, Row.constant, Row.field, row_at, type_at, type_of}
use Rattle.guard.specs.Limits.{Limits, Supported, variant_limit}
use Rattle.guard.specs.Message.{Message, Message.made, Message.number, Parts}
use Rattle.guard.specs.Terms.{Build, Const, Read, Term, build_of, const_of, default_build, default_const, default_term, field_terms, fieldless, from_rows, pair_terms, read_at, read_of, row_term, sibling_term, siblings_of, table_of, term_count}
use Rattle.guard.specs.Types.{Types, Variant, defaults, fields_of, variants_of}
use Rattle.guard.specs.WellFormed.{LiteralFits, RowFits, WellFormed}
use Rattle.guard.proofs.ClosureBelow.{InRange, LiteralInRange, LiteralsInRange}
use Rattle.guard.proofs.DefaultLaws.{default-belongs}

-- ---- what rows give
module _ {A : Type 0} (f : ℕ → Row → List A) where
  pub mem_from_rows : (n i : ℕ) (rs : List Row) (x : A) → i < length rs → Memᴰ x (f (n + i) (row_at rs i)) → Memᴰ x (from_rows f n rs)
  mem_from_rows n i [] x h m = absurd (omega arith)
  mem_from_rows n zero (r ∷ rs) x h m = Memᴰ.append_left (from_rows f (suc n) rs) (subst (λ (k : ℕ). Memᴰ x (f k r)) (add-zero n) m)
  mem_from_rows n (suc i) (r ∷ rs) x h m =
      let e : n + suc i ≡ suc n + i = omega arith in
      Memᴰ.append_right (f n r) (mem_from_rows (suc n) i rs x (omega arith) (subst (λ (k : ℕ). Memᴰ x (f k (row_at rs i))) e m))

  pub from_rows_inv : (P : A → Type 0) (n : ℕ) (rs : List Row) → ((i : ℕ) → i < length rs → (x : A) → Memᴰ x (f (n + i) (row_at rs i)) → P x) → (x : A) → Memᴰ x (from_rows f n rs) → P x
  from_rows_inv P n [] h x m = elim m [ ]
  from_rows_inv P n (r ∷ rs) h x m =
      go (from_rows_inv P (suc n) rs (λ i hi y k. let e : suc n + i ≡ n + suc i = omega arith in h (suc i) (omega arith) y (subst (λ (j : ℕ). Memᴰ y (f j (row_at rs i))) e k)) x)
      (Memᴰ.append_cases (f n r) m)
    where
      go : (Memᴰ x (from_rows f (suc n) rs) → P x) → Memᴰ x (f n r) ⊎ Memᴰ x (from_rows f (suc n) rs) → P x
      go ih (inl q) = h 0 (omega arith) x (subst (λ (j : ℕ). Memᴰ x (f j r)) (sym (add-zero n)) q)
      go ih (inr q) = ih q

  -- the same with the row's number itself
  pub mem_rows : (i : ℕ) (rs : List Row) (x : A) → i < length rs → Memᴰ x (f i (row_at rs i)) → Memᴰ x (from_rows f 0 rs)
  mem_rows i rs x h m = mem_from_rows 0 i rs x h (subst (λ (k : ℕ). Memᴰ x (f k (row_at rs i))) (sym (zero-add i)) m)

  pub rows_inv : (P : A → Type 0) (rs : List Row) → ((i : ℕ) → i < length rs → (w : Row) → row_at rs i ≡ w → (x : A) → Memᴰ x (f i w) → P x) → (x : A) → Memᴰ x (from_rows f 0 rs) → P x
  rows_inv P rs h = from_rows_inv P 0 rs (λ i hi x m. h i hi (row_at rs i) refl x (subst (λ (k : ℕ). Memᴰ x (f k (row_at rs i))) (zero-add i) m))

abbrev pub default_build_of : Types → ℕ → ℕ → Build
default_build_of ts t v = record { term = default_term t; type = t; variant = v; parts = map default_term (fields_of ts t v) }

abbrev pub default_const_of : ℕ → Const
default_const_of t = record { term = default_term t; type = t; value = pos 0 }

module _ (g : Guard) where
  pub types_of : (table_of g).types ≡ g.types
  unfolding table_of
  types_of = refl

  -- ---- what is in the table

  pub term-row : (i : ℕ) → i < length g.rows → Memᴰ (record { term = i; type = type_at g.types g.rows i }) (table_of g).terms
  unfolding table_of
  term-row i h =
      Memᴰ.append_left (map (λ t. record { term = default_term t; type = t }) (from (length g.types) 0))
      (Memᴰ.append_left (concat_map (siblings_of g.types) (from_rows (read_of g.types) 0 g.rows))
      (mem_rows (row_term g.types) i g.rows (record { term = i; type = type_at g.types g.rows i }) h (Memᴰ.head refl)))

  pub read-row : (i t a v p : ℕ) → i < length g.rows → row_at g.rows i ≡ field t a v p → Memᴰ (read_at g.types i t a v p) (table_of g).reads
  unfolding table_of
  read-row i t a v p h e =
      mem_rows (read_of g.types) i g.rows (read_at g.types i t a v p) h (subst (λ (w : Row). Memᴰ (read_at g.types i t a v p) (read_of g.types i w)) (sym e) (Memᴰ.head refl))

  pub build-row : (i t v : ℕ) (ps : List ℕ) → i < length g.rows → row_at g.rows i ≡ built t v ps → Memᴰ (record { term = i; type = t; variant = v; parts = ps }) (table_of g).builds
  unfolding table_of
  build-row i t v ps h e =
      Memᴰ.append_left (concat_map (λ t. default_build g.types t (get_or (defaults g.types) t none)) (from (length g.types) 0))
      (mem_rows build_of i g.rows (record { term = i; type = t; variant = v; parts = ps }) h (subst (λ (w : Row). Memᴰ (record { term = i; type = t; variant = v; parts = ps }) (build_of i w)) (sym e) (Memᴰ.head refl)))

  pub const-row : (i t : ℕ) (z : ℤ) → i < length g.rows → row_at g.rows i ≡ constant t z → Memᴰ (record { term = i; type = t; value = z }) (table_of g).consts
  unfolding table_of
  const-row i t z h e =
      Memᴰ.append_left (concat_map (λ t. default_const g.types t (get_or (defaults g.types) t none)) (from (length g.types) 0))
      (mem_rows const_of i g.rows (record { term = i; type = t; value = z }) h (subst (λ (w : Row). Memᴰ (record { term = i; type = t; value = z }) (const_of i w)) (sym e) (Memᴰ.head refl)))

  pub term-default : (t : ℕ) → t < length g.types → Memᴰ (record { term = default_term t; type = t }) (table_of g).terms
  unfolding table_of
  term-default t h =
      Memᴰ.append_right (from_rows (row_term g.types) 0 g.rows ++ concat_map (siblings_of g.types) (from_rows (read_of g.types) 0 g.rows))
      (mem_map (λ t. record { term = default_term t; type = t }) (mem_from (length g.types) 0 t (omega arith) (omega arith)))

  pub build-default : (t u v : ℕ) (ms : Parts) → t < length g.types → get_or (defaults g.types) t none ≡ some (made u v ms) → Memᴰ (default_build_of g.types t v) (table_of g).builds
  unfolding table_of
  build-default t u v ms h e =
      Memᴰ.append_right (from_rows build_of 0 g.rows)
      (mem_concat_map (λ t. default_build g.types t (get_or (defaults g.types) t none)) (from (length g.types) 0) (mem_from (length g.types) 0 t (omega arith) (omega arith))
      (subst (λ (o : Option Message). Memᴰ (default_build_of g.types t v) (default_build g.types t o)) (sym e) (Memᴰ.head refl)))

  pub const-default : (t u : ℕ) (z : ℤ) → t < length g.types → get_or (defaults g.types) t none ≡ some (number u z) → Memᴰ (default_const_of t) (table_of g).consts
  unfolding table_of
  const-default t u z h e =
      Memᴰ.append_right (from_rows const_of 0 g.rows)
      (mem_concat_map (λ t. default_const g.types t (get_or (defaults g.types) t none)) (from (length g.types) 0) (mem_from (length g.types) 0 t (omega arith) (omega arith))
      (subst (λ (o : Option Message). Memᴰ (default_const_of t) (default_const g.types t o)) (sym e) (Memᴰ.head refl)))

  -- a field of a read that is not the row itself is a sibling
  pub term_sibling : (r : Read) → Memᴰ r (table_of g).reads → (x : Term) → Memᴰ x (pair_terms r.fields (fields_of g.types r.type r.variant)) → ¬ (x.term ≡ r.row)
      → Memᴰ x (table_of g).terms
  unfolding table_of
  term_sibling r m x q n =
      Memᴰ.append_left (map (λ t. record { term = default_term t; type = t }) (from (length g.types) 0))
      (Memᴰ.append_right (from_rows (row_term g.types) 0 g.rows)
      (mem_concat_map (siblings_of g.types) (from_rows (read_of g.types) 0 g.rows) m
      (filter_mem (λ x. not (eqb x.term r.row)) (pair_terms r.fields (fields_of g.types r.type r.variant)) x q (ap not (ne_eqb x.term r.row n)))))

  -- ---- what everything in the table satisfies

  pub read_inv : (P : Read → Type 0) → ((i t a v p : ℕ) → i < length g.rows → row_at g.rows i ≡ field t a v p → P (read_at g.types i t a v p)) → (r : Read) → Memᴰ r (table_of g).reads → P r
  unfolding table_of
  read_inv P h = rows_inv (read_of g.types) P g.rows go
    where
      go : (i : ℕ) → i < length g.rows → (w : Row) → row_at g.rows i ≡ w → (x : Read) → Memᴰ x (read_of g.types i w) → P x
      go i hi (Rattle.guard.specs.Guard.variable _) e x x5 = elim x5 [ ]
      go i hi (constant _ _) e x x7 = elim x7 [ ]
      go i hi (built _ _ _) e x x9 = elim x9 [ ]
      go i hi (field t a v p) e x (Memᴰ.tail x11) = elim x11 [ ]
      go i hi (field t a v p) e x (Memᴰ.head q) = subst P (sym q) (h i t a v p hi e)

  pub build_inv : (P : Build → Type 0) → ((i t v : ℕ) (ps : List ℕ) → i < length g.rows → row_at g.rows i ≡ built t v ps → P (record { term = i; type = t; variant = v; parts = ps }))
      → ((t u v : ℕ) (ms : Parts) → t < length g.types → get_or (defaults g.types) t none ≡ some (made u v ms) → P (default_build_of g.types t v))
      → (b : Build) → Memᴰ b (table_of g).builds → P b
  unfolding table_of
  build_inv P h k b m = go (Memᴰ.append_cases (from_rows build_of 0 g.rows) m)
    where
      row-case : (i : ℕ) → i < length g.rows → (w : Row) → row_at g.rows i ≡ w → (x : Build) → Memᴰ x (build_of i w) → P x
      row-case i hi (Rattle.guard.specs.Guard.variable _) e x x5 = elim x5 [ ]
      row-case i hi (constant _ _) e x x7 = elim x7 [ ]
      row-case i hi (built t v ps) e x (Memᴰ.tail x10) = elim x10 [ ]
      row-case i hi (field _ _ _ _) e x x11 = elim x11 [ ]
      row-case i hi (built t v ps) e x (Memᴰ.head q) = subst P (sym q) (h i t v ps hi e)

      default-case : (t : ℕ) → t < length g.types → (o : Option Message) → get_or (defaults g.types) t none ≡ o → (x : Build) → Memᴰ x (default_build g.types t o) → P x
      default-case t ht mathlib.Core.Option.none e x x4 = elim x4 [ ]
      default-case t ht (some (number _ _)) e x x11 = elim x11 [ ]
      default-case t ht (some (made u v ms)) e x (Memᴰ.tail x14) = elim x14 [ ]
      default-case t ht (some (made u v ms)) e x (Memᴰ.head q) = subst P (sym q) (k t u v ms ht e)

      go : Memᴰ b (from_rows build_of 0 g.rows) ⊎ Memᴰ b (concat_map (λ t. default_build g.types t (get_or (defaults g.types) t none)) (from (length g.types) 0)) → P b
      go (inl q) = rows_inv build_of P g.rows row-case b q
      go (inr q) =
          mem_concat_map_inv (λ t. default_build g.types t (get_or (defaults g.types) t none)) P (from (length g.types) 0)
          (λ t j. default-case t (omega (arith, (from_bounds (length g.types) 0 t j).1)) (get_or (defaults g.types) t none) refl) b q

  pub const_inv : (P : Const → Type 0) → ((i t : ℕ) (z : ℤ) → i < length g.rows → row_at g.rows i ≡ constant t z → P (record { term = i; type = t; value = z }))
      → ((t u : ℕ) (z : ℤ) → t < length g.types → get_or (defaults g.types) t none ≡ some (number u z) → P (default_const_of t))
      → (c : Const) → Memᴰ c (table_of g).consts → P c
  unfolding table_of
  const_inv P h k c m = go (Memᴰ.append_cases (from_rows const_of 0 g.rows) m)
    where
      row-case : (i : ℕ) → i < length g.rows → (w : Row) → row_at g.rows i ≡ w → (x : Const) → Memᴰ x (const_of i w) → P x
      row-case i hi (Rattle.guard.specs.Guard.variable _) e x x5 = elim x5 [ ]
      row-case i hi (constant t z) e x (Memᴰ.tail x9) = elim x9 [ ]
      row-case i hi (built _ _ _) e x x9 = elim x9 [ ]
      row-case i hi (field _ _ _ _) e x x11 = elim x11 [ ]
      row-case i hi (constant t z) e x (Memᴰ.head q) = subst P (sym q) (h i t z hi e)

      default-case : (t : ℕ) → t < length g.types → (o : Option Message) → get_or (defaults g.types) t none ≡ o → (x : Const) → Memᴰ x (default_const g.types t o) → P x
      default-case t ht mathlib.Core.Option.none e x x4 = elim x4 [ ]
      default-case t ht (some (number u z)) e x (Memᴰ.tail x13) = elim x13 [ ]
      default-case t ht (some (made _ _ _)) e x x13 = elim x13 [ ]
      default-case t ht (some (number u z)) e x (Memᴰ.head q) = subst P (sym q) (k t u z ht e)

      go : Memᴰ c (from_rows const_of 0 g.rows) ⊎ Memᴰ c (concat_map (λ t. default_const g.types t (get_or (defaults g.types) t none)) (from (length g.types) 0)) → P c
      go (inl q) = rows_inv const_of P g.rows row-case c q
      go (inr q) =
          mem_concat_map_inv (λ t. default_const g.types t (get_or (defaults g.types) t none)) P (from (length g.types) 0)
          (λ t j. default-case t (omega (arith, (from_bounds (length g.types) 0 t j).1)) (get_or (defaults g.types) t none) refl) c q

  -- a term is a row, a sibling field or a default
  pub term-cases : (P : Term → Type 0) → ((i : ℕ) → i < length g.rows → P (record { term = i; type = type_at g.types g.rows i }))
      → ((r : Read) → Memᴰ r (table_of g).reads → (x : Term) → Memᴰ x (siblings_of g.types r) → P x)
      → ((t : ℕ) → t < length g.types → P (record { term = default_term t; type = t })) → (x : Term) → Memᴰ x (table_of g).terms → P x
  unfolding table_of
  term-cases P h k l x m = go (Memᴰ.append_cases (from_rows (row_term g.types) 0 g.rows ++ siblings) m)
    where
      reads : List Read
      reads = from_rows (read_of g.types) 0 g.rows

      siblings : List Term
      siblings = concat_map (siblings_of g.types) (from_rows (read_of g.types) 0 g.rows)

      row-case : (i : ℕ) → i < length g.rows → (w : Row) → row_at g.rows i ≡ w → (x : Term) → Memᴰ x (row_term g.types i w) → P x
      row-case i hi w e x (Memᴰ.tail x6) = elim x6 [ ]
      row-case i hi w e x (Memᴰ.head q) = subst P (ap (λ (w : Row). record { term = i; type = type_of g.types w }) e ∙ sym q) (h i hi)

      go2 : Memᴰ x (from_rows (row_term g.types) 0 g.rows) ⊎ Memᴰ x siblings → P x
      go2 (inl q) = rows_inv (row_term g.types) P g.rows row-case x q
      go2 (inr q) = mem_concat_map_inv (siblings_of g.types) P reads k x q

      go : Memᴰ x (from_rows (row_term g.types) 0 g.rows ++ siblings) ⊎ Memᴰ x (map (λ t. record { term = default_term t; type = t }) (from (length g.types) 0)) → P x
      go (inl q) = go2 (Memᴰ.append_cases (from_rows (row_term g.types) 0 g.rows) q)
      go (inr q) = map_inv (λ t. record { term = default_term t; type = t }) P (from (length g.types) 0) (λ t j. l t (omega (arith, (from_bounds (length g.types) 0 t j).1))) x q

  -- the same with a sibling as one of the terms of its read's fields
  pub term_inv : (P : Term → Type 0) → ((i : ℕ) → i < length g.rows → P (record { term = i; type = type_at g.types g.rows i }))
      → ((r : Read) → Memᴰ r (table_of g).reads → (x : Term) → Memᴰ x (pair_terms r.fields (fields_of g.types r.type r.variant)) → P x)
      → ((t : ℕ) → t < length g.types → P (record { term = default_term t; type = t })) → (x : Term) → Memᴰ x (table_of g).terms → P x
  term_inv P h k l =
      term-cases P h (λ r j x m. k r j x (filter-is (λ x. not (eqb x.term r.row)) (pair_terms r.fields (fields_of g.types r.type r.variant)) x m).0) l

-- ---- the numbers of a well-formed guard's table are in range

-- the fieldless variants, by position
pub fieldless-is : (n v : ℕ) (vs : List Variant) → Memᴰ v (fieldless n vs) → (k : ℕ) × (v ≡ n + k) × (k < length vs) × (get_or vs k [] ≡ [])
fieldless-is n v [] m = elim m [ ]
fieldless-is n v ([] ∷ vs) (Memᴰ.head e) = (0, omega arith, omega arith, refl)
fieldless-is n v ([] ∷ vs) (Memᴰ.tail m) = let (k, e, h, q) = fieldless-is (suc n) v vs m in (suc k, omega arith, omega arith, q)
fieldless-is n v ((f ∷ fs) ∷ vs) m = let (k, e, h, q) = fieldless-is (suc n) v vs m in (suc k, omega arith, omega arith, q)

pub fieldless_has : (n k : ℕ) (vs : List Variant) → k < length vs → get_or vs k [] ≡ [] → Memᴰ (n + k) (fieldless n vs)
fieldless_has n k [] h e = absurd (omega arith)
fieldless_has n zero ([] ∷ vs) h e = Memᴰ.head (add-zero n)
fieldless_has n zero ((f ∷ fs) ∷ vs) h e = absurd (nil≢cons (sym e))
fieldless_has n (suc k) (fs ∷ vs) h e = go fs (let q : suc n + k ≡ n + suc k = omega arith in subst (λ (x : ℕ). Memᴰ x (fieldless (suc n) vs)) q (fieldless_has (suc n) k vs (omega arith) e))
  where
    go : (fs : Variant) → Memᴰ (n + suc k) (fieldless (suc n) vs) → Memᴰ (n + suc k) (fieldless n (fs ∷ vs))
    go [] m = Memᴰ.tail m
    go (f ∷ fs) m = m

field-terms-small : (r p : ℕ) (fs : Variant) (q s : ℕ) → r < term_count → s + length fs ≤ term_count → All (λ x. x < term_count) (field_terms r p q s fs)
field-terms-small r p [] q s h l = none
field-terms-small r p (f ∷ fs) q s h l = go (field-terms-small r p fs (suc q)) (eqb p q)
  where
    go : ((s' : ℕ) → r < term_count → s' + length fs ≤ term_count → All (λ x. x < term_count) (field_terms r p (suc q) s' fs))
        → (b : Bool) → All (λ x. x < term_count) (elim b [ true ↦ r ∷ field_terms r p (suc q) s fs | false ↦ s ∷ field_terms r p (suc q) (suc s) fs ])
    go ih true = more h (ih s h (omega arith))
    go ih false = let b : s < term_count = omega arith in more b (ih (suc s) h (omega arith))

pair_small : (ps fs : List ℕ) → All (λ p. p < term_count) ps → (x : Term) → Memᴰ x (pair_terms ps fs) → x.term < term_count
pair_small [] fs _ x x5 = elim x5 [ ]
pair_small (p ∷ ps) [] _ x x9 = elim x9 [ ]
pair_small (p ∷ ps) (f ∷ fs) (more h hs) x (Memᴰ.head e) = subst (λ (y : Term). y.term < term_count) (sym e) h
pair_small (p ∷ ps) (f ∷ fs) (more h hs) x (Memᴰ.tail m) = pair_small ps fs hs x m

module _ (limits : Limits) (sup : Supported limits) (g : Guard) (ok : WellFormed limits g) where
  few-types : length g.types ≤ 6
  few-types = omega (arith, ok.type_count, sup.types)

  pub few-rows : length g.rows ≤ 24
  few-rows = omega (arith, ok.term_count, sup.terms)

  -- what the questions say of a row
  pub row-fit : (i : ℕ) (w : Row) → i < length g.rows → row_at g.rows i ≡ w → RowFits g.types g.rows i w
  row-fit i w h e = subst (RowFits g.types g.rows i) e (ok.rows i h)

  defaults-small : (fs : Variant) → All (λ f. f < length g.types) fs → All (λ p. p < term_count) (map default_term fs)
  defaults-small fs h = all_map default_term fs (λ f m. omega (arith, all_mem h f m, few-types))

  read-fields-small : (i t a v p : ℕ) → i < length g.rows → row_at g.rows i ≡ field t a v p → All (λ x. x < term_count) (field_terms i p 0 (sibling_term i) (fields_of g.types t v))
  read-fields-small i t a v p h e = field-terms-small i p (fields_of g.types t v) 0 (sibling_term i) (omega (arith, few-rows)) (omega (arith, few-rows, ok.field_counts t v))

  pub table_in_range : InRange (table_of g)
  unfolding table_of
  table_in_range =
      record {
        terms = λ x m. (term-small x m, ok.variant_counts x.type);
        builds =
            build_inv g (λ b. (b.term < term_count) × (b.variant < variant_limit) × All (λ p. p < term_count) b.parts)
            (λ i t v ps h e. let f : RowFits g.types g.rows i (built t v ps) = row-fit i (built t v ps) h e in
            (omega (arith, few-rows), omega (arith, f.1, ok.variant_counts t), all_of ps (λ p m. omega (arith, all_mem f.2 p m, few-rows))))
            (λ t u v ms h e. (omega (arith, few-types), omega (arith, (default-belongs g.types t (made u v ms) e).1, ok.variant_counts t), defaults-small (fields_of g.types t v) (ok.field_types t v)));
        reads =
            read_inv g (λ r. (r.row < term_count) × (r.term < term_count) × (r.variant < variant_limit) × (r.absent < term_count) × All (λ p. p < term_count) r.fields)
            (λ i t a v p h e. let f : RowFits g.types g.rows i (field t a v p) = row-fit i (field t a v p) h e in (
              omega (arith, few-rows),
              omega (arith, f.0, few-rows),
              omega (arith, f.2, ok.variant_counts t),
              omega (arith, all_get_d (ok.field_types t v) p 0 f.3, few-types),
              read-fields-small i t a v p h e,
            ));
        consts = const_inv g (λ c. c.term < term_count) (λ i t z h e. omega (arith, few-rows)) (λ t u z h e. omega (arith, few-types));
        fieldlesses = λ x v m k. let (j, e, h, q) = fieldless-is 0 v (variants_of g.types x.type) k in omega (arith, e, h, ok.variant_counts x.type);
        build_terms =
            build_inv g (λ b. Memᴰ (record { term = b.term; type = b.type }) (table_of g).terms)
            (λ i t v ps h e. subst (λ (u : ℕ). Memᴰ (record { term = i; type = u }) (table_of g).terms) (ap (type_of g.types) e) (term-row g i h)) (λ t u v ms h e. term-default g t h);
        read_terms =
            read_inv g (λ r. Memᴰ (record { term = r.term; type = r.type }) (table_of g).terms)
            (λ i t a v p h e. let f : RowFits g.types g.rows i (field t a v p) = row-fit i (field t a v p) h e in
            subst (λ (u : ℕ). Memᴰ (record { term = a; type = u }) (table_of g).terms) f.1 (term-row g a (omega (arith, f.0))));
      }
    where
      term-small : (x : Term) → Memᴰ x (table_of g).terms → x.term < term_count
      term-small =
          term_inv g (λ x. x.term < term_count) (λ i h. omega (arith, few-rows))
          (read_inv g (λ r. (x : Term) → Memᴰ x (pair_terms r.fields (fields_of g.types r.type r.variant)) → x.term < term_count)
          (λ i t a v p h e x m. pair_small (field_terms i p 0 (sibling_term i) (fields_of g.types t v)) (fields_of g.types t v) (read-fields-small i t a v p h e) x m))
          (λ t h. omega (arith, few-types))

  -- the literals of a well-formed guard are in range
  pub literals_in_range_lem : LiteralsInRange g.literals
  literals_in_range_lem l m = go l (ok.literals l m)
    where
      go : (l : Literal) → LiteralFits g.types g.rows l → LiteralInRange l
      go (equal i j) f = (omega (arith, f.0, few-rows), omega (arith, f.1, few-rows))
      go (unequal i j) f = (omega (arith, f.0, few-rows), omega (arith, f.1, few-rows))
      go (is i v) f = (omega (arith, f.0, few-rows), omega (arith, f.1, ok.variant_counts (type_at g.types g.rows i)))
      go (isnt i v) f = (omega (arith, f.0, few-rows), omega (arith, f.1, ok.variant_counts (type_at g.types g.rows i)))
