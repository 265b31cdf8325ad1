-- Every term of a well-formed guard's table has one type: a row its row's, a sibling that of its field, a default the
-- type it is the default of. Parts of builds have the types of the fields that they fill, and the two terms of each
-- equality have one type. So the rules, which equate nothing else, keep to types. Assumes nothing.
use mathlib.Core.Path.{◌≡◌, refl, ap, sym, ◌∙◌, subst}
use mathlib.Core.Bool.{Bool, true, false, cond}
use mathlib.Core.List.{List, [], ◌∷◌, Memᴰ, nil≢cons, map}
use Prim.Native.Nat.{ℕ, suc, ◌+◌, ◌≤◌, ◌<◌, ◌-◌, ◌/◌, ◌%◌}
use native.Mathlib.Omega.{arith}
use lib.Dec.{eqb, ltb}
use lib.ListN.{length, get_or}
use borrow.Author.Tests.{eqb-true, eqb-false, lt-ltb, le-ltb}
use mathlib.Core.Option.{none, some}
use native.Mathlib.Nat.{add-zero}
use Rattle.laws.specs.All.{All, All.more, All.none}
use Rattle.laws.proofs.Lists.{all_get_d, all_map, all_mem, all_of, map_cong, map_inv, mem_map}
use Rattle.guard.specs.Guard.{Guard, Literal.equal, Row, Row.built, Row.constant, Row.field, Row.variable, row_at, type_at, type_of}
use Rattle.guard.specs.Limits.{Limits, Supported}
use Rattle.guard.specs.Message.{Message.made, Message.number, Parts}
use Rattle.guard.specs.Terms.{Build, Const, Read, Table, Term, as_build, default_term, field_terms, pair_terms, read_at, sibling_term, table_of}
use Rattle.guard.specs.Types.{Types, Variant, defaults, field_type, fields_of, is_number, variants_of}
use Rattle.guard.specs.WellFormed.{LiteralFits, RowFits, WellFormed}
use Rattle.guard.proofs.DefaultLaws.{default-belongs}
use Rattle.guard.proofs.TableLaws.{build_inv, const_inv, default_build_of, few-rows, read_inv, read-row, row-fit, term-default, term_inv, term-row, term_sibling}

-- ---- typed tables
pub record BuildTyped (t : Table) (type : ℕ → ℕ) (b : Build) : Type 0 where
  pub variant : b.variant < length (variants_of t.types b.type)
  pub parts : map type b.parts ≡ fields_of t.types b.type b.variant
  -- the parts are terms of the table
  pub part_terms : All (λ p. Memᴰ (record { term = p; type = type p }) t.terms) b.parts

pub record TableTyped (t : Table) (type : ℕ → ℕ) : Type 0 where
  pub terms : (x : Term) → Memᴰ x t.terms → type x.term ≡ x.type
  -- one of the types
  pub known : (x : Term) → Memᴰ x t.terms → x.type < length t.types
  pub builds : (b : Build) → Memᴰ b t.builds → BuildTyped t type b
  pub reads : (r : Read) → Memᴰ r t.reads → BuildTyped t type (as_build r)
  -- a read has its field's type, and so has what it equals where the variant is absent
  pub rows : (r : Read) → Memᴰ r t.reads → type r.row ≡ field_type t.types r.type r.variant r.position
  pub absents : (r : Read) → Memᴰ r t.reads → type r.absent ≡ type r.row
  -- constants are terms of number types
  pub const_terms : (c : Const) → Memᴰ c t.consts → Memᴰ (record { term = c.term; type = c.type }) t.terms
  pub const_types : (c : Const) → Memᴰ c t.consts → is_number t.types c.type ≡ true

-- ---- the type of a term, by its number

-- the types of the fields but the one at position p; the first is at position q
abbrev others : ℕ → ℕ → Variant → Variant
others p q [] = []
others p q (f ∷ fs) = cond (eqb p q) (others p (suc q) fs) (f ∷ others p (suc q) fs)

abbrev sibling_type : Types → Row → ℕ → ℕ
sibling_type ts (variable t) s = 0
sibling_type ts (constant t z) s = 0
sibling_type ts (built t v ps) s = 0
sibling_type ts (field t a v p) s = get_or (others p 0 (fields_of ts t v)) s 0

abbrev first_sibling : ℕ
first_sibling = sibling_term 0

abbrev first_default : ℕ
first_default = default_term 0

abbrev sibling_at : Guard → ℕ → ℕ
sibling_at g n = sibling_type g.types (row_at g.rows (n / 2)) (n % 2)

pub term_type : Guard → ℕ → ℕ
term_type g i = cond (ltb i first_sibling) (type_at g.types g.rows i) (cond (ltb i first_default) (sibling_at g (i - first_sibling)) (i - first_default))

module _ (g : Guard) where
  type_row : (i : ℕ) → i < first_sibling → term_type g i ≡ type_at g.types g.rows i
  unfolding term_type
  type_row i h = ap (λ (b : Bool). cond b (type_at g.types g.rows i) (cond (ltb i first_default) (sibling_at g (i - first_sibling)) (i - first_default))) (lt-ltb i first_sibling h)

  past-rows : (i : ℕ) → first_sibling ≤ i → term_type g i ≡ cond (ltb i first_default) (sibling_at g (i - first_sibling)) (i - first_default)
  unfolding term_type
  past-rows i h = ap (λ (b : Bool). cond b (type_at g.types g.rows i) (cond (ltb i first_default) (sibling_at g (i - first_sibling)) (i - first_default))) (le-ltb i first_sibling h)

  pub type-default : (t : ℕ) → term_type g (default_term t) ≡ t
  type-default t =
      past-rows (default_term t) (omega arith)
      ∙ ap (λ (b : Bool). cond b (sibling_at g (default_term t - first_sibling)) (default_term t - first_default)) (le-ltb (default_term t) first_default (omega arith)) ∙ omega arith

  type_sibling : (r s : ℕ) → r < first_sibling → s < 2 → term_type g (sibling_term r + s) ≡ sibling_type g.types (row_at g.rows r) s
  type_sibling r s hr hs =
      let e1 : (sibling_term r + s - first_sibling) / 2 ≡ r = omega arith in
      let e2 : (sibling_term r + s - first_sibling) % 2 ≡ s = omega arith in
      past-rows (sibling_term r + s) (omega arith)
      ∙ ap (λ (b : Bool). cond b (sibling_at g (sibling_term r + s - first_sibling)) (sibling_term r + s - first_default)) (lt-ltb (sibling_term r + s) first_default (omega arith))
      ∙ ap (λ (x : ℕ). sibling_type g.types (row_at g.rows x) ((sibling_term r + s - first_sibling) % 2)) e1 ∙ ap (sibling_type g.types (row_at g.rows r)) e2

-- ---- the types of a read's field terms are the fields

module _ (type : ℕ → ℕ) (r p : ℕ) where
  fields-typed : (fs : Variant) (q s : ℕ) → (q ≤ p → p < q + length fs → type r ≡ get_or fs (p - q) 0)
      → ((j : ℕ) → j < length (others p q fs) → type (s + j) ≡ get_or (others p q fs) j 0) → map type (field_terms r p q s fs) ≡ fs
  fields-typed [] q s h k = refl
  fields-typed (f ∷ fs) q s h k = go (fields-typed fs (suc q)) (eqb p q) refl k
    where
      go : ((s' : ℕ) → (suc q ≤ p → p < suc q + length fs → type r ≡ get_or fs (p - suc q) 0)
          → ((j : ℕ) → j < length (others p (suc q) fs) → type (s' + j) ≡ get_or (others p (suc q) fs) j 0) → map type (field_terms r p (suc q) s' fs) ≡ fs)
          → (b : Bool) → eqb p q ≡ b
          → ((j : ℕ) → j < length (cond b (others p (suc q) fs) (f ∷ others p (suc q) fs)) → type (s + j) ≡ get_or (cond b (others p (suc q) fs) (f ∷ others p (suc q) fs)) j 0)
          → map {B = ℕ} type (elim b [ true ↦ r ∷ field_terms r p (suc q) s fs | false ↦ s ∷ field_terms r p (suc q) (suc s) fs ]) ≡ f ∷ fs
      go ih true e k =
          let pq : p ≡ q = eqb-true p q e in
          let z : p - q ≡ 0 = omega arith in
          let a : type r ≡ f = h (omega arith) (omega arith) ∙ ap (λ (x : ℕ). get_or (f ∷ fs) x 0) z in
          let b : map type (field_terms r p (suc q) s fs) ≡ fs = ih s (λ l m. absurd (omega arith)) k in
          cc
      go ih false e k =
          let ne : ¬ (p ≡ q) = eqb-false p q e in
          let a : type s ≡ f = ap type (sym (add-zero s)) ∙ k 0 (omega arith) in
          let b : map type (field_terms r p (suc q) (suc s) fs) ≡ fs =
          ih (suc s) (λ l m. let z : p - q ≡ suc (p - suc q) = omega arith in h (omega arith) (omega arith) ∙ ap (λ (x : ℕ). get_or (f ∷ fs) x 0) z)
          (λ j l. let z : suc s + j ≡ s + suc j = omega arith in ap type z ∙ k (suc j) (omega arith)) in
          cc

others-most : (p q : ℕ) (fs : Variant) → length (others p q fs) ≤ length fs
others-most p q [] = omega arith
others-most p q (f ∷ fs) = go (eqb p q) (others-most p (suc q) fs)
  where
    go : (b : Bool) → length (others p (suc q) fs) ≤ length fs → length (cond b (others p (suc q) fs) (f ∷ others p (suc q) fs)) ≤ suc (length fs)
    go true h = omega arith
    go false h = omega arith

others-less : (p q : ℕ) (fs : Variant) → q ≤ p → p < q + length fs → length (others p q fs) < length fs
others-less p q [] h l = absurd (omega arith)
others-less p q (f ∷ fs) h l = go (others-less p (suc q) fs) (eqb p q) refl
  where
    go : (suc q ≤ p → p < suc q + length fs → length (others p (suc q) fs) < length fs) → (b : Bool) → eqb p q ≡ b
        → length (cond b (others p (suc q) fs) (f ∷ others p (suc q) fs)) < suc (length fs)
    go ih true e = omega (arith, others-most p (suc q) fs)
    go ih false e = let ne : ¬ (p ≡ q) = eqb-false p q e in omega (arith, ih (omega arith) (omega arith))

-- terms paired with their types
pair_typed : (type : ℕ → ℕ) (ps fs : List ℕ) → map type ps ≡ fs → pair_terms ps fs ≡ map (λ p. record { term = p; type = type p }) ps
pair_typed type [] fs e = refl
pair_typed type (p ∷ ps) [] e = absurd (nil≢cons (sym e))
pair_typed type (p ∷ ps) (f ∷ fs) e =
    let a : type p ≡ f = cc in
    let b : map type ps ≡ fs = cc in
    ap (λ (x : ℕ). record { term = p; type = x } ∷ pair_terms ps fs) (sym a) ∙ ap (λ (l : List Term). record { term = p; type = type p } ∷ l) (pair_typed type ps fs b)

pair_types : (P : ℕ → Type 0) (ps fs : List ℕ) → All P fs → (x : Term) → Memᴰ x (pair_terms ps fs) → P x.type
pair_types P [] fs _ x x5 = elim x5 [ ]
pair_types P (p ∷ ps) [] _ x x9 = elim x9 [ ]
pair_types P (p ∷ ps) (f ∷ fs) (more h hs) x (Memᴰ.head e) = subst (λ (y : Term). P y.type) (sym e) h
pair_types P (p ∷ ps) (f ∷ fs) (more h hs) x (Memᴰ.tail m) = pair_types P ps fs hs x m

-- ---- the table of a well-formed guard is typed

module _ (limits : Limits) (sup : Supported limits) (g : Guard) (ok : WellFormed limits g) where
  abbrev ts : Types
  ts = g.types

  abbrev IsTerm : ℕ → ℕ → Type 0
  IsTerm i t = Memᴰ (record { term = i; type = t }) (table_of g).terms

  fits : (i : ℕ) (w : Row) → i < length g.rows → row_at g.rows i ≡ w → RowFits ts g.rows i w
  fits = row-fit limits sup g ok

  pub row_type : (i : ℕ) → i < length g.rows → term_type g i ≡ type_at ts g.rows i
  row_type i h = type_row g i (omega (arith, few-rows limits sup g ok))

  type_of_lem : (i : ℕ) (w : Row) → i < length g.rows → row_at g.rows i ≡ w → term_type g i ≡ type_of ts w
  type_of_lem i w h e = row_type i h ∙ ap (type_of ts) e

  row-term : (i : ℕ) → i < length g.rows → IsTerm i (term_type g i)
  row-term i h = subst (IsTerm i) (sym (row_type i h)) (term-row g i h)

  default-term : (t : ℕ) → t < length ts → IsTerm (default_term t) (term_type g (default_term t))
  default-term t h = subst (IsTerm (default_term t)) (sym (type-default g t)) (term-default g t h)

  read-types : (i t a v p : ℕ) → i < length g.rows → row_at g.rows i ≡ field t a v p → map (term_type g) (field_terms i p 0 (sibling_term i) (fields_of ts t v)) ≡ fields_of ts t v
  read-types i t a v p h e =
      let f : RowFits ts g.rows i (field t a v p) = fits i (field t a v p) h e in
      fields-typed (term_type g) i p (fields_of ts t v) 0 (sibling_term i) (λ l m. let z : p ≡ p - 0 = omega arith in type_of_lem i (field t a v p) h e ∙ ap (field_type ts t v) z)
      (λ j l. type_sibling g i j (omega (arith, few-rows limits sup g ok)) (omega (arith, others-less p 0 (fields_of ts t v) (omega arith) (omega (arith, f.3)), ok.field_counts t v))
      ∙ ap (λ (w : Row). sibling_type ts w j) e)

  read-terms : (i t a v p : ℕ) → i < length g.rows → row_at g.rows i ≡ field t a v p → All (λ x. IsTerm x (term_type g x)) (field_terms i p 0 (sibling_term i) (fields_of ts t v))
  read-terms i t a v p h e = all_of (field_terms i p 0 (sibling_term i) (fields_of ts t v)) (λ x m. pick x m (eqb x i) refl)
    where
      pick : (x : ℕ) → Memᴰ x (field_terms i p 0 (sibling_term i) (fields_of ts t v)) → (b : Bool) → eqb x i ≡ b → IsTerm x (term_type g x)
      pick x m true q = subst (λ (k : ℕ). IsTerm k (term_type g k)) (sym (eqb-true x i q)) (row-term i h)
      pick x m false q =
          term_sibling g (read_at ts i t a v p) (read-row g i t a v p h e) (record { term = x; type = term_type g x })
          (subst (Memᴰ (record { term = x; type = term_type g x })) (sym (pair_typed (term_type g) (field_terms i p 0 (sibling_term i) (fields_of ts t v)) (fields_of ts t v) (read-types i t a v p h e)))
          (mem_map (λ p. record { term = p; type = term_type g p }) m)) (eqb-false x i q)

  default-types : (fs : Variant) → map (term_type g) (map default_term fs) ≡ fs
  default-types [] = refl
  default-types (f ∷ fs) = let a : term_type g (default_term f) ≡ f = type-default g f in let b : map (term_type g) (map default_term fs) ≡ fs = default-types fs in cc

  row-build : (i t v : ℕ) (ps : List ℕ) → i < length g.rows → row_at g.rows i ≡ built t v ps → BuildTyped (table_of g) (term_type g) (record { term = i; type = t; variant = v; parts = ps })
  unfolding table_of
  row-build i t v ps h e =
      let f : RowFits ts g.rows i (built t v ps) = fits i (built t v ps) h e in
      record {
        variant = f.1;
        parts = map_cong (term_type g) (type_at ts g.rows) ps (λ p m. row_type p (omega (arith, all_mem f.2 p m))) ∙ f.3;
        part_terms = all_of ps (λ p m. row-term p (omega (arith, all_mem f.2 p m)));
      }

  default-build : (t u v : ℕ) (ms : Parts) → t < length ts → get_or (defaults ts) t none ≡ some (made u v ms) → BuildTyped (table_of g) (term_type g) (default_build_of ts t v)
  unfolding table_of
  default-build t u v ms h e =
      record {
        variant = (default-belongs ts t (made u v ms) e).1;
        parts = default-types (fields_of ts t v);
        part_terms = all_map default_term (fields_of ts t v) (λ f m. default-term f (all_mem (ok.field_types t v) f m));
      }

  read-build : (i t a v p : ℕ) → i < length g.rows → row_at g.rows i ≡ field t a v p → BuildTyped (table_of g) (term_type g) (as_build (read_at ts i t a v p))
  unfolding table_of
  read-build i t a v p h e = record { variant = (fits i (field t a v p) h e).2; parts = read-types i t a v p h e; part_terms = read-terms i t a v p h e }

  sibling_type_lem : (r : Read) → Memᴰ r (table_of g).reads → (x : Term) → Memᴰ x (pair_terms r.fields (fields_of ts r.type r.variant)) → term_type g x.term ≡ x.type
  sibling_type_lem =
      read_inv g (λ r. (x : Term) → Memᴰ x (pair_terms r.fields (fields_of ts r.type r.variant)) → term_type g x.term ≡ x.type)
      (λ i t a v p h e x m. map_inv (λ p. record { term = p; type = term_type g p }) (λ x. term_type g x.term ≡ x.type) (field_terms i p 0 (sibling_term i) (fields_of ts t v)) (λ y k. refl) x
      (subst (Memᴰ x) (pair_typed (term_type g) (field_terms i p 0 (sibling_term i) (fields_of ts t v)) (fields_of ts t v) (read-types i t a v p h e)) m))

  row-known : (i : ℕ) (w : Row) → RowFits ts g.rows i w → type_of ts w < length ts
  row-known i (variable t) f = f
  row-known i (constant t z) f = f.0
  row-known i (built t v ps) f = f.0
  row-known i (field t a v p) f = all_get_d (ok.field_types t v) p 0 f.3

  pub table-typed : TableTyped (table_of g) (term_type g)
  unfolding table_of
  table-typed =
      record {
        terms = term_inv g (λ x. term_type g x.term ≡ x.type) row_type sibling_type_lem (λ t h. type-default g t);
        known = term_inv g (λ x. x.type < length ts) (λ i h. row-known i (row_at g.rows i) (ok.rows i h))
            (λ r k x m. pair_types (λ t. t < length ts) r.fields (fields_of ts r.type r.variant) (ok.field_types r.type r.variant) x m) (λ t h. h);
        builds = build_inv g (BuildTyped (table_of g) (term_type g)) row-build default-build;
        reads = read_inv g (λ r. BuildTyped (table_of g) (term_type g) (as_build r)) read-build;
        rows = read_inv g (λ r. term_type g r.row ≡ field_type ts r.type r.variant r.position) (λ i t a v p h e. type_of_lem i (field t a v p) h e);
        absents = read_inv g (λ r. term_type g r.absent ≡ term_type g r.row) (λ i t a v p h e. type-default g (field_type ts t v p) ∙ sym (type_of_lem i (field t a v p) h e));
        const_terms = const_inv g (λ c. IsTerm c.term c.type) (λ i t z h e. subst (IsTerm i) (ap (type_of ts) e) (term-row g i h)) (λ t u z h e. term-default g t h);
        const_types = const_inv g (λ c. is_number ts c.type ≡ true) (λ i t z h e. (fits i (constant t z) h e).1) (λ t u z h e. (default-belongs ts t (number u z) e).1);
      }

  -- the equalities of the guard are between terms of one type
  pub equal-typed : (i j : ℕ) → Memᴰ (equal i j) g.literals → term_type g i ≡ term_type g j
  equal-typed i j m = let f : LiteralFits ts g.rows (equal i j) = ok.literals (equal i j) m in row_type i f.0 ∙ f.2 ∙ sym (row_type j f.1)
