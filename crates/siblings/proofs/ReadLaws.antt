-- The columns against the closure's table of a guard: the fields of each read, and the terms and types of its siblings.
-- Assumes nothing.
use mathlib.Core.Path.{◌≡◌, refl, ap, sym, ◌∙◌, subst}
use mathlib.Core.Bool.{not}
use mathlib.Core.List.{List, [], ◌∷◌, ◌++◌, append-nil, map, Memᴰ}
use Prim.Native.Nat.{ℕ, zero, suc, ◌+◌, ◌*◌, ◌-◌, ◌≤◌, ◌<◌}
use native.Mathlib.Omega.{arith}
use lib.Dec.{eqb, ltb}
use lib.ListN.{length, get_or, get_or-eq_default}
use borrow.Author.Tests.{ltb-true, ltb-false, eqb-false, not-true}
use Rattle.laws.specs.Lists.{from}
use Rattle.laws.proofs.Bools.{by_test}
use Rattle.laws.proofs.Lists.{filter-is, from_at, map-length}
use Rattle.guard.specs.Guard.{Guard, Row, Row.built, Row.constant, Row.field, Row.variable, row_at}
use Rattle.guard.specs.Limits.{Limits, Supported, total_variant_limit}
use Rattle.guard.specs.Terms.{Read, Term, pair_terms, read_at, sibling_term, siblings_of, table_of}
use Rattle.guard.specs.Types.{fields_of}
use Rattle.guard.specs.WellFormed.{RowFits, WellFormed}
use Rattle.guard.proofs.TableLaws.{read_inv, read-row, term_sibling}
use Rattle.tables.specs.Layout.{flat, pad}
use Rattle.tables.proofs.Columns.{pad_get}
use Rattle.tables.proofs.Lookups.{map_at}
use Rattle.siblings.specs.Siblings.{row_fields, row_sorts, siblings_in}
use Rattle.siblings.proofs.RowEntries.{read-few, read-numbered}
use Rattle.siblings.proofs.SiblingLaws.{row-fields-at, row-sorts-at}

abbrev no_term : Term
no_term = record { term = 0; type = 0 }

-- where terms are counted through from s, a member's number says where it stands
counted : (s : ℕ) (xs : List Term) → map (λ (x : Term). x.term) xs ≡ from (length xs) s → (k : ℕ) → k < length xs → (get_or xs k no_term).term ≡ s + k
counted s xs e k h = sym (map_at (λ (x : Term). x.term) xs k no_term 0 h) ∙ ap (λ (l : List ℕ). get_or l k 0) e ∙ from_at (length xs) s k 0 h

position : (xs : List Term) (x : Term) → Memᴰ x xs → (k : ℕ) × (k < length xs) × (get_or xs k no_term ≡ x)
position [] x x3 = elim x3 [ ]
position (y ∷ xs) x (mathlib.Core.List.Memᴰ.head e) = (0, omega arith, sym e)
position (y ∷ xs) x (mathlib.Core.List.Memᴰ.tail m) = let (k, h, e) = position xs x m in (suc k, omega arith, e)

mem_at : (xs : List Term) (k : ℕ) → k < length xs → Memᴰ (get_or xs k no_term) xs
mem_at [] k h = absurd (omega arith)
mem_at (x ∷ xs) zero h = mathlib.Core.List.Memᴰ.head refl
mem_at (x ∷ xs) (suc k) h = mathlib.Core.List.Memᴰ.tail (mem_at xs k (omega arith))

-- "the other fields of its variant, in order of position, are terms 24 + 2 × r and 25 + 2 × r"
pub sibling_terms : (g : Guard) (r : Read) → Memᴰ r (table_of g).reads
    → map (λ (x : Term). x.term) (siblings_of g.types r) ≡ from (length (siblings_of g.types r)) (sibling_term r.row)
sibling_terms g = read_inv g (λ r. map (λ (x : Term). x.term) (siblings_of g.types r) ≡ from (length (siblings_of g.types r)) (sibling_term r.row)) (λ i t a v p h e. read-numbered i p (fields_of g.types t v))

same-term : (x : Term) (i u : ℕ) → x.term ≡ i → x.type ≡ u → ◌≡◌ {A = Term} x (record { term = i; type = u })
same-term x i u e n = make e n
  where
    make : {j w : ℕ} → x.term ≡ j → x.type ≡ w → ◌≡◌ {A = Term} (record { term = x.term; type = x.type }) (record { term = j; type = w })
    make a b = cc

-- the siblings of a read are terms of the table
sibling_term_lem : (g : Guard) (r : Read) → Memᴰ r (table_of g).reads → (x : Term) → Memᴰ x (siblings_of g.types r) → Memᴰ x (table_of g).terms
sibling_term_lem g r m x n =
    let (q, b) = filter-is (λ (y : Term). not (eqb y.term r.row)) (pair_terms r.fields (fields_of g.types r.type r.variant)) x n in
    term_sibling g r m x q (eqb-false x.term r.row (not-true _ b))

module _ (limits : Limits) (supported : Supported limits) (g : Guard) (ok : WellFormed limits g) (total : length (flat g.types) ≤ total_variant_limit) where
  abbrev fields : List ℕ
  fields = (siblings_in g.types g.rows).fields

  abbrev sorts : List ℕ
  sorts = (siblings_in g.types g.rows).sorts

  -- the fields of a read stand at its row
  pub read-fields-at : (r : Read) → Memᴰ r (table_of g).reads → (q : ℕ) → q < 3 → get_or fields (3 * r.row + q) 0 ≡ get_or r.fields q 0
  read-fields-at =
      read_inv g (λ r. (q : ℕ) → q < 3 → get_or fields (3 * r.row + q) 0 ≡ get_or r.fields q 0)
      (λ i t a v p h e q l. row-fields-at limits supported g ok total i q h l ∙ ap (λ (w : Row). get_or (row_fields g.types i w) q 0) e ∙ pad_get 0 3 q ((read_at g.types i t a v p).fields ++ []) ∙ ap (λ (xs : List ℕ). get_or xs q 0) (append-nil (read_at g.types i t a v p).fields))

  -- what stands at a sibling's place of a field row
  sorts_of-read : (i t a v p : ℕ) → i < length g.rows → row_at g.rows i ≡ field t a v p → (k : ℕ) → k < 2
      → get_or sorts (2 * i + k) 0 ≡ get_or (map (λ (x : Term). suc x.type) (siblings_of g.types (read_at g.types i t a v p))) k 0
  sorts_of-read i t a v p h e k l =
      row-sorts-at limits supported g ok total i k h l ∙ ap (λ (w : Row). get_or (row_sorts g.types i w) k 0) e ∙ pad_get 0 2 k (map (λ (x : Term). suc x.type) (siblings_of g.types (read_at g.types i t a v p) ++ []))
      ∙ ap (λ (xs : List Term). get_or (map (λ (x : Term). suc x.type) xs) k 0) (append-nil (siblings_of g.types (read_at g.types i t a v p)))

  few_siblings : (i t a v p : ℕ) → i < length g.rows → row_at g.rows i ≡ field t a v p → length (siblings_of g.types (read_at g.types i t a v p)) ≤ 2
  few_siblings i t a v p h e = read-few i p (fields_of g.types t v) (subst (RowFits g.types g.rows i) e (ok.rows i h)).3 (ok.field_counts t v)

  -- a sibling's type, plus one, stands at its place
  pub sibling_sort_at : (r : Read) → Memᴰ r (table_of g).reads → (x : Term) → Memᴰ x (siblings_of g.types r) → get_or sorts (x.term - 24) 0 ≡ suc x.type
  sibling_sort_at = read_inv g (λ r. (x : Term) → Memᴰ x (siblings_of g.types r) → get_or sorts (x.term - 24) 0 ≡ suc x.type) at_read
    where
      at_read : (i t a v p : ℕ) → i < length g.rows → row_at g.rows i ≡ field t a v p → (x : Term) → Memᴰ x (siblings_of g.types (read_at g.types i t a v p)) → get_or sorts (x.term - 24) 0 ≡ suc x.type
      at_read i t a v p h e x m =
          let xs : List Term = siblings_of g.types (read_at g.types i t a v p) in
          let (k, l, q) = position xs x m in
          let n : x.term ≡ 24 + 2 * i + k = ap (λ (y : Term). y.term) (sym q) ∙ counted (24 + 2 * i) xs (read-numbered i p (fields_of g.types t v)) k l in
          let z : x.term - 24 ≡ 2 * i + k = omega arith in
          ap (λ (j : ℕ). get_or sorts j 0) z ∙ sorts_of-read i t a v p h e k (omega (arith, few_siblings i t a v p h e)) ∙ map_at (λ (y : Term). suc y.type) xs k no_term 0 l ∙ ap (λ (y : Term). suc y.type) q

  -- and what is not 0 is a sibling's
  pub sort_of_term : (i k u : ℕ) → i < length g.rows → k < 2 → get_or sorts (2 * i + k) 0 ≡ suc u → Memᴰ (record { term = sibling_term i + k; type = u }) (table_of g).terms
  sort_of_term i k u h l s = go (row_at g.rows i) refl
    where
      empty : (w : Row) → row_at g.rows i ≡ w → row_sorts g.types i w ≡ pad 2 [] → Memᴰ (record { term = sibling_term i + k; type = u }) (table_of g).terms
      empty w e n =
          absurd (omega (arith, s, row-sorts-at limits supported g ok total i k h l, ap (λ (y : Row). get_or (row_sorts g.types i y) k 0) e, ap (λ (xs : List ℕ). get_or xs k 0) n, pad_get {A = ℕ} 0 2 k []))

      go : (w : Row) → row_at g.rows i ≡ w → Memᴰ (record { term = sibling_term i + k; type = u }) (table_of g).terms
      go (variable t) e = empty (variable t) e refl
      go (constant t z) e = empty (constant t z) e refl
      go (built t v ps) e = empty (built t v ps) e refl
      go (field t a v p) e =
          let r : Read = read_at g.types i t a v p in
          let xs : List Term = siblings_of g.types r in
          let at = sorts_of-read i t a v p h e k l in
          let inside : k < length xs = by_test (ltb k (length xs)) (λ b. ltb-true _ _ b)
          (λ b. absurd (omega (
            arith,
            s,
            at,
            map-length (λ (y : Term). suc y.type) xs,
            ltb-false k (length xs) b,
            get_or-eq_default (map (λ (y : Term). suc y.type) xs) 0 {n = k} (omega (arith, map-length (λ (y : Term). suc y.type) xs, ltb-false k (length xs) b)),
          ))) in
          let n : (get_or xs k no_term).term ≡ sibling_term i + k = counted (sibling_term i) xs (read-numbered i p (fields_of g.types t v)) k inside in
          let m : (get_or xs k no_term).type ≡ u = omega (arith, s, at, map_at (λ (y : Term). suc y.type) xs k no_term 0 inside) in
          let x : Memᴰ (get_or xs k no_term) (table_of g).terms = sibling_term_lem g r (read-row g i t a v p h e) (get_or xs k no_term) (mem_at xs k inside) in
          subst (λ (y : Term). Memᴰ y (table_of g).terms) (same-term (get_or xs k no_term) (sibling_term i + k) u n m) x
