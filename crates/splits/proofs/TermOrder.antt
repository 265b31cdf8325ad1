-- The table of a guard is in order: reads by their rows, terms by their numbers. Assumes nothing.
use mathlib.Core.Path.{◌≡◌, refl, ap, sym, subst}
use mathlib.Core.List.{List, [], ◌∷◌, ◌++◌, map, Memᴰ}
use Prim.Native.Nat.{ℕ, zero, suc, ◌+◌, ◌*◌, ◌≤◌, ◌<◌}
use native.Mathlib.Omega.{arith}
use lib.ListN.{length, get_or}
use Rattle.laws.specs.Lists.{concat_map, from}
use Rattle.laws.proofs.Bools.{either}
use Rattle.laws.proofs.Lists.{from_bounds, mem_concat_map_inv, mem_map}
use Rattle.guard.specs.Guard.{Guard, Row, Row.built, Row.constant, Row.field, Row.variable}
use Rattle.guard.specs.Limits.{Limits, Supported}
use Rattle.guard.specs.Terms.{Read, Term, default_term, from_rows, read_of, row_term, siblings_of, table_of}
use Rattle.guard.specs.Types.{Types, fields_of}
use Rattle.guard.specs.WellFormed.{RowFits, WellFormed}
use Rattle.guard.proofs.TableLaws.{few-rows, read_inv, row-fit, rows_inv}
use Rattle.siblings.proofs.ReadLaws.{sibling_terms}
use Rattle.siblings.proofs.RowEntries.{read-few}
use Rattle.splits.proofs.InOrder.{Rising, rising-append, rising_later}

abbrev pub row_of : Read → ℕ
row_of r = r.row

abbrev pub number_of : Term → ℕ
number_of x = x.term

rising-reads : (ts : Types) (i : ℕ) (rs : List Row) → Rising row_of i (from_rows (read_of ts) i rs)
rising-reads ts i [] = tt
rising-reads ts i (variable t ∷ rs) = rising_later row_of i (suc i) (from_rows (read_of ts) (suc i) rs) (omega arith) (rising-reads ts (suc i) rs)
rising-reads ts i (constant t z ∷ rs) = rising_later row_of i (suc i) (from_rows (read_of ts) (suc i) rs) (omega arith) (rising-reads ts (suc i) rs)
rising-reads ts i (built t v ps ∷ rs) = rising_later row_of i (suc i) (from_rows (read_of ts) (suc i) rs) (omega arith) (rising-reads ts (suc i) rs)
rising-reads ts i (field t a v p ∷ rs) = (omega arith, rising-reads ts (suc i) rs)

rising-rows : (ts : Types) (i : ℕ) (rs : List Row) → Rising number_of i (from_rows (row_term ts) i rs)
rising-rows ts i [] = tt
rising-rows ts i (r ∷ rs) = (omega arith, rising-rows ts (suc i) rs)

-- terms that are counted through
rising-counted : (a : ℕ) (xs : List Term) → map number_of xs ≡ from (length xs) a → Rising number_of a xs
rising-counted a [] e = tt
rising-counted a (x ∷ xs) e =
    let q : x.term ≡ a = ap (λ (l : List ℕ). get_or l 0 0) e in
    let r : map number_of xs ≡ from (length xs) (suc a) = ap tail e in
    (omega arith, subst (λ (n : ℕ). Rising number_of (suc n) xs) (sym q) (rising-counted (suc a) xs r))
  where
    tail : List ℕ → List ℕ
    tail [] = []
    tail (y ∷ ys) = ys

-- at most two for each read, counted through from twice its row on
rising_siblings : (ts : Types) (lo : ℕ) (rs : List Read) → Rising row_of lo rs
    → ((r : Read) → Memᴰ r rs → (map number_of (siblings_of ts r) ≡ from (length (siblings_of ts r)) (24 + 2 * r.row)) × (length (siblings_of ts r) ≤ 2))
    → Rising number_of (24 + 2 * lo) (concat_map (siblings_of ts) rs)
rising_siblings ts lo [] r f = tt
rising_siblings ts lo (x ∷ rs) (l, r) f =
    let (e, few) = f x (mathlib.Core.List.Memᴰ.head refl) in
    let rest : Rising number_of (24 + 2 * suc x.row) (concat_map (siblings_of ts) rs) = rising_siblings ts (suc x.row) rs r (λ y m. f y (mathlib.Core.List.Memᴰ.tail m)) in
    rising_later number_of (24 + 2 * lo) (24 + 2 * x.row) (siblings_of ts x ++ concat_map (siblings_of ts) rs) (omega arith)
    (rising-append number_of (24 + 2 * x.row) (24 + 2 * suc x.row) (siblings_of ts x) (concat_map (siblings_of ts) rs) (omega arith) (rising-counted (24 + 2 * x.row) (siblings_of ts x) e)
    (λ y m. below y m e few) rest)
  where
    below : (y : Term) → Memᴰ y (siblings_of ts x) → map number_of (siblings_of ts x) ≡ from (length (siblings_of ts x)) (24 + 2 * x.row) → length (siblings_of ts x) ≤ 2 → y.term < 24 + 2 * suc x.row
    below y m e few =
        let k : Memᴰ y.term (from (length (siblings_of ts x)) (24 + 2 * x.row)) = subst (Memᴰ y.term) e (mem_map number_of m) in
        omega (arith, (from_bounds (length (siblings_of ts x)) (24 + 2 * x.row) y.term k).1)

rising-defaults : (n a : ℕ) → Rising number_of (72 + a) (map (λ t. record { term = default_term t; type = t }) (from n a))
rising-defaults zero a = tt
rising-defaults (suc n) a = let e : suc (72 + a) ≡ 72 + suc a = omega arith in (omega arith, subst (λ (k : ℕ). Rising number_of k (map (λ t. record { term = default_term t; type = t }) (from n (suc a)))) (sym e) (rising-defaults n (suc a)))

module _ (limits : Limits) (supported : Supported limits) (g : Guard) (ok : WellFormed limits g) where
  pub reads_rise : Rising row_of 0 (table_of g).reads
  unfolding table_of
  reads_rise = rising-reads g.types 0 g.rows

  -- what holds of a read's siblings
  counted : (r : Read) → Memᴰ r (table_of g).reads
      → (map number_of (siblings_of g.types r) ≡ from (length (siblings_of g.types r)) (24 + 2 * r.row)) × (length (siblings_of g.types r) ≤ 2) × (r.row < 24)
  counted r m = (sibling_terms g r m, (few r m).0, (few r m).1)
    where
      few : (r : Read) → Memᴰ r (table_of g).reads → (length (siblings_of g.types r) ≤ 2) × (r.row < 24)
      few =
          read_inv g (λ r. (length (siblings_of g.types r) ≤ 2) × (r.row < 24))
          (λ i t a v p h e. let f : RowFits g.types g.rows i (field t a v p) = row-fit limits supported g ok i (field t a v p) h e in
          (read-few i p (fields_of g.types t v) f.3 (ok.field_counts t v), omega (arith, few-rows limits supported g ok)))

  pub terms_rise : Rising number_of 0 (table_of g).terms
  unfolding table_of
  terms_rise =
      rising-append number_of 0 72 (rows ++ siblings) defaults (omega arith)
      (rising-append number_of 0 24 rows siblings (omega arith) (rising-rows g.types 0 g.rows) row_small
      (rising_siblings g.types 0 (table_of g).reads reads_rise (λ r m. let (e, f, h) = counted r m in (e, f))))
      before-defaults (rising-defaults (length g.types) 0)
    where
      rows : List Term
      rows = from_rows (row_term g.types) 0 g.rows

      siblings : List Term
      siblings = concat_map (siblings_of g.types) (from_rows (read_of g.types) 0 g.rows)

      defaults : List Term
      defaults = map (λ t. record { term = default_term t; type = t }) (from (length g.types) 0)

      row_small : (x : Term) → Memᴰ x (from_rows (row_term g.types) 0 g.rows) → x.term < 24
      row_small = rows_inv (row_term g.types) (λ x. x.term < 24) g.rows (λ i h w e x m. only i h w x m)
        where
          only : (i : ℕ) → i < length g.rows → (w : Row) (x : Term) → Memᴰ x (row_term g.types i w) → x.term < 24
          only i h w x (mathlib.Core.List.Memᴰ.tail x5) = elim x5 [ ]
          only i h w x (mathlib.Core.List.Memᴰ.head q) = subst (λ (y : Term). y.term < 24) (sym q) (omega (arith, few-rows limits supported g ok))

      before-defaults : (x : Term) → Memᴰ x (rows ++ siblings) → x.term < 72
      before-defaults x m = either (λ n. omega (arith, row_small x n)) (mem_concat_map_inv (siblings_of g.types) (λ x. x.term < 72) (table_of g).reads sibling_small x) (mathlib.Core.List.Memᴰ.append_cases rows m)
        where
          sibling_small : (r : Read) → Memᴰ r (table_of g).reads → (y : Term) → Memᴰ y (siblings_of g.types r) → y.term < 72
          sibling_small r n y k =
              let (e, f, h) = counted r n in
              let j : Memᴰ y.term (from (length (siblings_of g.types r)) (24 + 2 * r.row)) = subst (Memᴰ y.term) e (mem_map number_of k) in
              omega (arith, (from_bounds (length (siblings_of g.types r)) (24 + 2 * r.row) y.term j).1)
