-- Each number of a row that fits is read back from its column, and so is each column. Assumes nothing.
use mathlib.Core.Path.{◌≡◌, refl, ap, sym, subst, ◌∙◌}
use mathlib.Core.Bool.{Bool, true, false, cond, not}
use mathlib.Core.List.{List, [], ◌∷◌, ◌++◌, append_assoc, append-nil, map, map-append}
use Prim.Native.Nat.{ℕ, zero, suc, ◌+◌, ◌≤◌, ◌<◌}
use native.Mathlib.Omega.{arith}
use lib.Dec.{ltb}
use lib.ListN.{length, get_or, take, drop, length-append, length-map, drop_of_length-le}
use lib.Seq.{drop-cons, get_or-append_seam}
use borrow.Author.Tests.{ltb-false, ltb-true, ne_eqb}
use Rattle.laws.specs.All.{All}
use Rattle.laws.specs.All as all
use Rattle.laws.specs.Lists.{concat_map}
use Rattle.laws.proofs.Bools.{by_test}
use Rattle.laws.proofs.Lists.{all_get_d}
use Rattle.guard.specs.File.{kind}
use Rattle.guard.specs.Guard.{Row, Row.built, Row.constant, Row.field, Row.variable, no_row, row_at}
use Rattle.guard.specs.Number.{Parser, ask, return, unsigned, width32}
use Rattle.guard.specs.Types.{Types, is_number, variants_of}
use Rattle.guard.specs.WellFormed.{RowFits}
use Rattle.serialize.specs.Tokens.{Token.plain, unsigned_of}
use Rattle.columnfile.specs.Columns.{bytes_for, cell, column_from, entry, row_numbers, second, third, width}
use Rattle.columnfile.proofs.Gives.{Gives, gives-asked, gives_bind, gives-kind, gives-name, gives-number, gives-return, gives_same, gives-value}
use Rattle.columnfile.proofs.RowNumbers.{Sizes, at, width_is}

-- ---- numbers after the third

later : (j : ℕ) (xs : List ℕ) (w : ℕ) → w ≡ length xs → (j < length xs → get_or xs j 0 ≤ width32.most)
    → Gives (cond (ltb j w) unsigned (return 0)) (bytes_for (take 1 (drop j xs))) (get_or xs j 0)
later j xs w is small = by_test (ltb j w) there missing
  where
    there : ltb j w ≡ true → Gives (cond (ltb j w) unsigned (return 0)) (bytes_for (take 1 (drop j xs))) (get_or xs j 0)
    there e =
        let h : j < length xs = omega (arith, ltb-true j w e, is) in
        subst (λ (b : Bool). Gives (cond b unsigned (return 0)) (bytes_for (take 1 (drop j xs))) (get_or xs j 0)) (sym e)
        (gives_same unsigned (ap (λ (l : List ℕ). bytes_for (take 1 l)) (sym (drop-cons xs j 0 h))) (gives-number (get_or xs j 0) (small h)))

    missing : ltb j w ≡ false → Gives (cond (ltb j w) unsigned (return 0)) (bytes_for (take 1 (drop j xs))) (get_or xs j 0)
    missing e =
        let h : length xs ≤ j = omega (arith, ltb-false j w e, is) in
        subst (λ (b : Bool). Gives (cond b unsigned (return 0)) (bytes_for (take 1 (drop j xs))) (get_or xs j 0)) (sym e)
        (subst (λ (n : ℕ). Gives (return 0) (bytes_for (take 1 (drop j xs))) n) (sym (past xs j h))
        (gives_same (return 0) (ap (λ (l : List ℕ). bytes_for (take 1 l)) (sym (drop_of_length-le xs h))) (gives-return 0)))
      where
        past : (ys : List ℕ) (k : ℕ) → length ys ≤ k → get_or ys k 0 ≡ 0
        past [] k h = refl
        past (y ∷ ys) zero h = absurd (omega arith)
        past (y ∷ ys) (suc k) h = past ys k (omega arith)

-- ---- a row's numbers

module _ (ts : Types) (rs : List Row) (sizes : Sizes ts) (i : ℕ) (few : i ≤ 24) where
  has_variant_lem : (t v : ℕ) → v < length (variants_of ts t) → not (is_number ts t) ≡ true
  has_variant_lem t v h = ap not (ne_eqb (length (variants_of ts t)) 0 (λ e. omega (arith, e)))

  kind-back : (r : Row) → Gives kind (bytes_for (entry 0 r)) (at 0 r)
  kind-back (variable t) = gives-kind 0 (omega arith)
  kind-back (constant t z) = gives-kind 1 (omega arith)
  kind-back (built t v ps) = gives-kind 2 (omega arith)
  kind-back (field t a v p) = gives-kind 3 (omega arith)

  second_back : (r : Row) → RowFits ts rs i r → Gives (second ts (at 0 r)) (bytes_for (entry 1 r)) (at 1 r)
  second_back (variable t) h = gives-number t (omega (arith, sizes.types))
  second_back (constant t z) h = gives-number t (omega (arith, sizes.types, h.0))
  second_back (built t v ps) h =
      gives_same (second ts 2) (append-nil (bytes_for (t ∷ [])))
      (gives_bind _ _ (gives-name (length ts) t (omega (arith, sizes.types)) h.0) (gives-asked 7 (not (is_number ts t)) (return t) (has_variant_lem t v h.1) (gives-return t)))
  second_back (field t a v p) h = gives-number a (omega (arith, h.0))

  third_back : (r : Row) → RowFits ts rs i r → Gives (third ts (at 0 r) (at 1 r)) (bytes_for (entry 2 r)) (at 2 r)
  third_back (variable t) h = gives-return 0
  third_back (constant t z) h = gives-value _ h.2
  third_back (built t v ps) h = gives-name (length (variants_of ts t)) v (omega (arith, sizes.variants t)) h.1
  third_back (field t a v p) h = gives-number v (omega (arith, sizes.variants t, h.2))

  small_later : (r : Row) → RowFits ts rs i r → (j : ℕ) → suc (suc (suc j)) < length (row_numbers r) → at (suc (suc (suc j))) r ≤ width32.most
  small_later (variable t) h j l = absurd (omega arith)
  small_later (constant t z) h j l = absurd (omega arith)
  small_later (built t v ps) h j l = parts ps h.2 j
    where
      parts : (qs : List ℕ) → All (λ p. p < i) qs → (k : ℕ) → get_or (map unsigned_of (map plain qs)) k 0 ≤ width32.most
      parts [] hs k = omega arith
      parts (q ∷ qs) (all.All.more h hs) zero = omega arith
      parts (q ∷ qs) (all.All.more h hs) (suc k) = parts qs hs k
  small_later (field t a v p) h zero l = omega (arith, sizes.fields t v, h.3)
  small_later (field t a v p) h (suc j) l = absurd (omega arith)

  pub cell-back : (j : ℕ) (r : Row) → RowFits ts rs i r → Gives (cell ts j (at 0 r) (at 1 r) (at 2 r)) (bytes_for (entry j r)) (at j r)
  cell-back zero r h = kind-back r
  cell-back (suc zero) r h = second_back r h
  cell-back (suc (suc zero)) r h = third_back r h
  cell-back (suc (suc (suc j))) r h = later (suc (suc (suc j))) (row_numbers r) (width ts (at 0 r) (at 1 r) (at 2 r)) (width_is ts rs sizes i few r h) (small_later r h j)

-- ---- a column

module _ (p : ℕ → Parser ℕ) (f : Row → List ℕ) (g : Row → ℕ) (rs : List Row) (reads : (i : ℕ) → i < length rs → Gives (p i) (f (row_at rs i)) (g (row_at rs i))) where
  pub column-back : (done rest : List Row) → done ++ rest ≡ rs → Gives (column_from p (length rest) (map g done)) (concat_map f rest) (map g rs)
  column-back done [] e = subst (λ (xs : List Row). Gives (return (map g done)) [] (map g xs)) (sym (append-nil done) ∙ e) (gives-return (map g done))
  column-back done (r ∷ rest) e =
      gives_bind (p (length (map g done))) (λ x. column_from p (length rest) (map g done ++ (x ∷ [])))
      (subst (λ (k : ℕ). Gives (p k) (f r) (g r)) (sym (length-map done g)) here)
      (subst (λ (xs : List ℕ). Gives (column_from p (length rest) xs) (concat_map f rest) (map g rs)) (map-append g done (r ∷ []))
      (column-back (done ++ (r ∷ [])) rest (append_assoc done (r ∷ []) rest ∙ e)))
    where
      there : row_at rs (length done) ≡ r
      there = ap (λ (xs : List Row). row_at xs (length done)) (sym e) ∙ get_or-append_seam done r rest no_row

      here : Gives (p (length done)) (f r) (g r)
      here = subst (λ (x : Row). Gives (p (length done)) (f x) (g x)) there (reads (length done) (omega (arith, ap length e, length-append done (r ∷ rest))))
