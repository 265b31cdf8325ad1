-- The table of types in range is in range itself, and holds these types. Assumes nothing.
use mathlib.Core.Path.{◌≡◌, refl, ap, ◌∙◌, subst}
use mathlib.Core.List.{List, [], ◌∷◌, map}
use Prim.Native.Nat.{ℕ, suc, ◌+◌, ◌*◌, ◌≤◌, ◌<◌}
use native.Mathlib.Omega.{arith}
use lib.ListN.{length, get_or, get_or-eq_default}
use native.Mathlib.Nat.{zero-add}
use lib.Dec.{ltb}
use borrow.Author.Tests.{ltb-true, ltb-false}
use Rattle.laws.specs.All.{All}
use Rattle.laws.specs.Lists.{from}
use Rattle.laws.proofs.Bools.{by_test}
use Rattle.laws.proofs.Lists.{all_get_d, all_weaken}
use Rattle.guard.specs.Limits.{field_limit, total_variant_limit, variant_limit}
use Rattle.guard.specs.Types.{Types, Variant, fields_of, variants_of}
use Rattle.tables.specs.Layout.{TypesInRange, flat, offsets, type_table, types_of}
use Rattle.tables.proofs.Columns.{pad_get}
use Rattle.tables.proofs.Lookups.{arity-at, arity_of_lem, first-at, flat-at, offset_inside, offset_of, offsets-length, sort-at, sort_of, variants_at_lem}

-- a list is the map of its elements over its positions
list_from : {A : Type 0} (f : ℕ → A) (xs : List A) (d : A) (a : ℕ) → ((i : ℕ) → i < length xs → f (a + i) ≡ get_or xs i d) → map f (from (length xs) a) ≡ xs
list_from f [] d a h = refl
list_from f (x ∷ xs) d a h =
    let e : f a ≡ x = let q : a ≡ a + 0 = omega arith in ap f q ∙ h 0 (omega arith) in
    let r : map f (from (length xs) (suc a)) ≡ xs = list_from f xs d (suc a) (λ i l. let q : suc a + i ≡ a + suc i = omega arith in ap f q ∙ h (suc i) (omega arith)) in
    cc

-- a list of so many
list_of : {A : Type 0} (f : ℕ → A) (n : ℕ) (xs : List A) (d : A) → n ≡ length xs → ((i : ℕ) → i < length xs → f i ≡ get_or xs i d) → map f (from n 0) ≡ xs
list_of f n xs d e h = ap (λ (k : ℕ). map f (from k 0)) e ∙ list_from f xs d 0 (λ i l. ap f (zero-add i) ∙ h i l)

pub many_is : (ts : Types) → (type_table ts).many ≡ length ts
unfolding type_table
many_is ts = refl

module _ (ts : Types) (few : All (λ fs. length fs ≤ 3) (flat ts)) where
  pub types-back : types_of (type_table ts) ≡ ts
  unfolding types_of
  types-back = list_of _ (type_table ts).many ts [] (many_is ts) (λ t h. list_of _ (get_or (type_table ts).variants t 0) (variants_of ts t) [] (variants_at_lem ts t) (λ v hv. variant t v h hv))
    where
      variant : (t v : ℕ) → t < length ts → v < length (variants_of ts t)
          → map (λ j. get_or (type_table ts).sorts (3 * (get_or (type_table ts).first t 0 + v) + j) 0) (from (get_or (type_table ts).arities (get_or (type_table ts).first t 0 + v) 0) 0) ≡ fields_of ts t v
      variant t v h hv =
          ap (λ (k : ℕ). map (λ j. get_or (type_table ts).sorts (3 * (k + v) + j) 0) (from (get_or (type_table ts).arities (k + v) 0) 0)) (first-at ts t h)
          ∙ list_of (λ j. get_or (type_table ts).sorts (3 * (offset_of ts t + v) + j) 0) (get_or (type_table ts).arities (offset_of ts t + v) 0) (fields_of ts t v) 0 (arity-at ts t v hv)
          (λ j l. sort-at ts t v j few hv (omega (arith, arity-few t v hv)))
        where
          arity-few : (t v : ℕ) → v < length (variants_of ts t) → length (fields_of ts t v) ≤ 3
          arity-few t v hv = subst (λ (fs : Variant). length fs ≤ 3) (flat-at ts t v hv) (all_get_d few (offset_of ts t + v) [] (omega (arith, offset_inside ts t)))

module _ (ts : Types) (many : length ts ≤ 6) (variants : (t : ℕ) → length (variants_of ts t) ≤ variant_limit) (total : length (flat ts) ≤ total_variant_limit)
    (fields : All (λ fs. (length fs ≤ field_limit) × All (λ f. f < length ts) fs) (flat ts)) where
  few' : All (λ fs. length fs ≤ 3) (flat ts)
  few' = all_weaken (λ fs h. h.0) fields

  first_past : (t : ℕ) → length ts ≤ t → get_or (type_table ts).first t 0 ≡ 0
  unfolding type_table
  first_past t h = pad_get 0 6 t (offsets 0 ts) ∙ get_or-eq_default (offsets 0 ts) 0 (omega (arith, offsets-length 0 ts))

  pub table_in_range : TypesInRange (type_table ts)
  table_in_range =
      record {
        many = omega (arith, many_is ts);
        variants = λ t. omega (arith, variants_at_lem ts t, variants t);
        first = λ t. by_test (ltb t (length ts)) (λ e. omega (arith, first-at ts t (ltb-true _ _ e), variants_at_lem ts t, offset_inside ts t))
            (λ e. omega (arith, first_past t (ltb-false t (length ts) e), variants_at_lem ts t, ap length (get_or-eq_default ts [] {n = t} (ltb-false t (length ts) e))));
        arities = λ w. omega (arith, arity-any w);
        sorts = λ w j h. sort-small w j (omega (arith, arity_of_lem ts w, h));
      }
    where
      arity-any : (w : ℕ) → get_or (type_table ts).arities w 0 ≤ field_limit
      arity-any w =
          by_test (ltb w (length (flat ts))) (λ e. omega (arith, arity_of_lem ts w, (all_get_d fields w [] (ltb-true _ _ e)).0))
          (λ e. omega (arith, arity_of_lem ts w, ap length (get_or-eq_default (flat ts) [] {n = w} (ltb-false w (length (flat ts)) e))))

      sort-small : (w j : ℕ) → j < length (get_or (flat ts) w []) → get_or (type_table ts).sorts (3 * w + j) 0 < (type_table ts).many
      sort-small w j h =
          by_test (ltb w (length (flat ts)))
          (λ e. let f = all_get_d fields w [] (ltb-true _ _ e) in omega (arith, many_is ts, sort_of ts w j few' (ltb-true _ _ e) (omega (arith, f.0)), all_get_d f.1 j 0 h))
          (λ e. absurd (omega (arith, ap length (get_or-eq_default (flat ts) [] {n = w} (ltb-false w (length (flat ts)) e)), h)))
