-- What a row puts into its places, and columns that are put together row by row. Assumes nothing.
use mathlib.Core.Path.{◌≡◌, refl, ap, sym, ◌∙◌}
use mathlib.Core.Bool.{Bool, true, false, cond, not}
use mathlib.Core.List.{List, [], ◌∷◌, ◌++◌, map}
use Prim.Native.Nat.{ℕ, zero, suc, ◌+◌, ◌*◌, ◌-◌, ◌≤◌, ◌<◌}
use native.Mathlib.Nat.{zero-add}
use native.Mathlib.Omega.{arith}
use lib.Dec.{eqb, ltb}
use lib.ListN.{length, get_or, length-append, replicate}
use borrow.Author.Tests.{eq-eqb, ne_eqb}
use Rattle.laws.specs.Lists.{cons_if, filter, from}
use Rattle.laws.proofs.Lists.{map-from-at, map-length}
use Rattle.guard.specs.Guard.{Row, row_at}
use Rattle.guard.specs.Terms.{Term, field_terms, from_rows, pair_terms}
use Rattle.guard.specs.Types.{Variant}
use Rattle.tables.specs.Layout.{pad}
use Rattle.fieldterms.specs.FieldTerms.{field_term_at, sibling_position}

-- ---- columns row by row

from-append : (m n a : ℕ) → from (m + n) a ≡ from m a ++ from n (a + m)
from-append zero n a = let e : a ≡ a + 0 = omega arith in let z : 0 + n ≡ n = omega arith in ap (λ (k : ℕ). from k a) z ∙ ap (from n) e
from-append (suc m) n a =
    let e : suc a + m ≡ a + suc m = omega arith in
    let z : suc m + n ≡ suc (m + n) = omega arith in
    ap (λ (k : ℕ). from k a) z ∙ ap (λ (l : List ℕ). a ∷ l) (from-append m n (suc a) ∙ ap (λ (k : ℕ). from m (suc a) ++ from n k) e)

map-append : (f : ℕ → ℕ) (xs ys : List ℕ) → map f (xs ++ ys) ≡ map f xs ++ map f ys
map-append f [] ys = refl
map-append f (x ∷ xs) ys = ap (λ (l : List ℕ). f x ∷ l) (map-append f xs ys)

-- d places to a row
module _ (d : ℕ) (h : ℕ → ℕ) (f : ℕ → Row → List ℕ) where
  places_from : (rs : List Row) (k : ℕ) → ((i : ℕ) → i < length rs → map h (from d (d * (k + i))) ≡ f (k + i) (row_at rs i)) → map h (from (d * length rs) (d * k)) ≡ from_rows f k rs
  places_from [] k each = let e : d * 0 ≡ 0 = omega arith in ap (λ (n : ℕ). map h (from n (d * k))) e
  places_from (r ∷ rs) k each =
      let e : d * suc (length rs) ≡ d + d * length rs = omega arith in
      let z : d * k + d ≡ d * suc k = omega arith in
      let here : map h (from d (d * k)) ≡ f k r = (let q : k + 0 ≡ k = omega arith in ap (λ (n : ℕ). map h (from d (d * n))) (sym q) ∙ each 0 (omega arith) ∙ ap (λ (n : ℕ). f n r) q) in
      let rest : map h (from (d * length rs) (d * suc k)) ≡ from_rows f (suc k) rs =
      places_from rs (suc k) (λ i l. let q : suc k + i ≡ k + suc i = omega arith in ap (λ (n : ℕ). map h (from d (d * n))) q ∙ each (suc i) (omega arith) ∙ ap (λ (n : ℕ). f n (row_at rs i)) (sym q)) in
      ap (λ (n : ℕ). map h (from n (d * k))) e ∙ ap (map h) (from-append d (d * length rs) (d * k)) ∙ map-append h (from d (d * k)) (from (d * length rs) (d * k + d))
      ∙ ap (λ (n : ℕ). map h (from d (d * k)) ++ map h (from (d * length rs) n)) z ∙ ap (λ (l : List ℕ). l ++ map h (from (d * length rs) (d * suc k))) here
      ∙ ap (λ (l : List ℕ). f k r ++ l) rest

  pub places_by_row : (rs : List Row) → ((i : ℕ) → i < length rs → map h (from d (d * i)) ≡ f i (row_at rs i)) → map h (from (d * length rs) 0) ≡ from_rows f 0 rs
  places_by_row rs each =
      let e : d * 0 ≡ 0 = omega arith in
      ap (λ (n : ℕ). map h (from (d * length rs) n)) (sym e)
      ∙ places_from rs 0 (λ i l. let q : 0 + i ≡ i = omega arith in ap (λ (n : ℕ). map h (from d (d * n))) q ∙ each i l ∙ ap (λ (n : ℕ). f n (row_at rs i)) (sym q))

  -- the column at a place of row i is what row i puts there
  pub place_of-row : (rs : List Row) → ((i : ℕ) → i < length rs → map h (from d (d * i)) ≡ f i (row_at rs i)) → (i j : ℕ) → i < length rs → j < d → d * i + j < d * length rs
      → get_or (from_rows f 0 rs) (d * i + j) 0 ≡ get_or (f i (row_at rs i)) j 0
  place_of-row rs each i j l m n =
      ap (λ (c : List ℕ). get_or c (d * i + j) 0) (sym (places_by_row rs each)) ∙ map-from-at h (d * length rs) 0 (d * i + j) 0 n ∙ ap h (zero-add (d * i + j))
      ∙ sym (map-from-at h d (d * i) j 0 m) ∙ ap (λ (c : List ℕ). get_or c j 0) (each i l)

-- ---- the fields of a read

pub three : {a b c x y z : ℕ} → a ≡ x → b ≡ y → c ≡ z → ◌≡◌ {A = List ℕ} (a ∷ b ∷ c ∷ []) (x ∷ y ∷ z ∷ [])
three e f g = cc

pub two : {a b x y : ℕ} → a ≡ x → b ≡ y → ◌≡◌ {A = List ℕ} (a ∷ b ∷ []) (x ∷ y ∷ [])
two e f = cc

-- the entry at position q, by the number of fields
abbrev pub term_or0 : ℕ → ℕ → ℕ → ℕ → ℕ
term_or0 i p n q = cond (ltb q n) (field_term_at i p q) 0

pub read-fields : (i p : ℕ) (fs : Variant) → p < length fs → length fs ≤ 3
    → pad 3 (field_terms i p 0 (24 + 2 * i) fs ++ []) ≡ term_or0 i p (length fs) 0 ∷ term_or0 i p (length fs) 1 ∷ term_or0 i p (length fs) 2 ∷ []
unfolding field_term_at
read-fields i p [] h l = absurd (omega arith)
read-fields i zero (x ∷ []) h l = three refl refl refl
read-fields i (suc p) (x ∷ []) h l = absurd (omega arith)
read-fields i zero (x ∷ y ∷ []) h l = three refl (omega arith) refl
read-fields i (suc zero) (x ∷ y ∷ []) h l = three (omega arith) refl refl
read-fields i (suc (suc p)) (x ∷ y ∷ []) h l = absurd (omega arith)
read-fields i zero (x ∷ y ∷ z ∷ []) h l = three refl (omega arith) (omega arith)
read-fields i (suc zero) (x ∷ y ∷ z ∷ []) h l = three (omega arith) refl (omega arith)
read-fields i (suc (suc zero)) (x ∷ y ∷ z ∷ []) h l = three (omega arith) (omega arith) refl
read-fields i (suc (suc (suc p))) (x ∷ y ∷ z ∷ []) h l = absurd (omega arith)
read-fields i p (x ∷ y ∷ z ∷ w ∷ fs) h l = absurd (omega arith)

-- ---- its siblings

-- from position q on; the next sibling is s
abbrev siblings_from : ℕ → ℕ → ℕ → Variant → List Term
siblings_from p q s [] = []
siblings_from p q s (f ∷ fs) = elim (eqb p q) [ true ↦ siblings_from p (suc q) s fs | false ↦ record { term = s; type = f } ∷ siblings_from p (suc q) (suc s) fs ]

siblings_from_lem : (i p q s : ℕ) (fs : Variant) → i < s → filter (λ x. not (eqb x.term i)) (pair_terms (field_terms i p q s fs) fs) ≡ siblings_from p q s fs
siblings_from_lem i p q s [] h = refl
siblings_from_lem i p q s (f ∷ fs) h = go (eqb p q) (siblings_from_lem i p (suc q) s fs h) (siblings_from_lem i p (suc q) (suc s) fs (omega arith))
  where
    rest : ℕ → List Term
    rest s = filter (λ x. not (eqb x.term i)) (pair_terms (field_terms i p (suc q) s fs) fs)

    go : (b : Bool) → rest s ≡ siblings_from p (suc q) s fs → rest (suc s) ≡ siblings_from p (suc q) (suc s) fs
        → filter (λ x. not (eqb x.term i)) (pair_terms (elim b [ true ↦ i ∷ field_terms i p (suc q) s fs | false ↦ s ∷ field_terms i p (suc q) (suc s) fs ]) (f ∷ fs))
        ≡ elim b [ true ↦ siblings_from p (suc q) s fs | false ↦ record { term = s; type = f } ∷ siblings_from p (suc q) (suc s) fs ]
    go true e n = ap (λ (b : Bool). cons_if (not b) (record { term = i; type = f }) (rest s)) (eq-eqb i i refl) ∙ e
    go false e n = ap (λ (b : Bool). cons_if (not b) (record { term = s; type = f }) (rest (suc s))) (ne_eqb s i (λ z. omega arith)) ∙ ap (λ (l : List Term). record { term = s; type = f } ∷ l) n

-- they are counted through
numbered-from : (p q s : ℕ) (fs : Variant) → map (λ (x : Term). x.term) (siblings_from p q s fs) ≡ from (length (siblings_from p q s fs)) s
numbered-from p q s [] = refl
numbered-from p q s (f ∷ fs) = go (eqb p q) (numbered-from p (suc q) s fs) (numbered-from p (suc q) (suc s) fs)
  where
    chosen : Bool → List Term
    chosen b = elim b [ true ↦ siblings_from p (suc q) s fs | false ↦ record { term = s; type = f } ∷ siblings_from p (suc q) (suc s) fs ]

    go : (b : Bool) → map (λ (x : Term). x.term) (siblings_from p (suc q) s fs) ≡ from (length (siblings_from p (suc q) s fs)) s
        → map (λ (x : Term). x.term) (siblings_from p (suc q) (suc s) fs) ≡ from (length (siblings_from p (suc q) (suc s) fs)) (suc s)
        → map (λ (x : Term). x.term) (chosen b) ≡ from (length (chosen b)) s
    go true e n = e
    go false e n = ap (λ (l : List ℕ). s ∷ l) n

-- "the other fields of its variant, in order of position, are terms 24 + 2 × r and 25 + 2 × r"
pub read-numbered : (i p : ℕ) (fs : Variant) → let xs = filter (λ x. not (eqb x.term i)) (pair_terms (field_terms i p 0 (24 + 2 * i) fs) fs) in map (λ (x : Term). x.term) xs ≡ from (length xs) (24 + 2 * i)
read-numbered i p fs =
    let e = siblings_from_lem i p 0 (24 + 2 * i) fs (omega arith) in
    ap (map (λ (x : Term). x.term)) e ∙ numbered-from p 0 (24 + 2 * i) fs ∙ ap (λ (xs : List Term). from (length xs) (24 + 2 * i)) (sym e)

abbrev pub sort_or0 : ℕ → Variant → ℕ → ℕ
sort_or0 p fs k = cond (ltb (sibling_position p k) (length fs)) (get_or fs (sibling_position p k) 0 + 1) 0

sorts-from : (p s : ℕ) (fs : Variant) → p < length fs → length fs ≤ 3 → pad 2 (map (λ x. suc x.type) (siblings_from p 0 s fs ++ [])) ≡ sort_or0 p fs 0 ∷ sort_or0 p fs 1 ∷ []
unfolding sibling_position
sorts-from p s [] h l = absurd (omega arith)
sorts-from zero s (x ∷ []) h l = two refl refl
sorts-from (suc p) s (x ∷ []) h l = absurd (omega arith)
sorts-from zero s (x ∷ y ∷ []) h l = two (omega arith) refl
sorts-from (suc zero) s (x ∷ y ∷ []) h l = two (omega arith) refl
sorts-from (suc (suc p)) s (x ∷ y ∷ []) h l = absurd (omega arith)
sorts-from zero s (x ∷ y ∷ z ∷ []) h l = two (omega arith) (omega arith)
sorts-from (suc zero) s (x ∷ y ∷ z ∷ []) h l = two (omega arith) (omega arith)
sorts-from (suc (suc zero)) s (x ∷ y ∷ z ∷ []) h l = two (omega arith) (omega arith)
sorts-from (suc (suc (suc p))) s (x ∷ y ∷ z ∷ []) h l = absurd (omega arith)
sorts-from p s (x ∷ y ∷ z ∷ w ∷ fs) h l = absurd (omega arith)

pub read-sorts : (i p : ℕ) (fs : Variant) → p < length fs → length fs ≤ 3
    → pad 2 (map (λ x. suc x.type) (filter (λ x. not (eqb x.term i)) (pair_terms (field_terms i p 0 (24 + 2 * i) fs) fs) ++ [])) ≡ sort_or0 p fs 0 ∷ sort_or0 p fs 1 ∷ []
read-sorts i p fs h l =
    ap (λ (xs : List Term). pad 2 (map (λ (x : Term). suc x.type) (xs ++ []))) (siblings_from_lem i p 0 (24 + 2 * i) fs (omega arith)) ∙ sorts-from p (24 + 2 * i) fs h l

-- at most two
pub read-few : (i p : ℕ) (fs : Variant) → p < length fs → length fs ≤ 3 → length (filter (λ x. not (eqb x.term i)) (pair_terms (field_terms i p 0 (24 + 2 * i) fs) fs)) ≤ 2
read-few i p fs h l = few (filter (λ x. not (eqb x.term i)) (pair_terms (field_terms i p 0 (24 + 2 * i) fs) fs)) (ap length (read-sorts i p fs h l))
  where
    few : (xs : List Term) → length (pad 2 (map (λ (x : Term). suc x.type) (xs ++ []))) ≡ 2 → length xs ≤ 2
    few xs e =
        let ys : List ℕ = map (λ (x : Term). suc x.type) (xs ++ []) in
        omega (arith, e, length-append ys (replicate (2 - length ys) 0), map-length (λ (x : Term). suc x.type) (xs ++ []), length-append xs [])
