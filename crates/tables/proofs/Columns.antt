-- Padded columns: reading an element, and storing the next one. Assumes nothing.
use mathlib.Core.Path.{◌≡◌, refl, ap, sym, ◌∙◌}
use mathlib.Core.List.{List, [], ◌∷◌, ◌++◌, append_assoc, map}
use Prim.Native.Nat.{ℕ, zero, suc, ◌+◌, ◌≤◌, ◌<◌, ◌-◌}
use native.Mathlib.Omega.{arith}
use lib.ListN.{length, get_or, set, length-append, length-map, replicate, get_or-eq_default, get_or-append, length-replicate}
use lib.Dec.{ltb}
use borrow.Author.Tests.{ltb-true, ltb-false}
use lib.Seq.{get_or-append-add, set-append_seam}
use Rattle.laws.proofs.Bools.{by_test}
use Rattle.tables.specs.Layout.{pad_to}

module _ {A : Type 0} (z : A) where
  pub pad-length : (n : ℕ) (xs : List A) → length xs ≤ n → length (pad_to z n xs) ≡ n
  pad-length n xs h = omega (arith, length-append xs (replicate (n - length xs) z), length-replicate (n - length xs) z)

  -- an element of the list itself
  pub pad-at : (n i : ℕ) (xs : List A) (d : A) → i < length xs → get_or (pad_to z n xs) i d ≡ get_or xs i d
  pad-at n i xs d h = get_or-append xs (replicate (n - length xs) z) d i h

  -- past its end there is only the filling, and past the column the reader's default
  pub pad-past : (n i : ℕ) (xs : List A) → length xs ≤ i → get_or (pad_to z n xs) i z ≡ z
  pad-past n i xs h =
      let e : i ≡ length xs + (i - length xs) = omega arith in
      ap (λ (k : ℕ). get_or (pad_to z n xs) k z) e ∙ get_or-append-add xs (replicate (n - length xs) z) (i - length xs) z ∙ fill (n - length xs) (i - length xs)
    where
      fill : (m k : ℕ) → get_or (replicate m z) k z ≡ z
      fill zero k = refl
      fill (suc m) zero = refl
      fill (suc m) (suc k) = fill m k

  -- reading a column with its filling as the default is reading the list so
  pub pad_get : (n i : ℕ) (xs : List A) → get_or (pad_to z n xs) i z ≡ get_or xs i z
  pad_get n i xs = by_test (ltb i (length xs)) (λ e. pad-at n i xs z (ltb-true _ _ e)) (λ e. pad-past n i xs (ltb-false i (length xs) e) ∙ sym (get_or-eq_default xs z (ltb-false i (length xs) e)))

  -- storing at the end appends
  pub pad-set : (n : ℕ) (xs : List A) (x : A) → length xs < n → set (pad_to z n xs) (length xs) x ≡ pad_to z n (xs ++ (x ∷ []))
  pad-set n xs x h =
      let m : n - length xs ≡ suc (n - suc (length xs)) = omega arith in
      let l : length (xs ++ (x ∷ [])) ≡ suc (length xs) = omega (arith, length-append xs (x ∷ [])) in
      ap (λ (k : ℕ). set (xs ++ replicate k z) (length xs) x) m ∙ set-append_seam xs z (replicate (n - suc (length xs)) z) x
      ∙ sym (append_assoc xs (x ∷ []) (replicate (n - suc (length xs)) z)) ∙ ap (λ (k : ℕ). (xs ++ (x ∷ [])) ++ replicate (n - k) z) (sym l)

  pub pad-nil : (n : ℕ) → pad_to z n [] ≡ replicate n z
  pad-nil n = let e : n - 0 ≡ n = omega arith in ap (λ (k : ℕ). replicate k z) e

  -- a column of one entry for each element: storing the next element's entry
  module _ {B : Type 0} (f : B → A) where
    map_last : (ys : List B) (y : B) → map f (ys ++ (y ∷ [])) ≡ map f ys ++ (f y ∷ [])
    map_last [] y = refl
    map_last (x ∷ ys) y = ap (λ (l : List A). f x ∷ l) (map_last ys y)

    pub column-set : (n : ℕ) (column : List A) (ys : List B) (y : B) (i : ℕ) (a : A) → column ≡ pad_to z n (map f ys) → length ys ≡ i → i < n → a ≡ f y
        → set column i a ≡ pad_to z n (map f (ys ++ (y ∷ [])))
    column-set n column ys y i a e l h v =
        ap (λ (c : List A). set c i a) e ∙ ap (λ (k : ℕ). set (pad_to z n (map f ys)) k a) (sym (length-map ys f ∙ l)) ∙ pad-set n (map f ys) a (omega (arith, length-map ys f))
        ∙ ap (pad_to z n) (ap (λ (b : A). map f ys ++ (b ∷ [])) v ∙ sym (map_last ys y))
