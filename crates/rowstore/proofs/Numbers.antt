-- Rows as four numbers: the tests of the code, one number after the other. Assumes nothing.
use mathlib.Core.Path.{◌≡◌, refl, ap, ap₂, sym, ◌∙◌}
use mathlib.Core.Bool.{Bool, true, false, ◌&&◌, false≢true}
use mathlib.Core.List.{List, [], ◌∷◌}
use Prim.Native.Nat.{ℕ, suc, ◌+◌, ◌≤◌, ◌<◌}
use native.Mathlib.Numerals.{add-one}
use native.Mathlib.Omega.{arith}
use lib.Dec.{eqb, leb, ltb}
use lib.IntN.{ℤ, pos}
use lib.ListN.{length, get_or, take, drop}
use lib.Seq.{drop-cons}
use mir.Syntax.{w32}
use mir.Val.{SFits, of_z, to_z}
use mir.Facts.{to_z-of_z}
use borrow.Author.Count.{below_more}
use borrow.Author.Tests.{eqb-true, eqb-false, eq-eqb, ne_eqb, le-leb, le-ltb, lt-leb, lt-ltb, ltb-true, ltb-false}
use Rattle.laws.proofs.Bools.{and_both, and_left, and_right, by_test}
use Rattle.laws.proofs.Positions.{least, least_first, least_le, least_most, least_passes}
use Rattle.guard.specs.Closure.{eq_z}
use Rattle.guard.specs.Shown.{row_numbers}
use Rattle.guard.proofs.ClosureBelow.{eq_z_true}
use Rattle.guard.proofs.LeastClosure.{eq_z_of}
use Rattle.rowstore.specs.Store.{appended, many_after, row_found, row_is, same_numbers, with_row}

-- signed numbers are compared by their bits
same_bits : (a b : ℤ) → SFits w32 a → SFits w32 b → eqb (of_z w32 a) (of_z w32 b) ≡ eq_z a b
same_bits a b f g =
    by_test (eqb (of_z w32 a) (of_z w32 b)) (λ e. let h : of_z w32 a ≡ of_z w32 b = eqb-true _ _ e in e ∙ sym (eq_z_of a b (sym (to_z-of_z f) ∙ ap (to_z w32) h ∙ to_z-of_z g)))
    (λ e. e ∙ sym (by_test (eq_z a b) (λ q. absurd (eqb-false _ _ e (ap (of_z w32) (eq_z_true a b q)))) (λ q. q)))

-- number k of the rows against x
module _ (rows : List ℤ) (k : ℕ) (x : ℤ) (f : SFits w32 (get_or rows k (pos 0))) (g : SFits w32 x) where
  pub compared : eqb (of_z w32 (get_or rows k (pos 0))) (of_z w32 x) ≡ eq_z (get_or rows k (pos 0)) x
  compared = same_bits (get_or rows k (pos 0)) x f g

  pub agrees : of_z w32 (get_or rows k (pos 0)) ≡ of_z w32 x → eq_z (get_or rows k (pos 0)) x ≡ true
  agrees e = sym compared ∙ eq-eqb _ _ e

  pub differs : ¬ (of_z w32 (get_or rows k (pos 0)) ≡ of_z w32 x) → eq_z (get_or rows k (pos 0)) x ≡ false
  differs n = sym compared ∙ ne_eqb _ _ n

-- a call hands numbers on by their bits
module _ {tag a b c : ℤ} (f : SFits w32 tag) (g : SFits w32 a) (h : SFits w32 b) (k : SFits w32 c) where
  pub handed_on : (to_z w32 (of_z w32 tag) ∷ to_z w32 (of_z w32 a) ∷ to_z w32 (of_z w32 b) ∷ to_z w32 (of_z w32 c) ∷ []) ≡ tag ∷ a ∷ b ∷ c ∷ []
  handed_on = rw (to_z-of_z f, to_z-of_z g, to_z-of_z h, to_z-of_z k) refl

pub same_true : (xs ys : List ℤ) → same_numbers xs ys ≡ true → xs ≡ ys
same_true [] [] e = refl
same_true [] (y ∷ ys) e = absurd (false≢true e)
same_true (x ∷ xs) [] e = absurd (false≢true e)
same_true (x ∷ xs) (y ∷ ys) e = ap₂ (λ (z : ℤ) (zs : List ℤ). z ∷ zs) (eq_z_true x y (and_left _ _ e)) (same_true xs ys (and_right (eq_z x y) _ e))

pub same-itself : (xs : List ℤ) → same_numbers xs xs ≡ true
same-itself [] = refl
same-itself (x ∷ xs) = and_both _ _ (eq_z_of x x refl) (same-itself xs)

add-two : (k : ℕ) → k + 2 ≡ suc (suc k)
add-two k = omega arith

add-three : (k : ℕ) → k + 3 ≡ suc (suc (suc k))
add-three k = omega arith

-- the numbers of a row, place by place
module _ (rows : List ℤ) (at : ℕ) (room : at + 4 ≤ length rows) where
  abbrev number : ℕ → ℤ
  number k = get_or rows k (pos 0)

  pub four : take 4 (drop at rows) ≡ number at ∷ number (at + 1) ∷ number (at + 2) ∷ number (at + 3) ∷ []
  four =
      rw (add-one at, add-two at, add-three at, drop-cons rows at (pos 0) (omega arith), drop-cons rows (suc at) (pos 0) (omega arith), drop-cons rows (suc (suc at)) (pos 0) (omega arith), drop-cons rows (suc (suc (suc at))) (pos 0) (omega arith)) refl

  module _ (tag a b c : ℤ) where
    abbrev Same : Bool
    Same = same_numbers (take 4 (drop at rows)) (tag ∷ a ∷ b ∷ c ∷ [])

    tests : Same ≡ (eq_z (number at) tag && (eq_z (number (at + 1)) a && (eq_z (number (at + 2)) b && (eq_z (number (at + 3)) c && true))))
    tests = ap (λ (xs : List ℤ). same_numbers xs (tag ∷ a ∷ b ∷ c ∷ [])) four

    pub first_differs : eq_z (number at) tag ≡ false → false ≡ Same
    first_differs p = sym (tests ∙ rw p refl)

    pub second_differs : eq_z (number at) tag ≡ true → eq_z (number (at + 1)) a ≡ false → false ≡ Same
    second_differs p q = sym (tests ∙ rw (p, q) refl)

    pub third_differs : eq_z (number at) tag ≡ true → eq_z (number (at + 1)) a ≡ true → eq_z (number (at + 2)) b ≡ false → false ≡ Same
    third_differs p q r = sym (tests ∙ rw (p, q, r) refl)

    pub fourth_decides : eq_z (number at) tag ≡ true → eq_z (number (at + 1)) a ≡ true → eq_z (number (at + 2)) b ≡ true → eq_z (number (at + 3)) c ≡ Same
    fourth_decides p q r = sym (tests ∙ rw (p, q, r) (and-true (eq_z (number (at + 3)) c)))
      where
        and-true : (t : Bool) → (t && true) ≡ t
        and-true true = refl
        and-true false = refl

-- ---- the search

-- nothing passes below k, and k passes or is the end: it is the least
least_is : (p : ℕ → Bool) (n k : ℕ) → k ≤ n → ((j : ℕ) → j < k → p j ≡ false) → (k < n → p k ≡ true) → k ≡ least p n
least_is p n k l h e =
    by_test (ltb (least p n) k) (λ b. absurd (false≢true (sym (h (least p n) (ltb-true _ _ b)) ∙ least_passes p n (omega (arith, ltb-true (least p n) k b)))))
    (λ b. by_test (ltb k n) (λ m. omega (arith, ltb-false (least p n) k b, least_le p n k (e (ltb-true k n m)))) (λ m. omega (arith, ltb-false (least p n) k b, ltb-false k n m, least_most p n)))

module _ (rows : List ℤ) (start : ℕ) (numbers : List ℤ) where
  abbrev pub NotBelow : ℕ → Type 0
  NotBelow k = (j : ℕ) → j < k → row_is rows start numbers j ≡ false

  pub none_before : NotBelow start
  none_before j h = rw (lt-leb start j h) refl

  pub none_here : (k : ℕ) → NotBelow k → same_numbers (row_numbers rows k) numbers ≡ false → NotBelow (k + 1)
  none_here k h e = below_more (λ j. row_is rows start numbers j ≡ false) k h (rw e (and-false (leb start k)))
    where
      and-false : (t : Bool) → (t && false) ≡ false
      and-false true = refl
      and-false false = refl

  pub found_here : (many k : ℕ) → start ≤ k → k < many → NotBelow k → same_numbers (row_numbers rows k) numbers ≡ true → k ≡ row_found rows start many numbers
  unfolding row_found
  found_here many k s l h e = least_is (row_is rows start numbers) many k (omega arith) h (λ x. and_both _ _ (le-leb start k s) e)

  pub found_nowhere : (many k : ℕ) → many ≤ k → NotBelow k → many ≡ row_found rows start many numbers
  unfolding row_found
  found_nowhere many k l h = least_is (row_is rows start numbers) many many (omega arith) (λ j m. h j (omega arith)) (λ x. absurd (omega arith))

  -- what is not found below `many` is `many`
  pub found_all : (many : ℕ) → many ≤ row_found rows start many numbers → many ≡ row_found rows start many numbers
  unfolding row_found
  found_all many h = omega (arith, least_most (row_is rows start numbers) many)

  -- what is found has the numbers
  pub found-is : (many r : ℕ) → r ≡ row_found rows start many numbers → r < many → row_numbers rows r ≡ numbers
  unfolding row_found
  found-is many r e h = same_true _ _ (and_right (leb start r) _ (ap (row_is rows start numbers) e ∙ least_passes (row_is rows start numbers) many (omega arith)))

  pub found_none : (many r : ℕ) → r ≡ row_found rows start many numbers → many ≤ r → (i : ℕ) → start ≤ i → i < many → ¬ (row_numbers rows i ≡ numbers)
  unfolding row_found
  found_none many r e h i s l q =
      false≢true (sym (least_first (row_is rows start numbers) many i (omega arith)) ∙ and_both _ _ (le-leb start i s) (ap (λ (xs : List ℤ). same_numbers xs numbers) q ∙ same-itself numbers))

-- ---- the buffer after the search

module _ (rows : List ℤ) (many r : ℕ) (numbers : List ℤ) where
  pub with_found : r < many → rows ≡ with_row rows many r numbers
  unfolding with_row
  with_found h = rw (lt-ltb r many h) refl

  pub with_new : many ≤ r → appended rows many numbers ≡ with_row rows many r numbers
  unfolding with_row
  with_new h = rw (le-ltb r many h) refl

pub many-found : (many r : ℕ) → r < many → many_after many r ≡ many
unfolding many_after
many-found many r h = rw (lt-ltb r many h) refl

pub many_new : (many r : ℕ) → many ≤ r → many_after many r ≡ suc many
unfolding many_after
many_new many r h = rw (le-ltb r many h) refl
