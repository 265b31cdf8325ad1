-- Sums and lengths of lists that come in groups. Assumes nothing.
use mathlib.Core.Path.{◌≡◌, refl, ap}
use mathlib.Core.Bool.{Bool, true, false, ◌&&◌, false≢true}
use mathlib.Core.List.{List, [], ◌∷◌, map, Memᴰ}
use Prim.Native.Nat.{ℕ, zero, suc, ◌+◌, ◌*◌, ◌≤◌, ◌<◌}
use native.Mathlib.Omega.{arith}
use lib.Dec.{eqb}
use lib.ListN.{length, length-append}
use borrow.Author.Tests.{eqb-true, ne_eqb}
use Rattle.laws.specs.Lists.{cons_if, filter, concat_map, from, sum}

module _ {A B : Type 0} (f : A → List B) where
  pub concat_map-length : (xs : List A) → length (concat_map f xs) ≡ sum (map (λ x. length (f x)) xs)
  concat_map-length [] = refl
  concat_map-length (x ∷ xs) = omega (arith, length-append (f x) (concat_map f xs), concat_map-length xs)

module _ {A : Type 0} (f : A → ℕ) where
  pub sum-map-most : (m : ℕ) (xs : List A) → ((x : A) → Memᴰ x xs → f x ≤ m) → sum (map f xs) ≤ length xs * m
  sum-map-most m [] h = omega arith
  sum-map-most m (x ∷ xs) h = omega (arith, h x (Memᴰ.head refl), sum-map-most m xs (λ y k. h y (Memᴰ.tail k)))

  pub sum-map-times : (m : ℕ) (xs : List A) → sum (map (λ x. f x * m) xs) ≡ sum (map f xs) * m
  sum-map-times m [] = omega arith
  sum-map-times m (x ∷ xs) = omega (arith, sum-map-times m xs)

-- ---- elements counted by a key: each is counted for one key at most

module _ {A : Type 0} (p : A → Bool) (key : A → ℕ) where
  -- the elements with a key that pass the test
  abbrev pub count_where : List A → ℕ → ℕ
  count_where xs r = length (filter (λ x. p x && eqb (key x) r) xs)

  count_past : (x : A) (xs : List A) (n a : ℕ) → key x < a → sum (map (count_where (x ∷ xs)) (from n a)) ≡ sum (map (count_where xs) (from n a))
  count_past x xs zero a h = refl
  count_past x xs (suc n) a h = omega (arith, one (p x) (eqb (key x) a) (ne_eqb (key x) a (λ e. omega arith)), count_past x xs n (suc a) (omega arith))
    where
      one : (b c : Bool) → c ≡ false → length (cons_if (b && c) x (filter (λ x. p x && eqb (key x) a) xs)) ≡ count_where xs a
      one true true e = absurd (false≢true (cc))
      one true false e = refl
      one false c e = refl

  count-one : (x : A) (xs : List A) (n a : ℕ) → sum (map (count_where (x ∷ xs)) (from n a)) ≤ suc (sum (map (count_where xs) (from n a)))
  count-one x xs zero a = omega arith
  count-one x xs (suc n) a = go (p x) (eqb (key x) a) refl (count-one x xs n (suc a))
    where
      go : (b c : Bool) → eqb (key x) a ≡ c → sum (map (count_where (x ∷ xs)) (from n (suc a))) ≤ suc (sum (map (count_where xs) (from n (suc a))))
          → length (cons_if (b && c) x (filter (λ x. p x && eqb (key x) a) xs)) + sum (map (count_where (x ∷ xs)) (from n (suc a))) ≤ suc (count_where xs a + sum (map (count_where xs) (from n (suc a))))
      go true true e h = omega (arith, count_past x xs n (suc a) (omega (arith, eqb-true (key x) a e)))
      go true false e h = omega arith
      go false c e h = omega arith

  pub count-by_key : (n : ℕ) (xs : List A) → sum (map (count_where xs) (from n 0)) ≤ length xs
  count-by_key n [] = omega (arith, zeros (from n 0))
    where
      zeros : (rs : List ℕ) → sum (map (λ (r : ℕ). 0) rs) ≡ 0
      zeros [] = refl
      zeros (r ∷ rs) = omega (arith, zeros rs)
  count-by_key n (x ∷ xs) = omega (arith, count-one x xs n 0, count-by_key n xs)
