-- A list mapped in place from its front on, as a loop over an array does it. Assumes nothing.
use mathlib.Core.Path.{◌≡◌, refl, ap, ◌∙◌}
use mathlib.Core.List.{List, [], ◌∷◌, map}
use Prim.Native.Nat.{ℕ, zero, suc, ◌≤◌, ◌<◌}
use native.Mathlib.Omega.{arith}
use lib.ListN.{length, get_or, set}

module _ {A : Type 0} (f : A → A) where
  -- the first n elements are mapped
  abbrev pub map_front : ℕ → List A → List A
  map_front zero xs = xs
  map_front (suc n) [] = []
  map_front (suc n) (x ∷ xs) = f x ∷ map_front n xs

  pub front_length : (n : ℕ) (xs : List A) → length (map_front n xs) ≡ length xs
  front_length zero xs = refl
  front_length (suc n) [] = refl
  front_length (suc n) (x ∷ xs) = ap suc (front_length n xs)

  -- the next element is still the old one
  pub front_at : (n : ℕ) (xs : List A) (d : A) → get_or (map_front n xs) n d ≡ get_or xs n d
  front_at zero xs d = refl
  front_at (suc n) [] d = refl
  front_at (suc n) (x ∷ xs) d = front_at n xs d

  pub front-next : (n : ℕ) (xs : List A) (d v : A) → n < length xs → v ≡ f (get_or xs n d) → set (map_front n xs) n v ≡ map_front (suc n) xs
  front-next n [] d v h e = absurd (omega arith)
  front-next zero (x ∷ xs) d v h e = ap (λ (y : A). y ∷ xs) e
  front-next (suc n) (x ∷ xs) d v h e = ap (λ (ys : List A). f x ∷ ys) (front-next n xs d v (omega arith) e)

  pub front-all : (n : ℕ) (xs : List A) → length xs ≤ n → map_front n xs ≡ map f xs
  front-all zero [] h = refl
  front-all zero (x ∷ xs) h = absurd (omega arith)
  front-all (suc n) [] h = refl
  front-all (suc n) (x ∷ xs) h = ap (λ (ys : List A). f x ∷ ys) (front-all n xs (omega arith))
