-- Lists in order of a number: the first element that passes a test is the one of the lowest number that does. Assumes nothing.
use mathlib.Core.Path.{◌≡◌, refl, ap, sym, ◌∙◌, subst}
use mathlib.Core.Logic.{◌⊎◌, inl, inr}
use mathlib.Core.Bool.{Bool, true, false}
use mathlib.Core.List.{List, [], ◌∷◌, ◌++◌, Memᴰ}
use mathlib.Core.Option.{none, some}
use Prim.Native.Nat.{ℕ, suc, ◌≤◌, ◌<◌}
use native.Mathlib.Omega.{arith}
use lib.Dec.{ltb}
use borrow.Author.Tests.{ltb-true, ltb-false}
use Rattle.laws.specs.Lists.{find}
use Rattle.laws.proofs.Bools.{by_test}
use Rattle.laws.proofs.Positions.{least, least_first, least_passes}
use Rattle.loops.specs.Lowest.{lowest}

module _ {A : Type 0} (key : A → ℕ) where
  -- from this number on, each number higher than the one before
  abbrev pub Rising : ℕ → List A → Type 0
  Rising from [] = Unit {0}
  Rising from (x ∷ xs) = (from ≤ key x) × Rising (suc (key x)) xs

  pub rising_later : (a b : ℕ) (xs : List A) → a ≤ b → Rising b xs → Rising a xs
  rising_later a b [] h r = tt
  rising_later a b (x ∷ xs) h (l, r) = (omega arith, r)

  pub rising-append : (a b : ℕ) (xs ys : List A) → a ≤ b → Rising a xs → ((x : A) → Memᴰ x xs → key x < b) → Rising b ys → Rising a (xs ++ ys)
  rising-append a b [] ys h r s q = rising_later a b ys h q
  rising-append a b (x ∷ xs) ys h (l, r) s q = (l, rising-append (suc (key x)) b xs ys (s x (Memᴰ.head refl)) r (λ y m. s y (Memᴰ.tail m)) q)

  rising_above : (a : ℕ) (xs : List A) → Rising a xs → (x : A) → Memᴰ x xs → a ≤ key x
  rising_above a [] _ x x5 = elim x5 [ ]
  rising_above a (y ∷ xs) (l, r) x (Memᴰ.head e) = subst (λ (z : A). a ≤ key z) (sym e) l
  rising_above a (y ∷ xs) (l, r) x (Memᴰ.tail m) = omega (arith, rising_above (suc (key y)) xs r x m, l)

  module _ (p : A → Bool) where
    skip : (y : A) (ys : List A) → p y ≡ false → find p (y ∷ ys) ≡ find p ys
    skip y ys q = rw q refl

    find_first : (a : ℕ) (xs : List A) → Rising a xs → (x : A) → Memᴰ x xs → p x ≡ true → ((y : A) → Memᴰ y xs → key y < key x → p y ≡ false) → find p xs ≡ some x
    find_first a [] _ x x7 q f = elim x7 [ ]
    find_first a (y ∷ xs) (l, r) x (Memᴰ.head e) q f = at_head y xs (subst (λ (z : A). p z ≡ true) e q) ∙ ap some (sym e)
      where
        at_head : (y : A) (ys : List A) → p y ≡ true → find p (y ∷ ys) ≡ some y
        at_head y ys q = rw q refl
    find_first a (y ∷ xs) (l, r) x (Memᴰ.tail m) q f =
        skip y xs (f y (Memᴰ.head refl) (rising_above (suc (key y)) xs r x m)) ∙ find_first (suc (key y)) xs r x m q (λ z n. f z (Memᴰ.tail n))

    find_nothing : (xs : List A) → ((x : A) → Memᴰ x xs → p x ≡ false) → find p xs ≡ none
    find_nothing [] h = refl
    find_nothing (x ∷ xs) h = skip x xs (h x (Memᴰ.head refl)) ∙ find_nothing xs (λ y m. h y (Memᴰ.tail m))

    module _ (q : ℕ → Bool) (n : ℕ) (xs : List A) (rising : Rising 0 xs) (slot : (x : A) → Memᴰ x xs → (key x < n) × (q (key x) ≡ p x))
        (found : (k : ℕ) → k < n → q k ≡ true → (x : A) × Memᴰ x xs × (key x ≡ k)) where
      -- the slot that is found is that of the element that is found, or nothing is found
      pub find-lowest : ((x : A) × Memᴰ x xs × (key x ≡ lowest q n) × (lowest q n < n) × (p x ≡ true) × (find p xs ≡ some x)) ⊎ ((n ≤ lowest q n) × (find p xs ≡ none))
      unfolding lowest
      find-lowest =
          by_test (ltb (least q n) n)
          (λ b. let h : least q n < n = ltb-true _ _ b in
          let (x, m, e) = found (least q n) h (least_passes q n h) in
          let passes : p x ≡ true = sym (slot x m).1 ∙ ap q e ∙ least_passes q n h in
          inl (x, m, e, h, passes, find_first 0 xs rising x m passes (λ y k l. sym (slot y k).1 ∙ least_first q n (key y) (omega (arith, l, e)))))
          (λ b. let h : n ≤ least q n = ltb-false _ _ b in inr (h, find_nothing xs (λ x m. sym (slot x m).1 ∙ least_first q n (key x) (omega (arith, (slot x m).0)))))
