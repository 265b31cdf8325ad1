-- Products of lists of numbers, and a filter split in two. Assumes nothing.
use mathlib.Core.Path.{◌≡◌, refl, ap, sym, ◌∙◌, subst}
use mathlib.Core.Bool.{Bool, true, false, not, ◌&&◌}
use mathlib.Core.List.{List, [], ◌∷◌, map, Memᴰ}
use Prim.Native.Nat.{ℕ, zero, suc, ◌+◌, ◌*◌, ◌≤◌, ◌<◌}
use native.Mathlib.Omega.{arith}
use native.Mathlib.Nat.{mul-le-mul, mul-pos, add-mul, mul-add, le_refl}
use lib.ListN.{length}
use Rattle.laws.specs.Lists.{cons_if, filter, product}

module _ {A : Type 0} where
  pub product_pos : (f : A → ℕ) (xs : List A) → ((x : A) → Memᴰ x xs → 1 ≤ f x) → 1 ≤ product (map f xs)
  product_pos f [] h = omega arith
  product_pos f (x ∷ xs) h = mul-pos (h x (Memᴰ.head refl)) (product_pos f xs (λ y m. h y (Memᴰ.tail m)))

  pub product_le : (f g : A → ℕ) (xs : List A) → ((x : A) → Memᴰ x xs → f x ≤ g x) → product (map f xs) ≤ product (map g xs)
  product_le f g [] h = omega arith
  product_le f g (x ∷ xs) h = mul-le-mul (h x (Memᴰ.head refl)) (product_le f g xs (λ y m. h y (Memᴰ.tail m)))

  -- Two products are together at most a third, if each factor is at most the third's, and at one place both together are.
  module _ (a b c : A → ℕ) where
    pub product-split : (xs : List A) → ((x : A) → Memᴰ x xs → (a x ≤ c x) × (b x ≤ c x)) → (y : A) → Memᴰ y xs → a y + b y ≤ c y
        → product (map a xs) + product (map b xs) ≤ product (map c xs)
    product-split [] h y x3 l = elim x3 [ ]
    product-split (x ∷ xs) h y (Memᴰ.head e) l =
        let l' : a x + b x ≤ c x = subst (λ z. a z + b z ≤ c z) e l in
        let pa : product (map a xs) ≤ product (map c xs) = product_le a c xs (λ z m. (h z (Memᴰ.tail m)).0) in
        let pb : product (map b xs) ≤ product (map c xs) = product_le b c xs (λ z m. (h z (Memᴰ.tail m)).1) in
        let ea : a x * product (map a xs) ≤ a x * product (map c xs) = mul-le-mul (le_refl (a x)) pa in
        let eb : b x * product (map b xs) ≤ b x * product (map c xs) = mul-le-mul (le_refl (b x)) pb in
        let s : (a x + b x) * product (map c xs) ≤ c x * product (map c xs) = mul-le-mul l' (le_refl (product (map c xs))) in
        omega (arith, add-mul (a x) (b x) (product (map c xs)), ea, eb, s)
    product-split (x ∷ xs) h y (Memᴰ.tail m) l =
        let ih : product (map a xs) + product (map b xs) ≤ product (map c xs) = product-split xs (λ z n. h z (Memᴰ.tail n)) y m l in
        let ea : a x * product (map a xs) ≤ c x * product (map a xs) = mul-le-mul (h x (Memᴰ.head refl)).0 (le_refl (product (map a xs))) in
        let eb : b x * product (map b xs) ≤ c x * product (map b xs) = mul-le-mul (h x (Memᴰ.head refl)).1 (le_refl (product (map b xs))) in
        let s : c x * (product (map a xs) + product (map b xs)) ≤ c x * product (map c xs) = mul-le-mul (le_refl (c x)) ih in
        omega (arith, mul-add (c x) (product (map a xs)) (product (map b xs)), ea, eb, s)

  -- ---- counting by tests

  -- two tests that exclude each other, and imply a third
  pub filter-split : (p q r : A → Bool) (xs : List A) → ((x : A) → q x ≡ true → p x ≡ true) → ((x : A) → r x ≡ true → p x ≡ true) → ((x : A) → q x ≡ true → r x ≡ true → ⊥)
      → length (filter q xs) + length (filter r xs) ≤ length (filter p xs)
  filter-split p q r [] hq hr apart = omega arith
  filter-split p q r (x ∷ xs) hq hr apart = go (p x) (q x) (r x) refl refl refl (filter-split p q r xs hq hr apart)
    where
      go : (c d e : Bool) → p x ≡ c → q x ≡ d → r x ≡ e → length (filter q xs) + length (filter r xs) ≤ length (filter p xs)
          → length (cons_if d x (filter q xs)) + length (cons_if e x (filter r xs)) ≤ length (cons_if c x (filter p xs))
      go c true true u v w ih = absurd (apart x v w)
      go true true false u v w ih = omega arith
      go true false true u v w ih = omega arith
      go true false false u v w ih = omega arith
      go false true false u v w ih = let z : true ≡ false = sym (hq x v) ∙ u in let y : ◌≡◌ {A = ℕ} 0 1 = cc in absurd (omega arith)
      go false false true u v w ih = let z : true ≡ false = sym (hr x w) ∙ u in let y : ◌≡◌ {A = ℕ} 0 1 = cc in absurd (omega arith)
      go false false false u v w ih = ih
