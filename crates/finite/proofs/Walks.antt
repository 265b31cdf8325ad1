-- Walks over a range of numbers, a turn at a time, as a loop makes them: a test of all, a test of any, and a column that is
-- filled from the front. Assumes nothing.
use mathlib.Core.Path.{◌≡◌, refl, ap, sym, ◌∙◌}
use mathlib.Core.Bool.{Bool, true, false, ◌&&◌, ◌||◌}
use mathlib.Core.List.{List, [], ◌∷◌, ◌++◌, map, Memᴰ}
use Prim.Native.Nat.{ℕ, zero, suc, ◌+◌, ◌-◌, ◌≤◌, ◌<◌}
use native.Mathlib.Nat.{zero-add}
use native.Mathlib.Numerals.{add-one}
use native.Mathlib.Omega.{arith}
use lib.ListN.{length, get_or, set, replicate}
use Rattle.laws.specs.Lists.{all, any, from}
use Rattle.laws.proofs.Lists.{map-from-length, map-from_snoc}
use Rattle.finite.specs.TypeColumns.{column}
use Rattle.tables.specs.Layout.{pad}
use Rattle.tables.proofs.Columns.{pad-nil, pad-set}

-- what is left of a range
pub from_next : (i n : ℕ) → i < n → from (n - i) i ≡ i ∷ from (n - (i + 1)) (i + 1)
from_next i n h =
    let s : n - i ≡ suc (n - (i + 1)) = omega arith in
    rw (s, add-one) refl

pub from_end : (i n : ℕ) → n ≤ i → from (n - i) i ≡ []
from_end i n h = let s : n - i ≡ 0 = omega arith in rw s refl

pub from_start : (n : ℕ) → from (n - 0) 0 ≡ from n 0
from_start n = let s : n - 0 ≡ n = omega arith in ap (λ (k : ℕ). from k 0) s

-- a turn of a test, and its end
module _ (p : ℕ → Bool) (i n : ℕ) where
  pub all_turn : i < n → all p (from (n - i) i) ≡ (p i && all p (from (n - (i + 1)) (i + 1)))
  all_turn h = ap (all p) (from_next i n h)

  pub all_none : n ≤ i → all p (from (n - i) i) ≡ true
  all_none h = ap (all p) (from_end i n h)

  pub any_turn : i < n → any p (from (n - i) i) ≡ (p i || any p (from (n - (i + 1)) (i + 1)))
  any_turn h = ap (any p) (from_next i n h)

  pub any_none : n ≤ i → any p (from (n - i) i) ≡ false
  any_none h = ap (any p) (from_end i n h)

-- ---- tests of mapped lists

module _ {A B : Type 0} (q : B → Bool) (f : A → B) where
  pub all_mapped : (xs : List A) → all q (map f xs) ≡ all (λ x. q (f x)) xs
  all_mapped [] = refl
  all_mapped (x ∷ xs) = ap (λ (b : Bool). q (f x) && b) (all_mapped xs)

  pub any_mapped : (xs : List A) → any q (map f xs) ≡ any (λ x. q (f x)) xs
  any_mapped [] = refl
  any_mapped (x ∷ xs) = ap (λ (b : Bool). q (f x) || b) (any_mapped xs)

-- a test of all elements, by position
pub all_positions : {A : Type 0} (q : A → Bool) (xs : List A) (d : A) → all q xs ≡ all (λ i. q (get_or xs i d)) (from (length xs) 0)
all_positions q [] d = refl
all_positions q (x ∷ xs) d = ap (λ (b : Bool). q x && b) (all_positions q xs d ∙ sym (shift (λ i. q (get_or (x ∷ xs) i d)) (length xs) 0))
  where
    shift : (p : ℕ → Bool) (n a : ℕ) → all p (from n (suc a)) ≡ all (λ k. p (suc k)) (from n a)
    shift p zero a = refl
    shift p (suc n) a = ap (λ (b : Bool). p (suc a) && b) (shift p n (suc a))

-- ---- columns, filled from the front

pub column-none : (f : ℕ → ℕ) → column f 0 ≡ replicate 6 0
unfolding column
column-none f = pad-nil 0 6

pub column-next : (f : ℕ → ℕ) (i : ℕ) → i < 6 → set (column f i) i (f i) ≡ column f (i + 1)
unfolding column
column-next f i h =
    let l : length (map f (from i 0)) ≡ i = map-from-length f i 0 in
    ap (λ (k : ℕ). set (pad 6 (map f (from i 0))) k (f i)) (sym l) ∙ pad-set 0 6 (map f (from i 0)) (f i) (omega arith)
    ∙ ap (pad 6) (ap (λ (k : ℕ). map f (from i 0) ++ (f k ∷ [])) (sym (zero-add i)) ∙ sym (map-from_snoc f i 0) ∙ ap (λ (k : ℕ). map f (from k 0)) (sym (add-one i)))

-- a turn: the next number of a column is stored
pub column-store : (f : ℕ → ℕ) (i : ℕ) (next : List ℕ) (x : ℕ) → i < 6 → next ≡ column f i → x ≡ f i → set next i x ≡ column f (i + 1)
column-store f i next x h e q = ap (λ (l : List ℕ). set l i x) e ∙ ap (set (column f i) i) q ∙ column-next f i h

pub all_same : {A : Type 0} (p q : A → Bool) (xs : List A) → ((x : A) → Memᴰ x xs → p x ≡ q x) → all p xs ≡ all q xs
all_same p q [] h = refl
all_same p q (x ∷ xs) h = ap (λ (b : Bool). b && all p xs) (h x (Memᴰ.head refl)) ∙ ap (λ (b : Bool). q x && b) (all_same p q xs (λ y m. h y (Memᴰ.tail m)))
