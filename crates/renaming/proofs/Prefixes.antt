-- A column filled from the front with the elements of a list. Assumes nothing.
use mathlib.Core.Path.{◌≡◌, refl, ap, sym, ◌∙◌}
use mathlib.Core.List.{List, [], ◌∷◌, ◌++◌, append-nil, head-eq_of_cons-eq, nil≢cons, tail-eq_of_cons-eq}
use Prim.Native.Nat.{ℕ, zero, suc, ◌+◌, ◌<◌}
use native.Mathlib.Omega.{arith}
use native.Mathlib.Numerals.{add-one}
use lib.ListN.{drop, length, set, take, take-append-drop}
use lib.Seq.{set-get_or}
use Rattle.tables.specs.Layout.{pad}
use Rattle.tables.proofs.Columns.{pad-past, pad-set}

-- element i and what is behind it
split : (i v : ℕ) (xs ys : List ℕ) → drop i xs ≡ v ∷ ys → (take (suc i) xs ≡ take i xs ++ (v ∷ [])) × (drop (suc i) xs ≡ ys) × (length (take i xs) ≡ i)
split zero v [] ys e = absurd (nil≢cons e)
split (suc i) v [] ys e = absurd (nil≢cons e)
split zero v (x ∷ xs) ys e = (ap (λ (y : ℕ). y ∷ []) (head-eq_of_cons-eq e), tail-eq_of_cons-eq e, refl)
split (suc i) v (x ∷ xs) ys e = let (a, b, c) = split i v xs ys e in (ap (λ (l : List ℕ). x ∷ l) a, b, ap suc c)

module _ (n i v : ℕ) (xs ys : List ℕ) (e : drop i xs ≡ v ∷ ys) where
  pub drop-next : drop (i + 1) xs ≡ ys
  drop-next = rw add-one (split i v xs ys e).1

  pub fill_next : i < n → set (pad n (take i xs)) i v ≡ pad n (take (i + 1) xs)
  fill_next h =
      let (a, b, c) = split i v xs ys e in
      ap (λ (k : ℕ). set (pad n (take i xs)) k v) (sym c) ∙ pad-set 0 n (take i xs) v (omega arith) ∙ ap (pad n) (sym a ∙ ap (λ (k : ℕ). take k xs) (sym (add-one i)))

-- where the next element is 0 the column is right already
pub fill_zero : (n i : ℕ) (xs ys : List ℕ) → drop i xs ≡ 0 ∷ ys → i < n → pad n (take i xs) ≡ pad n (take (i + 1) xs)
fill_zero n i xs ys e h =
    let (a, b, c) = split i 0 xs ys e in
    sym (set-get_or (pad n (take i xs)) i 0) ∙ ap (set (pad n (take i xs)) i) (pad-past 0 n i (take i xs) (omega arith)) ∙ fill_next n i 0 xs ys e h

pub filled : (n i : ℕ) (xs : List ℕ) → drop i xs ≡ [] → pad n (take i xs) ≡ pad n xs
filled n i xs e = ap (pad n) (sym (append-nil (take i xs)) ∙ ap (λ (l : List ℕ). take i xs ++ l) (sym e) ∙ take-append-drop i xs)
