-- Membership by a test, unions, and how many elements of a list pass a test. Assumes nothing.
use mathlib.Core.Path.{◌≡◌, refl, ap, sym, ◌∙◌, subst}
use mathlib.Core.Bool.{Bool, true, false, not, false≢true}
use mathlib.Core.List.{List, [], ◌∷◌, Memᴰ}
use mathlib.Core.Logic.{◌⊎◌, inl, inr}
use mathlib.Core.Option.{Option, none, some}
use Prim.Native.Nat.{ℕ, suc, ◌≤◌, ◌<◌}
use native.Mathlib.Omega.{arith}
use lib.Dec.{eqb}
use lib.ListN.{length}
use borrow.Author.Tests.{eqb-true, eq-eqb, not-true}
use Rattle.laws.specs.Lists.{all, cons_if, filter, find, from, member, union}
use Rattle.laws.proofs.Bools.{and_both}
use Rattle.laws.proofs.Lists.{any_of, any_some, find_none, find-some, mem_from}

module _ {A : Type 0} (p : A → Bool) where
  -- an element that passes the test, or none does
  pub find_cases : (xs : List A) → ((x : A) × Memᴰ x xs × (p x ≡ true)) ⊎ ((x : A) → Memᴰ x xs → p x ≡ false)
  find_cases xs = go (find p xs) refl
    where
      go : (o : Option A) → find p xs ≡ o → ((x : A) × Memᴰ x xs × (p x ≡ true)) ⊎ ((x : A) → Memᴰ x xs → p x ≡ false)
      go (some x) e = let (m, h) = find-some p xs x e in inl (x, m, h)
      go none e = inr (find_none p xs e)

  pub filter-most : (xs : List A) → length (filter p xs) ≤ length xs
  filter-most [] = omega arith
  filter-most (x ∷ xs) = go (p x) (filter-most xs)
    where
      go : (b : Bool) → length (filter p xs) ≤ length xs → length (cons_if b x (filter p xs)) ≤ suc (length xs)
      go true h = omega arith
      go false h = omega arith

-- a test that passes wherever another one does passes as often, and more often if somewhere else too
module _ {A : Type 0} (p q : A → Bool) where
  pub filter_le : (xs : List A) → ((x : A) → Memᴰ x xs → p x ≡ true → q x ≡ true) → length (filter p xs) ≤ length (filter q xs)
  filter_le [] h = omega arith
  filter_le (x ∷ xs) h = go (p x) (q x) (h x (Memᴰ.head refl)) (filter_le xs (λ y m. h y (Memᴰ.tail m)))
    where
      go : (a b : Bool) → (a ≡ true → b ≡ true) → length (filter p xs) ≤ length (filter q xs) → length (cons_if a x (filter p xs)) ≤ length (cons_if b x (filter q xs))
      go true true f l = omega arith
      go true false f l = absurd (false≢true (f refl))
      go false true f l = omega arith
      go false false f l = l

  pub filter_lt : (xs : List A) → ((x : A) → Memᴰ x xs → p x ≡ true → q x ≡ true) → (y : A) → Memᴰ y xs → p y ≡ false → q y ≡ true
      → length (filter p xs) < length (filter q xs)
  filter_lt [] h y x4 a b = elim x4 [ ]
  filter_lt (x ∷ xs) h y (Memᴰ.head e) a b = go (p x) (q x) (ap p (sym e) ∙ a) (ap q (sym e) ∙ b) (filter_le xs (λ z m. h z (Memᴰ.tail m)))
    where
      go : (a b : Bool) → a ≡ false → b ≡ true → length (filter p xs) ≤ length (filter q xs) → length (cons_if a x (filter p xs)) < length (cons_if b x (filter q xs))
      go true b f k l = absurd (false≢true (sym f))
      go false true f k l = omega arith
      go false false f k l = absurd (false≢true k)
  filter_lt (x ∷ xs) h y (Memᴰ.tail m) a b = go (p x) (q x) (h x (Memᴰ.head refl)) (filter_lt xs (λ z n. h z (Memᴰ.tail n)) y m a b)
    where
      go : (a b : Bool) → (a ≡ true → b ≡ true) → length (filter p xs) < length (filter q xs) → length (cons_if a x (filter p xs)) < length (cons_if b x (filter q xs))
      go true true f l = omega arith
      go true false f l = absurd (false≢true (f refl))
      go false true f l = omega arith
      go false false f l = l

-- a test that fails somewhere leaves something out
pub filter_drops : {A : Type 0} (p : A → Bool) (xs : List A) (y : A) → Memᴰ y xs → p y ≡ false → length (filter p xs) < length xs
filter_drops p xs y m e = omega (arith, filter_lt p (λ x. true) xs (λ x k q. refl) y m e refl, filter-most (λ x. true) xs)

-- ---- membership by a test

pub member_of : (x : ℕ) (xs : List ℕ) → Memᴰ x xs → member x xs ≡ true
member_of x xs m = any_of (eqb x) xs x m (eq-eqb x x refl)

pub of_member : (x : ℕ) (xs : List ℕ) → member x xs ≡ true → Memᴰ x xs
of_member x xs e = let (y, m, q) = any_some (eqb x) xs e in subst (λ (z : ℕ). Memᴰ z xs) (sym (eqb-true x y q)) m

-- ---- unions

cons_if_keeps : (b : Bool) (d x : ℕ) (ys : List ℕ) → Memᴰ x ys → Memᴰ x (cons_if b d ys)
cons_if_keeps true d x ys m = Memᴰ.tail m
cons_if_keeps false d x ys m = m

pub union_right : (xs ys : List ℕ) (x : ℕ) → Memᴰ x ys → Memᴰ x (union xs ys)
union_right [] ys x m = m
union_right (d ∷ xs) ys x m = union_right xs (cons_if (not (member d ys)) d ys) x (cons_if_keeps (not (member d ys)) d x ys m)

pub union_left : (xs ys : List ℕ) (x : ℕ) → Memᴰ x xs → Memᴰ x (union xs ys)
union_left [] ys x x3 = elim x3 [ ]
union_left (d ∷ xs) ys x (Memᴰ.head e) = union_right xs (cons_if (not (member d ys)) d ys) x (go (member d ys) refl)
  where
    go : (b : Bool) → member d ys ≡ b → Memᴰ x (cons_if (not b) d ys)
    go true q = subst (λ (z : ℕ). Memᴰ z ys) (sym e) (of_member d ys q)
    go false q = Memᴰ.head e
union_left (d ∷ xs) ys x (Memᴰ.tail m) = union_left xs (cons_if (not (member d ys)) d ys) x m

-- what a union has comes from one of the two
pub union_inv : (P : ℕ → Type 0) (xs ys : List ℕ) → ((x : ℕ) → Memᴰ x xs → P x) → ((x : ℕ) → Memᴰ x ys → P x) → (x : ℕ) → Memᴰ x (union xs ys) → P x
union_inv P [] ys f h x m = h x m
union_inv P (d ∷ xs) ys f h x m = union_inv P xs (cons_if (not (member d ys)) d ys) (λ y n. f y (Memᴰ.tail n)) (go (not (member d ys))) x m
  where
    go : (b : Bool) (y : ℕ) → Memᴰ y (cons_if b d ys) → P y
    go true y (Memᴰ.head e) = f y (Memᴰ.head e)
    go true y (Memᴰ.tail n) = h y n
    go false y n = h y n

union-length : (xs ys : List ℕ) → length ys ≤ length (union xs ys)
union-length [] ys = omega arith
union-length (d ∷ xs) ys = go (not (member d ys)) (union-length xs (cons_if (not (member d ys)) d ys))
  where
    go : (b : Bool) → length (cons_if b d ys) ≤ length (union xs (cons_if b d ys)) → length ys ≤ length (union xs (cons_if b d ys))
    go true h = omega arith
    go false h = h

-- a union that is no longer than the second list has nothing new
pub union-same : (xs ys : List ℕ) → length (union xs ys) ≡ length ys → (x : ℕ) → Memᴰ x xs → Memᴰ x ys
union-same [] ys e x m = elim m [ ]
union-same (d ∷ xs) ys e x m = go (union-same xs ys) (member d ys) refl e m
  where
    go : (length (union xs ys) ≡ length ys → (x : ℕ) → Memᴰ x xs → Memᴰ x ys) → (b : Bool) → member d ys ≡ b → length (union xs (cons_if (not b) d ys)) ≡ length ys
        → Memᴰ x (d ∷ xs) → Memᴰ x ys
    go ih true q r (Memᴰ.head k) = subst (λ (z : ℕ). Memᴰ z ys) (sym k) (of_member d ys q)
    go ih true q r (Memᴰ.tail n) = ih r x n
    go ih false q r n = absurd (omega (arith, union-length xs (d ∷ ys)))

-- a union that is longer has something new
pub union_new : (xs ys : List ℕ) → ¬ (length (union xs ys) ≡ length ys) → (x : ℕ) × Memᴰ x xs × (member x ys ≡ false)
union_new [] ys n = absurd (n refl)
union_new (d ∷ xs) ys n = go (union_new xs ys) (member d ys) refl n
  where
    go : (¬ (length (union xs ys) ≡ length ys) → (x : ℕ) × Memᴰ x xs × (member x ys ≡ false)) → (b : Bool) → member d ys ≡ b → ¬ (length (union xs (cons_if (not b) d ys)) ≡ length ys)
        → (x : ℕ) × Memᴰ x (d ∷ xs) × (member x ys ≡ false)
    go ih true q r = let (x, m, e) = ih r in (x, Memᴰ.tail m, e)
    go ih false q r = (d, Memᴰ.head refl, q)

-- ---- the numbers below n that a list does not hold

abbrev pub missing : ℕ → List ℕ → ℕ
missing n xs = length (filter (λ k. not (member k xs)) (from n 0))

pub missing_none : (n : ℕ) (xs : List ℕ) → missing n xs ≡ 0 → (x : ℕ) → x < n → Memᴰ x xs
missing_none n xs e x h = go (member x xs) refl
  where
    some_missing : member x xs ≡ false → 0 < missing n xs
    some_missing q = omega (arith, filter_lt (λ (k : ℕ). false) (λ k. not (member k xs)) (from n 0) (λ k m f. absurd (false≢true f)) x (mem_from n 0 x (omega arith) (omega arith)) refl (ap not q))

    go : (b : Bool) → member x xs ≡ b → Memᴰ x xs
    go true q = of_member x xs q
    go false q = absurd (omega (arith, some_missing q))

pub missing_falls : (n : ℕ) (xs ys : List ℕ) → ((x : ℕ) → Memᴰ x xs → Memᴰ x ys) → (y : ℕ) → y < n → Memᴰ y ys → member y xs ≡ false → missing n ys < missing n xs
missing_falls n xs ys f y h m e =
    filter_lt (λ k. not (member k ys)) (λ k. not (member k xs)) (from n 0) (λ k j q. not_of (member k xs) (λ r. false≢true (sym (not-true _ q) ∙ member_of k ys (f k (of_member k xs r)))))
    y (mem_from n 0 y (omega arith) (omega arith)) (ap not (member_of y ys m)) (ap not e)
  where
    not_of : (b : Bool) → (b ≡ true → ⊥) → not b ≡ true
    not_of true g = absurd (g refl)
    not_of false g = refl
