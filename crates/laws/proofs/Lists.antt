-- Lists: `All`, membership, tests, ranges. Assumes nothing.
use mathlib.Core.Path.{◌≡◌, refl, ap, ap₂, sym, ◌∙◌, subst}
use mathlib.Core.Bool.{Bool, true, false, not, ◌&&◌, ◌||◌, cond, false≢true}
use mathlib.Core.List.Memᴰ
use mathlib.Core.List.{map-id, List, [], ◌∷◌, ◌++◌, map, nil≢cons, head-eq_of_cons-eq, Memᴰ}
use mathlib.Core.Logic.{◌⊎◌, inl, inr}
use mathlib.Core.Option.{Option, none, some}
use Prim.Native.Nat.{ℕ, zero, suc, ◌+◌, ◌≤◌, ◌<◌}
use native.Mathlib.Omega.{arith}
use lib.Dec.{eqb}
use lib.ListN.{length, get_or}
use borrow.Author.Tests.{eqb-true, eqb-false}
use Rattle.laws.specs.Lists.{all, any, when, cons_if, filter, find, concat_map, from, member, union, sum}
use Rattle.laws.specs.All.{All, All.none, All.more}

pub none-some : {A : Type 0} (a : A) → Path (Option A) none (some a) → ⊥
none-some a e = let z : ◌≡◌ {A = ℕ} 0 1 = cc in omega arith

-- ---- a property of every element

module _ {A : Type 0} {P : A → Type 0} where
  pub all_of : (xs : List A) → ((x : A) → Memᴰ x xs → P x) → All P xs
  all_of [] f = none
  all_of (x ∷ xs) f = more (f x (Memᴰ.head refl)) (all_of xs (λ y m. f y (Memᴰ.tail m)))

  pub all_mem : {xs : List A} → All P xs → (x : A) → Memᴰ x xs → P x
  all_mem Rattle.laws.specs.All.none x x6 = elim x6 [ ]
  all_mem (more p ps) x (Memᴰ.head e) = subst P (sym e) p
  all_mem (more p ps) x (Memᴰ.tail m) = all_mem ps x m

  pub all_get_d : {xs : List A} → All P xs → (i : ℕ) (d : A) → i < length xs → P (get_or xs i d)
  all_get_d none i d h = absurd (omega arith)
  all_get_d (more p ps) zero d h = p
  all_get_d (more p ps) (suc i) d h = all_get_d ps i d (omega arith)

  pub all_append : {xs ys : List A} → All P xs → All P ys → All P (xs ++ ys)
  all_append none q = q
  all_append (more p ps) q = more p (all_append ps q)

  pub all_left : (xs ys : List A) → All P (xs ++ ys) → All P xs
  all_left [] ys q = none
  all_left (x ∷ xs) ys (more p ps) = more p (all_left xs ys ps)

  pub all_right : (xs ys : List A) → All P (xs ++ ys) → All P ys
  all_right [] ys q = q
  all_right (x ∷ xs) ys (more p ps) = all_right xs ys ps

  pub all-when : (b : Bool) (xs : List A) → (b ≡ true → All P xs) → All P (when b xs)
  all-when true xs f = f refl
  all-when false xs f = none

  pub when_inv : (b : Bool) (xs : List A) → All P (when b xs) → b ≡ true → All P xs
  when_inv true xs h e = h
  when_inv false xs h e = absurd (false≢true e)

  all-cons_if : (b : Bool) (x : A) (xs : List A) → P x → All P xs → All P (cons_if b x xs)
  all-cons_if true x xs p ps = more p ps
  all-cons_if false x xs p ps = ps

  pub all_filter : (test : A → Bool) {xs : List A} → All P xs → All P (filter test xs)
  all_filter test none = none
  all_filter test (more {x = x} {xs = xs} p ps) = all-cons_if (test x) x (filter test xs) p (all_filter test ps)

  module _ {B : Type 0} where
    pub all-concat_map : (f : B → List A) (ys : List B) → ((y : B) → Memᴰ y ys → All P (f y)) → All P (concat_map f ys)
    all-concat_map f [] h = none
    all-concat_map f (y ∷ ys) h = all_append (h y (Memᴰ.head refl)) (all-concat_map f ys (λ z m. h z (Memᴰ.tail m)))

    pub concat_map_inv : (f : B → List A) (ys : List B) → All P (concat_map f ys) → (y : B) → Memᴰ y ys → All P (f y)
    concat_map_inv f [] h y x'' = elim x'' [ ]
    concat_map_inv f (z ∷ ys) h y (Memᴰ.head e) = subst (λ w. All P (f w)) (sym e) (all_left (f z) (concat_map f ys) h)
    concat_map_inv f (z ∷ ys) h y (Memᴰ.tail m) = concat_map_inv f ys (all_right (f z) (concat_map f ys) h) y m

    pub all_map : (f : B → A) (ys : List B) → ((y : B) → Memᴰ y ys → P (f y)) → All P (map f ys)
    all_map f [] h = none
    all_map f (y ∷ ys) h = more (h y (Memᴰ.head refl)) (all_map f ys (λ z m. h z (Memᴰ.tail m)))

pub all-map_inv : {A B : Type 0} {P : A → Type 0} (f : B → A) (ys : List B) → All P (map f ys) → (y : B) → Memᴰ y ys → P (f y)
all-map_inv {A = A} {B = B} {P = P} f [] _ y x3 = elim x3 [ ]
all-map_inv {P = P} f (z ∷ ys) (more p ps) y (Memᴰ.head e) = subst (λ w. P (f w)) (sym e) p
all-map_inv f (z ∷ ys) (more p ps) y (Memᴰ.tail m) = all-map_inv f ys ps y m

-- what holds of the elements of both lists holds of those of their union
pub all-union : {P : ℕ → Type 0} (xs ys : List ℕ) → All P xs → All P ys → All P (union xs ys)
all-union [] ys none q = q
all-union (x ∷ xs) ys (more p ps) q = all-union xs (cons_if (not (member x ys)) x ys) ps (all-cons_if (not (member x ys)) x ys p q)

pub all_weaken : {A : Type 0} {P Q : A → Type 0} {xs : List A} → ((x : A) → P x → Q x) → All P xs → All Q xs
all_weaken f none = none
all_weaken f (more {x = x} p ps) = more (f x p) (all_weaken f ps)

-- ---- membership

module _ {A B : Type 0} (f : A → B) where
  pub mem_map : {x : A} {xs : List A} → Memᴰ x xs → Memᴰ (f x) (map f xs)
  mem_map (Memᴰ.head e) = Memᴰ.head (ap f e)
  mem_map (Memᴰ.tail m) = Memᴰ.tail (mem_map m)

  pub map_inv : (P : B → Type 0) (xs : List A) → ((x : A) → Memᴰ x xs → P (f x)) → (y : B) → Memᴰ y (map f xs) → P y
  map_inv P xs h y m = all_mem {P = P} (all_map f xs h) y m

module _ {A B : Type 0} (f : B → List A) where
  pub mem_concat_map : (ys : List B) {y : B} {x : A} → Memᴰ y ys → Memᴰ x (f y) → Memᴰ x (concat_map f ys)
  mem_concat_map [] {y = y} {x = x} x4 n = elim x4 [ ]
  mem_concat_map (z ∷ ys) {y} {x} (Memᴰ.head e) n = Memᴰ.append_left (concat_map f ys) (subst (λ w. Memᴰ x (f w)) e n)
  mem_concat_map (z ∷ ys) (Memᴰ.tail m) n = Memᴰ.append_right (f z) (mem_concat_map ys m n)

  pub mem_concat_map_inv : (P : A → Type 0) (ys : List B) → ((y : B) → Memᴰ y ys → (x : A) → Memᴰ x (f y) → P x) → (x : A) → Memᴰ x (concat_map f ys) → P x
  mem_concat_map_inv P ys h x m = all_mem {P = P} (all-concat_map f ys (λ y k. all_of (f y) (h y k))) x m

module _ {A : Type 0} (p : A → Bool) where
  -- what a filter holds: members where the test passes
  pub filter-is : (xs : List A) (x : A) → Memᴰ x (filter p xs) → Memᴰ x xs × (p x ≡ true)
  filter-is [] x m = elim m [ ]
  filter-is (y ∷ ys) x m = go (filter-is ys x) (p y) refl m
    where
      go : (Memᴰ x (filter p ys) → Memᴰ x ys × (p x ≡ true)) → (b : Bool) → p y ≡ b → Memᴰ x (cons_if b y (filter p ys)) → Memᴰ x (y ∷ ys) × (p x ≡ true)
      go ih true q (Memᴰ.head d) = (Memᴰ.head d, ap p d ∙ q)
      go ih true q (Memᴰ.tail n) = (Memᴰ.tail (ih n).0, (ih n).1)
      go ih false q n = (Memᴰ.tail (ih n).0, (ih n).1)

  pub filter_mem : (xs : List A) (x : A) → Memᴰ x xs → p x ≡ true → Memᴰ x (filter p xs)
  filter_mem [] x m e = elim m [ ]
  filter_mem (y ∷ ys) x m e = go (filter_mem ys x) (p y) refl m
    where
      go : (Memᴰ x ys → p x ≡ true → Memᴰ x (filter p ys)) → (b : Bool) → p y ≡ b → Memᴰ x (y ∷ ys) → Memᴰ x (cons_if b y (filter p ys))
      go ih true q (Memᴰ.head d) = Memᴰ.head d
      go ih true q (Memᴰ.tail n) = Memᴰ.tail (ih n e)
      go ih false q (Memᴰ.head d) = absurd (false≢true (sym q ∙ ap p (sym d) ∙ e))
      go ih false q (Memᴰ.tail n) = ih n e

  -- the first element of a filter passes the test
  pub filter-head : (xs : List A) (y : A) (ys : List A) → filter p xs ≡ y ∷ ys → p y ≡ true
  filter-head [] y ys e = absurd (nil≢cons e)
  filter-head (x ∷ xs) y ys e = go (filter-head xs y ys) (p x) refl e
    where
      go : (filter p xs ≡ y ∷ ys → p y ≡ true) → (b : Bool) → p x ≡ b → cons_if b x (filter p xs) ≡ y ∷ ys → p y ≡ true
      go ih true q r = ap p (sym (head-eq_of_cons-eq r)) ∙ q
      go ih false q r = ih r

  -- an empty filter: the test fails at each element
  pub filter_none : (xs : List A) → filter p xs ≡ [] → (x : A) → Memᴰ x xs → p x ≡ false
  filter_none [] e x m = elim m [ ]
  filter_none (y ∷ ys) e x m = go (filter_none ys) (p y) refl e m
    where
      go : (filter p ys ≡ [] → (x : A) → Memᴰ x ys → p x ≡ false) → (b : Bool) → p y ≡ b → cons_if b y (filter p ys) ≡ [] → Memᴰ x (y ∷ ys) → p x ≡ false
      go ih true q r n = absurd (nil≢cons (sym r))
      go ih false q r (Memᴰ.head d) = ap p d ∙ q
      go ih false q r (Memᴰ.tail n) = ih r x n

  -- a test passes at every element, and the other way round
  pub all_true : (xs : List A) → ((x : A) → Memᴰ x xs → p x ≡ true) → all p xs ≡ true
  all_true [] h = refl
  all_true (x ∷ xs) h = rw (h x (Memᴰ.head refl)) (all_true xs (λ y m. h y (Memᴰ.tail m)))

  pub all_true_inv : (xs : List A) → all p xs ≡ true → (x : A) → Memᴰ x xs → p x ≡ true
  all_true_inv [] e x m = elim m [ ]
  all_true_inv (y ∷ ys) e x m = go (all_true_inv ys) (p y) refl e m
    where
      go : (all p ys ≡ true → (x : A) → Memᴰ x ys → p x ≡ true) → (b : Bool) → p y ≡ b → (b && all p ys) ≡ true → Memᴰ x (y ∷ ys) → p x ≡ true
      go ih true q r (Memᴰ.head d) = ap p d ∙ q
      go ih true q r (Memᴰ.tail n) = ih r x n
      go ih false q r n = absurd (false≢true r)

  pub any_of : (xs : List A) (x : A) → Memᴰ x xs → p x ≡ true → any p xs ≡ true
  any_of [] x x4 h = elim x4 [ ]
  any_of (y ∷ ys) x (Memᴰ.head e) h = rw (ap p (sym e) ∙ h) refl
  any_of (y ∷ ys) x (Memᴰ.tail m) h = go (p y) (any_of ys x m h)
    where
      go : (b : Bool) → any p ys ≡ true → (b || any p ys) ≡ true
      go true r = refl
      go false r = r

  pub any_some : (xs : List A) → any p xs ≡ true → (x : A) × Memᴰ x xs × (p x ≡ true)
  any_some [] e = absurd (false≢true e)
  any_some (x ∷ xs) e = go (any_some xs) (p x) refl e
    where
      go : (any p xs ≡ true → (y : A) × Memᴰ y xs × (p y ≡ true)) → (b : Bool) → p x ≡ b → (b || any p xs) ≡ true → (y : A) × Memᴰ y (x ∷ xs) × (p y ≡ true)
      go ih true q r = (x, Memᴰ.head refl, q)
      go ih false q r = let (y, m, h) = ih r in (y, Memᴰ.tail m, h)

  pub any_none : (xs : List A) → any p xs ≡ false → (x : A) → Memᴰ x xs → p x ≡ false
  any_none [] e x m = elim m [ ]
  any_none (y ∷ ys) e x m = go (any_none ys) (p y) refl e m
    where
      go : (any p ys ≡ false → (x : A) → Memᴰ x ys → p x ≡ false) → (b : Bool) → p y ≡ b → (b || any p ys) ≡ false → Memᴰ x (y ∷ ys) → p x ≡ false
      go ih true q r n = absurd (false≢true (sym r))
      go ih false q r (Memᴰ.head d) = ap p d ∙ q
      go ih false q r (Memᴰ.tail n) = ih r x n

  pub find-some : (xs : List A) (x : A) → find p xs ≡ some x → Memᴰ x xs × (p x ≡ true)
  find-some [] x e = absurd (none-some x e)
  find-some (y ∷ ys) x e = go (find-some ys x) (p y) refl e
    where
      go : (find p ys ≡ some x → Memᴰ x ys × (p x ≡ true)) → (b : Bool) → p y ≡ b → cond b (some y) (find p ys) ≡ some x → Memᴰ x (y ∷ ys) × (p x ≡ true)
      go ih true q r = let z : y ≡ x = cc in (Memᴰ.head (sym z), ap p (sym z) ∙ q)
      go ih false q r = (Memᴰ.tail (ih r).0, (ih r).1)

  pub find_none : (xs : List A) → find p xs ≡ none → (x : A) → Memᴰ x xs → p x ≡ false
  find_none [] e x m = elim m [ ]
  find_none (y ∷ ys) e x m = go (find_none ys) (p y) refl e m
    where
      go : (find p ys ≡ none → (x : A) → Memᴰ x ys → p x ≡ false) → (b : Bool) → p y ≡ b → cond b (some y) (find p ys) ≡ none → Memᴰ x (y ∷ ys) → p x ≡ false
      go ih true q r n = absurd (none-some y (sym r))
      go ih false q r (Memᴰ.head d) = ap p d ∙ q
      go ih false q r (Memᴰ.tail n) = ih r x n

-- ---- ranges

pub from_at : (n a k d : ℕ) → k < n → get_or (from n a) k d ≡ a + k
from_at zero a k d h = absurd (omega arith)
from_at (suc n) a zero d h = omega arith
from_at (suc n) a (suc k) d h = from_at n (suc a) k d (omega arith) ∙ omega arith

pub mem_from : (n a k : ℕ) → a ≤ k → k < a + n → Memᴰ k (from n a)
mem_from zero a k h l = absurd (omega arith)
mem_from (suc n) a k h l = go (mem_from n (suc a) k) (eqb k a) refl
  where
    go : (suc a ≤ k → k < suc a + n → Memᴰ k (from n (suc a))) → (b : Bool) → eqb k a ≡ b → Memᴰ k (a ∷ from n (suc a))
    go ih true e = Memᴰ.head (eqb-true k a e)
    go ih false e = let ne : ¬ (k ≡ a) = eqb-false k a e in Memᴰ.tail (ih (omega arith) (omega arith))

pub from_bounds : (n a k : ℕ) → Memᴰ k (from n a) → (a ≤ k) × (k < a + n)
from_bounds zero a k x' = elim x' [ ]
from_bounds (suc n) a k (Memᴰ.head e) = (omega arith, omega arith)
from_bounds (suc n) a k (Memᴰ.tail m) = let (l, h) = from_bounds n (suc a) k m in (omega arith, omega arith)

pub from-length : (n a : ℕ) → length (from n a) ≡ n
from-length zero a = refl
from-length (suc n) a = ap suc (from-length n (suc a))

-- ---- maps

module _ {A : Type 0} where
  pub map-from-at : (f : ℕ → A) (n a k : ℕ) (d : A) → k < n → get_or (map f (from n a)) k d ≡ f (a + k)
  map-from-at f zero a k d h = absurd (omega arith)
  map-from-at f (suc n) a zero d h = let e : a ≡ a + 0 = omega arith in ap f e
  map-from-at f (suc n) a (suc k) d h = let e : suc a + k ≡ a + suc k = omega arith in map-from-at f n (suc a) k d (omega arith) ∙ ap f e

  pub map-from_out : (f : ℕ → A) (n a k : ℕ) (d : A) → n ≤ k → get_or (map f (from n a)) k d ≡ d
  map-from_out f zero a k d h = refl
  map-from_out f (suc n) a zero d h = absurd (omega arith)
  map-from_out f (suc n) a (suc k) d h = map-from_out f n (suc a) k d (omega arith)

  pub map-from_suc : (f : ℕ → A) (n a : ℕ) → map f (from n (suc a)) ≡ map (λ k. f (suc k)) (from n a)
  map-from_suc f zero a = refl
  map-from_suc f (suc n) a = ap (λ (xs : List A). f (suc a) ∷ xs) (map-from_suc f n (suc a))

  pub map-from-length : (f : ℕ → A) (n a : ℕ) → length (map f (from n a)) ≡ n
  map-from-length f zero a = refl
  map-from-length f (suc n) a = ap suc (map-from-length f n (suc a))

-- a list by its positions
pub by_positions : {A B : Type 0} (f : A → B) (xs : List A) (d : A) → map (λ q. f (get_or xs q d)) (from (length xs) 0) ≡ map f xs
by_positions f [] d = refl
by_positions {A} {B} f (x ∷ xs) d = ap (λ (l : List B). f x ∷ l) (map-from_suc (λ q. f (get_or (x ∷ xs) q d)) (length xs) 0 ∙ by_positions f xs d)

pub map-from_snoc : {A : Type 0} (f : ℕ → A) (n a : ℕ) → map f (from (suc n) a) ≡ map f (from n a) ++ (f (a + n) ∷ [])
map-from_snoc f zero a = let e : a ≡ a + 0 = omega arith in ap (λ (k : ℕ). f k ∷ []) e
map-from_snoc f (suc n) a =
    let e : suc a + n ≡ a + suc n = omega arith in
    ap (λ l. f a ∷ l) (map-from_snoc f n (suc a) ∙ ap (λ (k : ℕ). map f (from n (suc a)) ++ (f k ∷ [])) e)

pub from_snoc : (n a : ℕ) → from (suc n) a ≡ from n a ++ ((a + n) ∷ [])
from_snoc n a = sym (map-id (from (suc n) a)) ∙ map-from_snoc (λ k. k) n a ∙ ap (λ (l : List ℕ). l ++ ((a + n) ∷ [])) (map-id (from n a))

pub map_cong : {A B : Type 0} (f g : A → B) (xs : List A) → ((x : A) → Memᴰ x xs → f x ≡ g x) → map f xs ≡ map g xs
map_cong f g [] h = refl
map_cong f g (x ∷ xs) h =
    let a : f x ≡ g x = h x (Memᴰ.head refl) in
    let b : map f xs ≡ map g xs = map_cong f g xs (λ y m. h y (Memᴰ.tail m)) in
    cc

pub concat_map_cong : {A B : Type 0} (f g : A → List B) (xs : List A) → ((x : A) → Memᴰ x xs → f x ≡ g x) → concat_map f xs ≡ concat_map g xs
concat_map_cong f g [] h = refl
concat_map_cong f g (x ∷ xs) h = ap₂ ◌++◌ (h x (Memᴰ.head refl)) (concat_map_cong f g xs (λ y m. h y (Memᴰ.tail m)))

-- tests that agree at the elements of a list
module _ {A : Type 0} (p q : A → Bool) where
  pub any_cong : (xs : List A) → ((x : A) → Memᴰ x xs → p x ≡ q x) → any p xs ≡ any q xs
  any_cong [] h = refl
  any_cong (x ∷ xs) h = ap₂ ◌||◌ (h x (Memᴰ.head refl)) (any_cong xs (λ y m. h y (Memᴰ.tail m)))

  pub find_cong : (xs : List A) → ((x : A) → Memᴰ x xs → p x ≡ q x) → find p xs ≡ find q xs
  find_cong [] h = refl
  find_cong (x ∷ xs) h = ap₂ (λ (b : Bool) (o : Option A). cond b (some x) o) (h x (Memᴰ.head refl)) (find_cong xs (λ y m. h y (Memᴰ.tail m)))

pub map-length : {A B : Type 0} (f : A → B) (xs : List A) → length (map f xs) ≡ length xs
map-length f [] = refl
map-length f (x ∷ xs) = ap suc (map-length f xs)

pub map-map : {A B C : Type 0} (f : B → C) (g : A → B) (xs : List A) → map f (map g xs) ≡ map (λ x. f (g x)) xs
map-map f g [] = refl
map-map f g (x ∷ xs) = ap (λ l. f (g x) ∷ l) (map-map f g xs)

pub length-nil : {A : Type 0} (xs : List A) → length xs ≡ 0 → xs ≡ []
length-nil [] e = refl
length-nil (x ∷ xs) e = absurd (omega arith)

-- ---- sums

module _ {A : Type 0} (f g : A → ℕ) where
  pub sum-map_le : (xs : List A) → ((x : A) → Memᴰ x xs → f x ≤ g x) → sum (map f xs) ≤ sum (map g xs)
  sum-map_le [] h = omega arith
  sum-map_le (x ∷ xs) h = omega (arith, h x (Memᴰ.head refl), sum-map_le xs (λ y m. h y (Memᴰ.tail m)))

  pub sum-map_lt : (xs : List A) → ((x : A) → Memᴰ x xs → f x ≤ g x) → (y : A) → Memᴰ y xs → f y < g y → sum (map f xs) < sum (map g xs)
  sum-map_lt [] h y x3 l = elim x3 [ ]
  sum-map_lt (x ∷ xs) h y (Memᴰ.head e) l =
      let l' : f x < g x = subst (λ z. f z < g z) e l in omega (arith, sum-map_le xs (λ z m. h z (Memᴰ.tail m)))
  sum-map_lt (x ∷ xs) h y (Memᴰ.tail m) l = omega (arith, h x (Memᴰ.head refl), sum-map_lt xs (λ z n. h z (Memᴰ.tail n)) y m l)

pub sum-map-at : {A : Type 0} (f : A → ℕ) (xs : List A) (x : A) → Memᴰ x xs → f x ≤ sum (map f xs)
sum-map-at {A = A} f [] x x3 = elim x3 [ ]
sum-map-at f (y ∷ ys) x (Memᴰ.head e) = let q : f x ≡ f y = ap f e in omega arith
sum-map-at f (y ∷ ys) x (Memᴰ.tail m) = omega (arith, sum-map-at f ys x m)

-- of a filter's first two elements over a range the second is higher
pub filter-from_ordered : (p : ℕ → Bool) (n a u w : ℕ) (us : List ℕ) → filter p (from n a) ≡ u ∷ w ∷ us → u < w
filter-from_ordered p zero a u w us e = absurd (nil≢cons e)
filter-from_ordered p (suc n) a u w us e = go (filter-from_ordered p n (suc a) u w us) (p a) e
  where
    go : (filter p (from n (suc a)) ≡ u ∷ w ∷ us → u < w) → (b : Bool) → cons_if b a (filter p (from n (suc a))) ≡ u ∷ w ∷ us → u < w
    go ih true r =
        let x : a ≡ u = cc in
        let y : filter p (from n (suc a)) ≡ w ∷ us = cc in
        omega (arith, (from_bounds n (suc a) w (filter-is p (from n (suc a)) w (subst (Memᴰ w) (sym y) (Memᴰ.head refl))).0).0)
    go ih false r = ih r
