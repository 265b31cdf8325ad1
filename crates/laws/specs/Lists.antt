-- Functions on lists by Boolean tests, which compute. Assumes nothing.
use Rattle.std.specs.Prelude.{Bool, true, false, not, ◌&&◌, ◌||◌, cond, List, [], ◌∷◌, ◌++◌, ℕ, zero, suc, ◌+◌, ◌*◌, eqb}
use Rattle.std.proofs.Math.Option.{Option, none, some}

module _ {A : Type 0} where
  -- the test passes at every element
  abbrev pub all : (A → Bool) → List A → Bool
  all p [] = true
  all p (x ∷ xs) = p x && all p xs

  -- the test passes at some element
  abbrev pub any : (A → Bool) → List A → Bool
  any p [] = false
  any p (x ∷ xs) = p x || any p xs

  -- the list where the test passes, else nothing
  abbrev pub when : Bool → List A → List A
  when true xs = xs
  when false xs = []

  abbrev pub cons_if : Bool → A → List A → List A
  cons_if true x xs = x ∷ xs
  cons_if false x xs = xs

  -- the elements where the test passes
  abbrev pub filter : (A → Bool) → List A → List A
  filter p [] = []
  filter p (x ∷ xs) = cons_if (p x) x (filter p xs)

  -- the first element where the test passes
  abbrev pub find : (A → Bool) → List A → Option A
  find p [] = none
  find p (x ∷ xs) = cond (p x) (some x) (find p xs)

  -- the last element, or the other one
  abbrev pub last : List A → A → A
  last [] d = d
  last (x ∷ xs) d = last xs x

  abbrev pub concat_map : {B : Type 0} → (B → List A) → List B → List A
  concat_map f [] = []
  concat_map f (x ∷ xs) = f x ++ concat_map f xs

-- the n numbers from a on
abbrev pub from : ℕ → ℕ → List ℕ
from zero a = []
from (suc n) a = a ∷ from n (suc a)

abbrev pub member : ℕ → List ℕ → Bool
member n xs = any (eqb n) xs

-- the elements of both lists, those of the first added where they are missing
abbrev pub union : List ℕ → List ℕ → List ℕ
union [] ys = ys
union (x ∷ xs) ys = union xs (cons_if (not (member x ys)) x ys)

abbrev pub sum : List ℕ → ℕ
sum [] = 0
sum (x ∷ xs) = x + sum xs

-- the product; 1 for the empty list
abbrev pub product : List ℕ → ℕ
product [] = 1
product (x ∷ xs) = x * product xs
