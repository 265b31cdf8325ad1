-- A parser whose value is mapped: what it accepts comes from a value, and it refuses as it did. Assumes nothing.
use mathlib.Core.Path.{◌≡◌, ap}
use mathlib.Core.List.{List}
use Prim.Native.Nat.{ℕ}
use native.Mathlib.Omega.{arith}
use Rattle.guard.specs.Number.{Parsed, Parsed.accepted, Parsed.refused, and_then, return}

-- what a value comes from
pub record From {A B : Type 0} (f : A → B) (p : Parsed A) (x : B) (rest : List ℕ) : Type 0 where
  pub value : A
  pub parsed : p ≡ accepted value rest
  pub is : f value ≡ x

module _ {A B : Type 0} (f : A → B) where
  pub mapped-from : (p : Parsed A) (x : B) (rest : List ℕ) → and_then (λ a. return (f a)) p ≡ accepted x rest → From f p x rest
  mapped-from (refused q) x rest e = absurd (grind arith)
  mapped-from (accepted a bs) x rest e = let z : bs ≡ rest = cc in record { value = a; parsed = ap (accepted a) z; is = cc }

  pub mapped-stops : (p : Parsed A) (q : ℕ) → and_then (λ a. return (f a)) p ≡ refused q → p ≡ refused q
  mapped-stops (refused r) q e = let z : r ≡ q = cc in ap refused z
  mapped-stops (accepted a bs) q e = absurd (grind arith)
