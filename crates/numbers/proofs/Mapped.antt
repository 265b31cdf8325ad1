-- A parser whose value is mapped accepts and refuses as the parser does. Assumes nothing.
use Rattle.std.proofs.Common.{◌≡◌, refl, ap, ℕ, List}
use Rattle.guard.specs.Number.{Parsed, Parsed.accepted, Parsed.refused, and_then, return}

module _ {A B : Type 0} (f : A → B) where
  pub mapped : (p : Parsed A) (y : B) (rest : List ℕ) → and_then (λ x. return (f x)) p ≡ accepted y rest → (x : A) × (p ≡ accepted x rest) × (f x ≡ y)
  mapped (refused q) y rest e = absurd cc
  mapped (accepted x mid) y rest e = (x, (let d : mid ≡ rest = cc in ap (accepted x) d), (let d : f x ≡ y = cc in d))

  pub mapped_refused : (p : Parsed A) (q : ℕ) → and_then (λ x. return (f x)) p ≡ refused q → p ≡ refused q
  mapped_refused (refused z) q e = (let d : z ≡ q = cc in ap refused d)
  mapped_refused (accepted x mid) q e = absurd cc
