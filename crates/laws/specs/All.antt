-- A property of every element of a list. Assumes nothing.
use Rattle.std.specs.Prelude.{List, [], ◌∷◌}

pub data All {A : Type 0} (P : A → Type 0) : List A → Type 0 where
  none : All P []
  more : {x : A} {xs : List A} → P x → All P xs → All P (x ∷ xs)
