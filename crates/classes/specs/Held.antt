-- A state of the closure as two arrays. Assumes nothing: definitions.
use Rattle.std.specs.Prelude.{◌≡◌, List, ℕ, ◌<◌, length, get_or}
use Rattle.guard.specs.Closure.{State}

abbrev pub state : List ℕ → List ℕ → State
state classes labels = record { classes = classes; labels = labels }

-- the classes are as many as the array has, and are there
pub record Held (classes : List ℕ) : Type 0 where
  pub long : length classes ≡ 96
  pub there : (i : ℕ) → get_or classes i 0 < 96

-- and the labels are masks of 16 bits
pub record Kept (classes labels : List ℕ) : Type 0 where
  pub held : Held classes
  pub small : (c : ℕ) → get_or labels c 0 < 65536
