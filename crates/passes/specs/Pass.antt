-- What a pass of the saturation has to show. Assumes nothing: definitions.
use Rattle.std.specs.Prelude.{◌≡◌, Bool, true, false, ◌<◌}
use mathlib.Core.List.{List, Memᴰ}
use Rattle.laws.specs.All.{All}
use Rattle.guard.specs.Closure.{Fact, State, add, holds, size}

-- facts that are due at a state: those of a family of rules, at some of its entries
abbrev pub Due : Type 0
Due = State → List Fact

-- steps that add, one by one, what is due at the state where it is added
pub data Steps (due : Due) (s : State) : State → Type 0 where
  done : Steps due s s
  then : {s' : State} → Steps due s s' → (f : Fact) → Memᴰ f (due s') → Steps due s (add s' f)

-- From `s` to `s'`: only what is due is added; the size falls if anything changed; if nothing changed, all that is due holds.
pub record Pass (due : Due) (s s' : State) (changed : Bool) : Type 0 where
  pub steps : Steps due s s'
  pub falls : changed ≡ true → size s' < size s
  pub quiet : changed ≡ false → (s' ≡ s) × All (λ f. holds s f ≡ true) (due s)

-- From `s` to `s'`: only what is due is added, and all that is due holds then.
pub record Saturated (due : Due) (s s' : State) : Type 0 where
  pub steps : Steps due s s'
  pub quiet : All (λ f. holds s' f ≡ true) (due s')
