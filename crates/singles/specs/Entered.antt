-- The pass over terms of one fieldless variant keeps, for each variant, the first such term that it met. How far it has
-- come is a term and a variant. Assumes nothing: definitions.
use Rattle.std.specs.Prelude.{◌≡◌, Bool, true, false, ◌||◌, List, ◌⊎◌, ℕ, ◌+◌, ◌*◌, ◌/◌, ◌%◌, ◌<◌, length, get_or}
use Rattle.guard.specs.Closure.{SameAt, State, size}
use Rattle.guard.specs.Limits.{variant_limit}
use Rattle.passes.specs.Pass.{Steps}
use Rattle.arrays.specs.Slots.{only_is, sort_at}
use Rattle.singles.specs.Due.{singles_due}

-- the place of a term's variant in the table, and what stands for none
abbrev pub place_of : List ℕ → ℕ → ℕ → ℕ
place_of sorts x v = 16 * sort_at sorts x + v

abbrev pub unseen : ℕ
unseen = 255

abbrev pub seen_at : List ℕ → ℕ → ℕ
seen_at seen w = get_or seen w unseen

-- term y with variant u comes before term x with variant v
abbrev pub Before : ℕ → ℕ → ℕ → ℕ → Type 0
Before x v y u = (y < x) ⊎ ((y ≡ x) × (u < v))

-- what stands in the table has been met, and is of the type of its place
pub record SeenFit (sorts seen : List ℕ) (x v : ℕ) : Type 0 where
  pub long : length seen ≡ 112
  pub at : (w : ℕ) → ¬ (seen_at seen w ≡ unseen) → Before x v (seen_at seen w) (w % 16) × (sort_at sorts (seen_at seen w) ≡ w / 16)

module _ (sorts fieldless : List ℕ) where
  -- where nothing has changed yet: each term met is equal to the one in the table, which is of that variant
  pub record AllSeen (s : State) (seen : List ℕ) (x v : ℕ) : Type 0 where
    pub met : (y u : ℕ) → u < variant_limit → Before x v y u → only_is sorts fieldless s y u ≡ true
        → ¬ (seen_at seen (place_of sorts y u) ≡ unseen) × SameAt s (seen_at seen (place_of sorts y u)) y
    pub only : (w : ℕ) → ¬ (seen_at seen w ≡ unseen) → only_is sorts fieldless s (seen_at seen w) (w % 16) ≡ true

  -- the pass from `first` has come to term x and variant v
  pub record Entered (first s : State) (seen : List ℕ) (x v : ℕ) (changed : Bool) : Type 0 where
    pub steps : Steps (singles_due sorts fieldless) first s
    pub falls : changed ≡ true → size s < size first
    pub quiet : changed ≡ false → (s ≡ first) × AllSeen first seen x v

  -- one part of the pass: from wherever the pass had begun
  unfoldable pub Advance : State → List ℕ → ℕ → ℕ → State → List ℕ → ℕ → ℕ → Bool → Type 0
  Advance s seen x v s' seen' x' v' r = (first : State) (changed : Bool) → Entered first s seen x v changed → Entered first s' seen' x' v' (changed || r)

-- a term that is of no fieldless variant alone
abbrev pub NeverAlone : List ℕ → List ℕ → State → ℕ → Type 0
NeverAlone sorts fieldless s x = (u : ℕ) → u < variant_limit → only_is sorts fieldless s x u ≡ false
