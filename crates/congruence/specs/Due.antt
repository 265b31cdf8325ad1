-- What two terms built by one variant give at a state, by the slots of the problem's array of shapes. proofs/ shows that this is what
-- the rules of document 01 give for the guard. Assumes nothing: definitions.
use Rattle.std.specs.Prelude.{Bool, ◌&&◌, List, [], ◌∷◌, ◌++◌, ℕ, eqb}
use Rattle.laws.specs.Lists.{all, concat_map, from, when}
use Rattle.guard.specs.Closure.{Fact, Fact.same, State, same_class}
use Rattle.arrays.specs.Slots.{active, kind_at, many_at, owner_at, part_at}

module _ (shapes : List ℕ) (s : State) where
  -- two terms built by one variant
  unfoldable pub alike : ℕ → ℕ → Bool
  alike k i = eqb (kind_at shapes k) (kind_at shapes i) && (active shapes s k && active shapes s i)

  unfoldable pub same_parts : ℕ → ℕ → Bool
  same_parts k i = all (λ p. same_class s (part_at shapes i p) (part_at shapes k p)) (from (many_at shapes k) 0)

  abbrev pub same_owners : ℕ → ℕ → Bool
  same_owners k i = same_class s (owner_at shapes i) (owner_at shapes k)

  -- "rows built by the same variant from equal parts are equal"
  unfoldable pub owners_due : ℕ → ℕ → List Fact
  owners_due k i = when (alike k i && same_parts k i) (same (owner_at shapes i) (owner_at shapes k) ∷ [])

  -- "and equal rows of one variant have equal parts"
  unfoldable pub part_due : ℕ → ℕ → ℕ → List Fact
  part_due k i p = when (alike k i && same_owners k i) (same (part_at shapes i p) (part_at shapes k p) ∷ [])

  unfoldable pub parts_due : ℕ → ℕ → List Fact
  parts_due k i = concat_map (part_due k i) (from (many_at shapes k) 0)

  unfoldable pub shapes_meet : ℕ → ℕ → List Fact
  shapes_meet k i = owners_due k i ++ parts_due k i

  unfoldable pub shape_due : ℕ → List Fact
  shape_due k = concat_map (shapes_meet k) (from k 0)

  unfoldable pub shapes_due : List Fact
  shapes_due = concat_map shape_due (from 30 0)
