-- What a search from 0 on finds. Assumes nothing: definitions.
use Rattle.std.specs.Prelude.{◌≡◌, Bool, true, false, ℕ, ◌<◌}
use Rattle.std.specs.declared.option.Option.{Option}
use Rattle.std.specs.declared.option.Option.TheVariants.{None, Some}
use Rattle.laws.proofs.Positions.{least}

-- the lowest number below n that passes the test, or n
unfoldable pub lowest : (ℕ → Bool) → ℕ → ℕ
lowest p n = least p n

-- the number that a search finds, or none
abbrev pub Finds : (ℕ → Bool) → ℕ → Option ℕ → Type 0
Finds p n None = lowest p n ≡ n
Finds p n (Some k) = (k < n) × (k ≡ lowest p n)

-- the first call that says true, of calls for all numbers below n: those before it say false
abbrev pub FirstPassing : (ℕ → Bool → Type 0) → ℕ → Option ℕ → Type 0
FirstPassing post n None = (k : ℕ) → k < n → post k false
FirstPassing post n (Some k) = (k < n) × post k true × ((j : ℕ) → j < k → post j false)

-- the calls up to the first that says true, of those for all numbers below n
abbrev pub SomePassing : (ℕ → Bool → Type 0) → ℕ → Bool → Type 0
SomePassing post n false = (k : ℕ) → k < n → post k false
SomePassing post n true = (k : ℕ) × (k < n) × post k true × ((j : ℕ) → j < k → post j false)
