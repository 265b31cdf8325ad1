-- Active shapes as numbers to compare: one of the kind and the classes of all parts, and one of the kind and the class of the
-- term. Assumes nothing: definitions.
use Rattle.std.specs.Prelude.{◌≡◌, true, List, ◌⊎◌, ℕ, ◌+◌, ◌*◌, ◌%◌, ◌<◌, eqb, get_or, length}
use Rattle.guard.specs.Closure.{State, class_of}
use Rattle.arrays.specs.Slots.{active, kind_at, owner_at, part_at}

-- what is left of the kind, so that it fits beside three classes
abbrev pub kind_byte : List ℕ → ℕ → ℕ
kind_byte shapes k = kind_at shapes k % 256

abbrev pub parts_key : List ℕ → State → ℕ → ℕ
parts_key shapes s k = 16777216 * kind_byte shapes k + 65536 * class_of s (part_at shapes k 0) + 256 * class_of s (part_at shapes k 1) + class_of s (part_at shapes k 2)

-- never 0
abbrev pub owner_key : List ℕ → State → ℕ → ℕ
owner_key shapes s k = 256 * kind_byte shapes k + class_of s (owner_at shapes k) + 1

-- the first n slots have the keys of their shapes, where these are active
pub record Keyed (shapes : List ℕ) (s : State) (n : ℕ) (parts owners : List ℕ) : Type 0 where
  pub long_parts : length parts ≡ 30
  pub long_owners : length owners ≡ 30
  pub parts_are : (k : ℕ) → k < n → active shapes s k ≡ true → get_or parts k 0 ≡ parts_key shapes s k
  pub owners_are : (k : ℕ) → k < n → active shapes s k ≡ true → get_or owners k 0 ≡ owner_key shapes s k

-- slot k and each one before it agree in both keys or in none, or slot k has no keys
abbrev pub Agreed : List ℕ → List ℕ → ℕ → ℕ → Type 0
Agreed parts owners k n = (i : ℕ) → i < n → eqb (get_or parts i 0) (get_or parts k 0) ≡ eqb (get_or owners i 0) (get_or owners k 0)

abbrev pub Quiet : List ℕ → List ℕ → ℕ → Type 0
Quiet parts owners k = (get_or owners k 0 ≡ 0) ⊎ Agreed parts owners k k
