-- Classes that are parts of themselves, by the slots of the problem's arrays, and the lowest such term. proofs/ shows that
-- they are those of document 01. Assumes nothing: definitions.
use Rattle.std.specs.Prelude.{◌≡◌, Bool, true, false, ◌&&◌, List, ℕ, ◌<◌, eqb}
use Rattle.std.specs.declared.option.Option.{Option}
use Rattle.std.specs.declared.option.Option.TheVariants.{None, Some}
use Rattle.laws.specs.Lists.{any}
use Rattle.guard.specs.Closure.{State, builds_at, class_of}
use Rattle.guard.specs.Node.{inside_itself}
use Rattle.guard.specs.Terms.{Table}
use Rattle.arrays.specs.Slots.{active, many_at, sort_at}
use Rattle.needed.specs.Needed.{own_class, part_class}

-- class d is a part of class c, through one built term or several
pub data PartOf (shapes : List ℕ) (s : State) (c : ℕ) : ℕ → Type 0 where
  its_part : {d : ℕ} (k p : ℕ) → k < 30 → p < many_at shapes k → active shapes s k ≡ true → own_class shapes s k ≡ c → part_class shapes s k p ≡ d → PartOf shapes s c d
  of_part : {d : ℕ} (k p : ℕ) → k < 30 → p < many_at shapes k → active shapes s k ≡ true → PartOf shapes s c (own_class shapes s k) → part_class shapes s k p ≡ d → PartOf shapes s c d

-- "a class is a part of itself through built rows": there is a term x, and its class is
abbrev pub Inside : List ℕ → List ℕ → State → ℕ → Type 0
Inside shapes sorts s x = (¬ (sort_at sorts x ≡ 0)) × PartOf shapes s (class_of s x) (class_of s x)

-- the same for the terms of a table
unfoldable pub inside_term : Table → State → ℕ → Bool
inside_term t s x = any (λ a. eqb a.term x && inside_itself s (builds_at t s) a) t.terms

-- an answer to whether a claim holds
pub record Tells (Claim : Type 0) (r : Bool) : Type 0 where
  pub yes : r ≡ true → Claim
  pub no : r ≡ false → ¬ Claim

-- the lowest number below n of which a claim holds, or none
abbrev pub LowestOf : (ℕ → Type 0) → ℕ → Option ℕ → Type 0
LowestOf Claim n None = (x : ℕ) → x < n → ¬ Claim x
LowestOf Claim n (Some k) = (k < n) × Claim k × ((x : ℕ) → x < k → ¬ Claim x)
