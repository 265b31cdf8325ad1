-- The loader's call beside the desk's: both say the same of a file within the smaller limits, and the loader shows at most 1,024 rows. Both
-- follow from the contracts. Assumes nothing.
use mathlib.Core.Path.{◌≡◌, sym, ◌∙◌}
use mathlib.Core.Bool.{true}
use mathlib.Core.List.{List}
use Prim.Native.Nat.{ℕ, ◌≤◌}
use native.Mathlib.Omega.{arith}
use lib.IntN.{ℤ}
use lib.ListN.{length}
use Rattle.guard.specs.Answer.{outcome_of, rows_of}
use Rattle.guard.specs.Limits.{Limits, Supported, base, place_buffer, row_buffer}
use Rattle.guard.specs.declared.Answer.{Answer}
use Rattle.withinlimits.specs.Within.{Smaller, within}
use Rattle.withinlimits.proofs.SameAnswer.{same_answer}
use Rattle.decidewithin.specs.CallerLimits.{loader}
use Rattle.decidewithin.specs.Decides.{Decides}
use Rattle.decidewithin.proofs.Corollaries.{few-rows}

pub loader-supported : Supported loader
loader-supported = record { types = omega arith; terms = omega arith; lines = omega arith }

pub loader_smaller : Smaller loader base
loader_smaller = record { types = omega arith; terms = omega arith; lines = omega arith }

-- Document 02, #110: "With the same budget, and buffers long enough for each, a file within the small limits gets the same refusal, or
-- verdict, node and split counts, from both": two callers with any limits, one's no larger than the other's.
pub same-from-both : (small large : Limits) → Smaller small large → (bytes : List ℕ) → within small bytes ≡ true → (budget : ℕ)
    → (rows places : List ℤ) (r : Answer) (rows' places' : List ℤ) → Decides small bytes budget rows places r rows' places' → row_buffer small ≤ length rows → place_buffer small ≤ length places
    → (rows₂ places₂ : List ℤ) (r₂ : Answer) (rows₂' places₂' : List ℤ) → Decides large bytes budget rows₂ places₂ r₂ rows₂' places₂' → row_buffer large ≤ length rows₂ → place_buffer large ≤ length places₂
    → outcome_of r ≡ outcome_of r₂
same-from-both small large s bytes e budget rows places r rows' places' d hr hp rows₂ places₂ r₂ rows₂' places₂' d₂ hr₂ hp₂ =
    d.says ∙ same_answer small large s bytes e budget (length rows) (length places) (length rows₂) (length places₂) hr hp hr₂ hp₂ ∙ sym d₂.says

-- the loader and the desk
module _ (bytes : List ℕ) (budget : ℕ) (rows places : List ℤ) (r : Answer) (rows' places' : List ℤ) (d : Decides loader bytes budget rows places r rows' places') where
  pub loader-agrees : within loader bytes ≡ true → 4096 ≤ length rows → 8 ≤ length places
      → (rows₂ places₂ : List ℤ) (r₂ : Answer) (rows₂' places₂' : List ℤ) → Decides base bytes budget rows₂ places₂ r₂ rows₂' places₂' → 16384 ≤ length rows₂ → 24 ≤ length places₂ → outcome_of r ≡ outcome_of r₂
  loader-agrees e hr hp rows₂ places₂ r₂ rows₂' places₂' d₂ hr₂ hp₂ = same-from-both loader base loader_smaller bytes e budget rows places r rows' places' d hr hp rows₂ places₂ r₂ rows₂' places₂' d₂ hr₂ hp₂

  -- "For these 1,024 rows always suffice."
  pub loader-rows : rows_of r ≤ 1024
  loader-rows = few-rows loader loader-supported bytes budget rows places r rows' places' d
