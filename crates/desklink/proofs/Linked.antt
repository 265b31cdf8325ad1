-- The two ends of the call: too short an answer buffer, and an answer. Assumes nothing.
use mathlib.Core.Path.{◌≡◌, refl}
use mathlib.Core.List.{List, ◌++◌}
use Prim.Native.Nat.{ℕ, ◌<◌}
use native.Mathlib.Omega.{arith}
use lib.IntN.{ℤ}
use lib.ListN.{length, drop}
use Rattle.guard.specs.Limits.{Limits, base}
use Rattle.guard.specs.declared.Answer.{Answer}
use Rattle.decidewithin.specs.Decides.{Decides}
use Rattle.explain.specs.Explains.{Explains}
use Rattle.explain.specs.declared.Explained.{Explained}
use Rattle.answernumbers.specs.Numbers.{answer_numbers}
use Rattle.desklink.specs.Links.{Links, LinksExplained}

pub too_short : (limits : Limits) (bytes : List ℕ) (budget : ℕ) (rows places : List ℤ) (numbers : List ℕ) → length numbers < 5 → Links limits bytes budget rows places numbers 1 rows places numbers
too_short limits bytes budget rows places numbers h = record { short = λ _. (refl, (refl, (refl, refl))); enough = λ l. absurd (omega (arith, h, l)) }

pub answered : (limits : Limits) (bytes : List ℕ) (budget : ℕ) (rows places : List ℤ) (numbers : List ℕ) (r : Answer) (rows' places' : List ℤ) (numbers' : List ℕ)
    → ¬ (length numbers < 5) → Decides limits bytes budget rows places r rows' places' → numbers' ≡ answer_numbers r ++ drop 5 numbers
    → Links limits bytes budget rows places numbers 0 rows' places' numbers'
answered limits bytes budget rows places numbers r rows' places' numbers' h d told =
    record { short = λ l. absurd (h l); enough = λ _. (refl, record { answer = r; decided = d; told = told }) }

-- ---- the second call

pub too_short_explained : (bytes : List ℕ) (budget : ℕ) (rows places : List ℤ) (lent numbers : List ℕ) → length numbers < 5
    → LinksExplained base bytes budget rows places lent numbers 18446744073709551615 rows places lent numbers
too_short_explained bytes budget rows places lent numbers h = record { short = λ _. (refl, (refl, (refl, (refl, refl)))); enough = λ l. absurd (omega (arith, h, l)) }

pub answered_explained : (bytes : List ℕ) (budget : ℕ) (rows places : List ℤ) (lent numbers : List ℕ) (r : Explained) (rows' places' : List ℤ) (lent' numbers' : List ℕ)
    → ¬ (length numbers < 5) → Explains base bytes budget rows places lent r rows' places' lent' → numbers' ≡ answer_numbers r.answer ++ drop 5 numbers
    → LinksExplained base bytes budget rows places lent numbers r.bytes rows' places' lent' numbers'
answered_explained bytes budget rows places lent numbers r rows' places' lent' numbers' h d told =
    record { short = λ l. absurd (h l); enough = λ _. record { answer = r.answer; explained = d; told = told } }
