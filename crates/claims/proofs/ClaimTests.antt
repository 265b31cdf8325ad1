-- Each test of a claim, case by case as the code tells them apart. Assumes nothing.
use mathlib.Core.Path.{◌≡◌, sym, ◌∙◌}
use mathlib.Core.Bool.{Bool, true, false, false≢true}
use mathlib.Core.List.{List}
use Prim.Native.Nat.{ℕ, ◌≤◌, ◌<◌}
use native.Mathlib.Omega.{arith}
use Rattle.guard.specs.Closure.{State}
use Rattle.cycles.specs.Cycles.{Inside, Tells}
use Rattle.claims.specs.Claims.{InsideTerm}

-- an answer that is a test's
pub tells : (r b : Bool) → r ≡ b → Tells (b ≡ true) r
tells r b e = record { yes = λ q. sym e ∙ q; no = λ q h. false≢true (sym q ∙ e ∙ h) }

module _ (sorts : List ℕ) (x : ℕ) where
  pub not_inside : (shapes : List ℕ) (s : State) → 78 ≤ x → Tells (InsideTerm shapes sorts s x) false
  not_inside shapes s h = record { yes = λ q. absurd (false≢true q); no = λ q w. omega (arith, w.0) }

  pub inside-there : (shapes : List ℕ) (s : State) (r : Bool) → x < 78 → Tells (Inside shapes sorts s x) r → Tells (InsideTerm shapes sorts s x) r
  inside-there shapes s r h t = record { yes = λ q. (h, t.yes q); no = λ q w. t.no q w.1 }
