-- At states that agree the same claims hold. Assumes nothing.
use mathlib.Core.Path.{◌≡◌, ap}
use mathlib.Core.Bool.{Bool, not, ◌&&◌}
use mathlib.Core.List.{List, Memᴰ}
use Prim.Native.Nat.{ℕ, ◌^◌}
use native.Mathlib.Omega.{arith}
use lib.Dec.{eqb, ltb}
use lib.ListN.{length, get_or-eq_default}
use borrow.Author.Tests.{ltb-false, ltb-true}
use Rattle.laws.specs.Bits.{bit}
use Rattle.laws.specs.Lists.{any}
use Rattle.laws.proofs.Bools.{by_test}
use Rattle.laws.proofs.Lists.{all_get_d, all_of, any_cong, filter-is}
use Rattle.guard.specs.Closure.{State, builds_at}
use Rattle.guard.specs.Guard.{Literal, Literal.equal, Literal.is}
use Rattle.guard.specs.Node.{empty_label, holds_another, inside_itself, unlike_constants}
use Rattle.guard.specs.Terms.{Table, Term}
use Rattle.guard.proofs.Agreement.{Agrees, broken-agrees, empty-agrees, inside-itself-agrees, unlike-agrees}
use Rattle.guard.proofs.ClosureBelow.{InRange, LiteralInRange, LiteralsInRange}
use Rattle.refutations.specs.Record.{Entry, Entry.empty, Entry.inside, Entry.split_on, Entry.unequal_line, Entry.unlike, claim, line_at, named}

-- the line of a claim is in range, if only since there is none of its number
line_in_range : (lines : List Literal) → LiteralsInRange lines → (j : ℕ) → LiteralInRange (line_at lines j)
line_in_range lines r j =
    by_test (ltb j (length lines)) (λ e. all_get_d (all_of lines r) j (equal 0 0) (ltb-true _ _ e))
    (λ e. rw (get_or-eq_default lines (equal 0 0) (ltb-false j (length lines) e)) (omega arith, omega arith))

module _ (t : Table) (ranged : InRange t) (s s' : State) (agree : Agrees s s') where
  -- a claim about a term
  of_term : (p q : Term → Bool) → ((x : Term) → Memᴰ x t.terms → p x ≡ q x) → (i : ℕ) → any p (named t i) ≡ any q (named t i)
  of_term p q h i = any_cong p q (named t i) (λ x m. h x (filter-is (λ y. eqb y.term i) t.terms x m).0)

  pub claim-agrees : (lines : List Literal) → LiteralsInRange lines → (e : Entry) → claim t lines s e ≡ claim t lines s' e
  claim-agrees lines r (empty i) = of_term (empty_label t s) (empty_label t s') (empty-agrees t ranged s s' agree) i
  claim-agrees lines r (unequal_line j) = broken-agrees t ranged s s' agree (line_at lines j) (line_in_range lines r j)
  claim-agrees lines r (unlike i) = of_term (unlike_constants t s) (unlike_constants t s') (unlike-agrees t ranged s s' agree) i
  claim-agrees lines r (inside i) = of_term (inside_itself s (builds_at t s)) (inside_itself s' (builds_at t s')) (inside-itself-agrees t ranged s s' agree) i
  claim-agrees lines r (split_on d) =
      of_term (λ x. holds_another s x.term d.variant) (λ x. holds_another s' x.term d.variant)
      (λ x m. ap (λ (l : ℕ). not (eqb (bit l d.variant) 0) && not (eqb l (2 ^ d.variant))) (agree.label x.term (ranged.terms x m).0)) d.term
