-- A term with an empty label is one of variant type. Assumes nothing.
use mathlib.Core.Path.{◌≡◌}
use mathlib.Core.Bool.{true}
use mathlib.Core.List.{List}
use Prim.Native.Nat.{ℕ}
use Rattle.laws.proofs.Bools.{and_left, or_left}
use lib.Dec.{eqb}
use Rattle.guard.specs.Closure.{State, label_of}
use Rattle.labelled.specs.Covers.{has_label, has_mask}
use Rattle.reasons.specs.Reasons.{empty_at}

pub empty_has_label : (sorts full fieldless : List ℕ) (s : State) (x : ℕ) → empty_at sorts full s x ≡ true → has_label sorts full fieldless x ≡ true
unfolding empty_at has_label has_mask
empty_has_label sorts full fieldless s x e = or_left (has_mask sorts full x) (has_mask sorts fieldless x) (and_left (has_mask sorts full x) (eqb (label_of s x) 0) e)
