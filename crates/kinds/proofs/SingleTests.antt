-- A term of one fieldless variant alone has a label. Assumes nothing.
use mathlib.Core.Path.{◌≡◌, ap, sym, ◌∙◌}
use mathlib.Core.Bool.{true, not, false≢true}
use mathlib.Core.List.{List}
use Prim.Native.Nat.{ℕ}
use lib.Dec.{eqb, ltb}
use borrow.Author.Tests.{eqb-true}
use Rattle.laws.proofs.Bools.{and_right, by_test, or_right}
use Rattle.guard.specs.Closure.{State, class_of, label_of}
use Rattle.guard.specs.Limits.{variant_limit}
use Rattle.arrays.specs.Slots.{fieldless_at, only_is}
use Rattle.slots.proofs.OnlyOne.{never}
use Rattle.labelled.specs.Covers.{has_label, has_mask}
use Rattle.splits.specs.Choice.{lowest_in}
use Rattle.kinds.specs.Found.{is_single}

pub single_has_label : (sorts full fieldless : List ℕ) (s : State) (c x : ℕ) → is_single sorts fieldless s c x ≡ true → has_label sorts full fieldless x ≡ true
unfolding is_single has_label has_mask
single_has_label sorts full fieldless s c x e =
    by_test (eqb (fieldless_at sorts fieldless x) 0) (λ z. absurd (false≢true (sym (never sorts fieldless s x (eqb-true _ 0 z) v) ∙ alone)))
    (λ z. or_right (has_mask sorts full x) _ (ap not z))
  where
    v : ℕ
    v = lowest_in (label_of s x)

    alone : only_is sorts fieldless s x v ≡ true
    alone = and_right (ltb v variant_limit) _ (and_right (eqb (class_of s x) c) _ e)
