-- A term that splits is one that has a label. Assumes nothing.
use mathlib.Core.Path.{◌≡◌, refl, ap, sym, ◌∙◌}
use mathlib.Core.Bool.{true}
use mathlib.Core.List.{List}
use Prim.Native.Nat.{ℕ}
use native.Mathlib.Omega.{arith}
use lib.Bits.{and_zero_r, bit_and}
use lib.Dec.{leb}
use lib.ListN.{length}
use borrow.Author.Tests.{eqb-true, leb-true}
use Rattle.laws.proofs.Bools.{and_left, and_right, or_right}
use Rattle.guard.specs.Closure.{State, label_of}
use Rattle.labels.specs.Label.{variants_in}
use Rattle.labelled.specs.Covers.{has_label, has_mask}
use Rattle.arrays.proofs.DueLaws.{is_nonzero}
use Rattle.arrays.specs.Slots.{fieldless_at}
use Rattle.splits.specs.Choice.{term_splits}

pub no-variants : length (variants_in 0) ≡ 0
unfolding variants_in
no-variants = refl

-- a label of fieldless variants alone is not empty, so a term that splits is one of a type that has some
pub splits_has_label : (sorts full fieldless : List ℕ) (s : State) (x : ℕ) → term_splits sorts fieldless s x ≡ true → has_label sorts full fieldless x ≡ true
unfolding term_splits has_label has_mask
splits_has_label sorts full fieldless s x e =
    or_right (has_mask sorts full x) _
    (is_nonzero (fieldless_at sorts fieldless x) (λ z.
    let only : bit_and (label_of s x) (fieldless_at sorts fieldless x) ≡ label_of s x = eqb-true _ _ (and_right (leb 2 (length (variants_in (label_of s x)))) _ e) in
    let none : label_of s x ≡ 0 = sym only ∙ ap (bit_and (label_of s x)) z ∙ and_zero_r (label_of s x) in
    omega (arith, leb-true 2 (length (variants_in (label_of s x))) (and_left (leb 2 (length (variants_in (label_of s x)))) _ e), ap (λ (m : ℕ). length (variants_in m)) none, no-variants)))
