-- `may_be_alone` meets its contract. Assumes nothing.
use mathlib.Core.Path.{◌∙◌, ap, sym}
use Prim.Native.Nat.{ℕ}
use native.Mathlib.Omega.{arith}
use lib.ListN.{length}
use borrow.Author.Tests.{ltb-false}
use Rattle.labels.specs.Label.{variants_in}
use Rattle.slots.proofs.OnlyOne.{never, not_one}
use Rattle.singles.proofs.may_be_alone.Goals as goal

pub returns-then-fieldless_of-eq0 : goal.returns-then-fieldless_of-eq0
returns-then-fieldless_of-eq0 c = let a = c.args in
    λ _ u h. never a.sorts.now.sorts a.sorts.now.fieldless a.state.now a.x (sym c.fieldless_of.ensures ∙ c.if-fieldless_of-eq0.true) u

pub returns : goal.returns
returns c = let a = c.args in
    λ e u h. not_one a.sorts.now.sorts a.sorts.now.fieldless a.state.now a.x c.size.result u h
    (c.size.ensures ∙ ap (λ (m : ℕ). length (variants_in m)) c.label_of.ensures) (omega (arith, ltb-false c.size.result 2 e))
