-- `enter_term` meets its contract. Assumes nothing.
use mathlib.Core.Path.{◌∙◌, ap, refl}
use mathlib.Core.Bool.{false}
use mathlib.Core.Logic.{inr}
use Prim.Native.Nat.{ℕ, ◌+◌}
use native.Mathlib.Omega.{arith}
use lib.ListN.{get_or}
use Rattle.labels.specs.Label.{variants_in}
use Rattle.slots.proofs.OnlyOne.{range_of}
use Rattle.singles.proofs.Singles.{begin-term, end_term, next_variant}
use Rattle.singles.proofs.enter_term.Goals as goal

pub returns-then-lowest-lt16-clause-advance : goal.returns-then-lowest-lt16-clause-advance
returns-then-lowest-lt16-clause-advance c = let a = c.args in
    let w = c.lowest-lowest.result in
    let low = c.lowest-lowest.ensures ∙ ap (λ (m : ℕ). get_or (variants_in m) 0 16) c.label_of.ensures in
    let range = range_of a.sorts.now.sorts a.sorts.now.fieldless a.state.now a.x w w (w + 1) low (inr ((λ q. omega (arith, q, c.if-lowest-lt16.true)), refl, refl)) in
    end_term _ _ _ _ a.x (w + 1) _ _ _ range.after (next_variant _ _ _ _ a.x w _ _ _ _ false _ (begin-term _ _ a.state.now a.seen.now a.x w range.before) c.enter.ensures.advance)

pub loop-v-init : goal.loop-v-init
loop-v-init c = record { entered = begin-term _ _ _ _ c.args.x 0 (λ u h. absurd (omega arith)); seen_fit = c.requires.seen_fit }

pub loop-v-preserved : goal.loop-v-preserved
loop-v-preserved c = let l = c.loop-v in
    let e = c.enter-changed in
    record { entered = next_variant _ _ _ _ c.args.x l.v _ _ _ _ _ _ l.invariant.entered e.ensures.advance; seen_fit = e.ensures.seen_fit_2 }

pub returns-clause-advance : goal.returns-clause-advance
returns-clause-advance c = let l = c.loop-v in
    end_term _ _ _ _ c.args.x l.v _ _ _ (λ u h k. absurd (omega (arith, h, k, c.loop-v-test.false))) l.invariant.entered
