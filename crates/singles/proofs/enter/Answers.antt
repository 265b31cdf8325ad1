-- `enter` meets its contract. Assumes nothing.
use mathlib.Core.Path.{◌∙◌, sym}
use native.Mathlib.Omega.{arith}
use Rattle.singles.proofs.Singles.{found_earlier, found-equal, found_first, found_stale, not_of_it}
use Rattle.singles.proofs.enter.Goals as goal

pub returns-then-not-only_is-clause-advance : goal.returns-then-not-only_is-clause-advance
returns-then-not-only_is-clause-advance c = not_of_it _ _ _ _ _ _ (sym c.only_is.ensures ∙ c.if-not-only_is.true)

pub returns-then-y-clause-advance : goal.returns-then-y-clause-advance
returns-then-y-clause-advance c = let a = c.args in
    let r = c.requires in
    (found_first _ a.sorts.now.fieldless a.state.now _ _ _ r.x_bound.0 r.x_bound.1 r.seen_fit (a.sorts.now.fit.sort a.x) _ c.place-w.ensures.value c.if-y.true (sym c.only_is.ensures ∙ c.if-not-only_is.false)).0

pub only_is-requires-2 : goal.only_is-requires-2
only_is-requires-2 c = let a = c.args in
    let r = c.requires in
    (omega (arith, found_earlier _ a.sorts.now.fieldless a.state.now _ _ _ r.x_bound.0 r.x_bound.1 r.seen_fit (a.sorts.now.fit.sort a.x) _ c.place-w.ensures.value c.if-y.false, r.x_bound.0), r.x_bound.1)

pub returns-then-not-only_is-2-clause-advance : goal.returns-then-not-only_is-2-clause-advance
returns-then-not-only_is-2-clause-advance c = let a = c.args in
    let r = c.requires in
    found_stale _ _ _ _ _ _ r.x_bound.0 r.x_bound.1 r.seen_fit (a.sorts.now.fit.sort a.x) _ c.place-w.ensures.value c.if-y.false (sym c.only_is-2.ensures ∙ c.if-not-only_is-2.true)

pub unite-requires : goal.unite-requires
unite-requires c = let a = c.args in
    let r = c.requires in
    (omega (arith, found_earlier _ a.sorts.now.fieldless a.state.now _ _ _ r.x_bound.0 r.x_bound.1 r.seen_fit (a.sorts.now.fit.sort a.x) _ c.place-w.ensures.value c.if-y.false, r.x_bound.0), omega (arith, r.x_bound.0))

pub returns-clause-advance : goal.returns-clause-advance
returns-clause-advance c = let a = c.args in
    let r = c.requires in
    let u = c.unite.ensures in
    found-equal _ _ _ _ _ _ r.x_bound.0 r.x_bound.1 r.seen_fit (a.sorts.now.fit.sort a.x) _ c.place-w.ensures.value c.if-y.false (sym c.only_is.ensures ∙ c.if-not-only_is.false) (sym c.only_is-2.ensures ∙ c.if-not-only_is-2.false) _ _ u.after u.value
