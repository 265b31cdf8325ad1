-- `visit` meets its contract: the number that falls is the total of the label sizes. Assumes nothing.
use mathlib.Core.Path.{◌∙◌, ap, sym}
use Prim.Native.Nat.{◌<◌}
use native.Mathlib.Omega.{arith}
use Rattle.passes.proofs.PassLaws.{steps_keep}
use Rattle.splits.specs.Choice.{first_by, split_by}
use Rattle.tallies.specs.Outcome.{kind_by, total}
use Rattle.search.proofs.Decisions.{decision, is_child, is-decided, is-falls, isnt_child, isnt-falls, same_kind, state_fit, term-small, variant-small}
use Rattle.tallies.proofs.OutcomeLaws.{split-less}
use Rattle.search.proofs.VisitLaws.{closed-node, first_ends, no_choice, nothing_left, open_node, second-ends}
use Rattle.search.proofs.+visit.Goals as goal

pub returns-then-tally-eq0-clause-searches : goal.returns-then-tally-eq0-clause-searches
returns-then-tally-eq0-clause-searches t c = let a = c.args in nothing_left a.instance.now a.reads.now.slots a.state.now a.state.now a.tally c.if-tally-eq0.true

pub returns-then-is_closed-clause-searches : goal.returns-then-is_closed-clause-searches
returns-then-is_closed-clause-searches t c =
    let a = c.args in
    let some_left : 0 < a.tally.left = omega (arith, c.if-tally-eq0.false) in
    closed-node a.instance.now a.reads.now.slots a.state.now c.saturate.new.state a.tally some_left c.saturate.ensures c.held.ensures.held (sym c.is_closed.ensures ∙ c.if-is_closed.true) c.with_leaf.result c.with_leaf.ensures

pub returns-in_default-clause-searches : goal.returns-in_default-clause-searches
returns-in_default-clause-searches t c =
    let a = c.args in
    let s₁ = c.saturate.new.state in
    let some_left : 0 < a.tally.left = omega (arith, c.if-tally-eq0.false) in
    open_node a.instance.now a.reads.now.slots a.state.now s₁ a.tally some_left c.saturate.ensures c.held.ensures.held (sym c.is_closed.ensures ∙ c.if-is_closed.false)
    (no_choice (first_by a.reads.now.slots s₁) (split_by a.reads.now.slots a.instance.now.sorts.sorts a.instance.now.sorts.fieldless s₁) (sym c.in_default.is ∙ c.split.ensures)) c.with_leaf-in_default.result c.with_leaf-in_default.ensures

pub only-bit-requires : goal.only-bit-requires
only-bit-requires t c =
    let a = c.args in
    variant-small a.reads.now.slots a.instance.now.sorts.sorts a.instance.now.sorts.fieldless a.reads.now.fit c.saturate.new.state c.in-Some.d (sym c.in-Some.is ∙ c.split.ensures)

pub restrict-requires : goal.restrict-requires
restrict-requires t c =
    let a = c.args in
    term-small a.reads.now.slots a.instance.now.sorts.sorts a.instance.now.sorts.fieldless a.reads.now.fit c.saturate.new.state c.in-Some.d (sym c.in-Some.is ∙ c.split.ensures)

pub visit-first-requires : goal.visit-first-requires
visit-first-requires t c =
    let a = c.args in
    let s₁ = c.saturate.new.state in
    let some_left : 0 < a.tally.left = omega (arith, c.if-tally-eq0.false) in
    let d = c.in-Some.d in
    let h = c.held.ensures in (
      omega (arith, is-falls a.reads.now.slots a.instance.now.sorts.sorts a.instance.now.sorts.fieldless a.reads.now.fit s₁ d (sym c.in-Some.is ∙ c.split.ensures) a.state.now (steps_keep c.saturate.ensures.steps) (state_fit s₁ h.held h.long h.small) c.restrict.new.self c.only-bit.result c.only-bit.ensures c.restrict.ensures.after, c.decreases),
      (c.requires.lines_fit, (c.requires.few_lines, omega (arith, split-less (kind_by d.first) a.tally c.with_split.result some_left c.with_split.ensures, c.requires.tally_bound))),
    )

pub returns-then-not-is_closed-clause-searches : goal.returns-then-not-is_closed-clause-searches
returns-then-not-is_closed-clause-searches t c =
    let a = c.args in
    let r = a.reads.now.slots in
    let o = a.instance.now.sorts in
    let s₁ = c.saturate.new.state in
    let some_left : 0 < a.tally.left = omega (arith, c.if-tally-eq0.false) in
    let live = sym c.is_closed.ensures ∙ c.if-is_closed.false in
    let d = c.in-Some.d in
    let e = sym c.in-Some.is ∙ c.split.ensures in
    let first = c.visit-first in
    first_ends a.instance.now r a.state.now s₁ a.tally some_left c.saturate.ensures c.held.ensures.held live (decision r o.sorts o.fieldless a.reads.now.fit s₁ d e) (is-decided r o.sorts o.fieldless a.reads.now.fit s₁ d e) d.first (same_kind r o.sorts o.fieldless a.reads.now.fit s₁ d e)
    c.with_split.result c.with_split.ensures first.result c.restrict.new.self first.new.state first.ensures.searches
    (is_child r o.sorts o.fieldless a.reads.now.fit s₁ d e c.restrict.new.self c.only-bit.result c.only-bit.ensures c.restrict.ensures.after) (sym c.is_closed-2.ensures ∙ c.if-not-is_closed.true)

pub restrict-requires-2 : goal.restrict-requires-2
restrict-requires-2 t c =
    let a = c.args in
    term-small a.reads.now.slots a.instance.now.sorts.sorts a.instance.now.sorts.fieldless a.reads.now.fit c.saturate.new.state c.in-Some.d (sym c.in-Some.is ∙ c.split.ensures)

pub visit-requires : goal.visit-requires
visit-requires t c =
    let a = c.args in
    let s₁ = c.saturate.new.state in
    let some_left : 0 < a.tally.left = omega (arith, c.if-tally-eq0.false) in
    let d = c.in-Some.d in
    let h = c.held.ensures in (
      omega (arith, isnt-falls a.reads.now.slots a.instance.now.sorts.sorts a.instance.now.sorts.fieldless a.reads.now.fit s₁ d (sym c.in-Some.is ∙ c.split.ensures) a.state.now (steps_keep c.saturate.ensures.steps) (state_fit s₁ h.held h.long h.small) c.restrict-2.new.self c.only-bit.result c.only-bit.ensures c.restrict-2.ensures.after, c.decreases),
      (c.requires.lines_fit, (c.requires.few_lines, omega (arith, ap total c.tally_of.ensures, c.visit-first.ensures.result_bound, split-less (kind_by d.first) a.tally c.with_split.result some_left c.with_split.ensures, c.requires.tally_bound))),
    )

pub returns-clause-searches : goal.returns-clause-searches
returns-clause-searches t c =
    let a = c.args in
    let r = a.reads.now.slots in
    let o = a.instance.now.sorts in
    let s₁ = c.saturate.new.state in
    let some_left : 0 < a.tally.left = omega (arith, c.if-tally-eq0.false) in
    let live = sym c.is_closed.ensures ∙ c.if-is_closed.false in
    let d = c.in-Some.d in
    let e = sym c.in-Some.is ∙ c.split.ensures in
    let first = c.visit-first in
    second-ends a.instance.now r a.state.now s₁ a.tally some_left c.saturate.ensures c.held.ensures.held live (decision r o.sorts o.fieldless a.reads.now.fit s₁ d e) (is-decided r o.sorts o.fieldless a.reads.now.fit s₁ d e) d.first (same_kind r o.sorts o.fieldless a.reads.now.fit s₁ d e)
    c.with_split.result c.with_split.ensures first.result c.restrict.new.self first.new.state first.ensures.searches
    (is_child r o.sorts o.fieldless a.reads.now.fit s₁ d e c.restrict.new.self c.only-bit.result c.only-bit.ensures c.restrict.ensures.after) (sym c.is_closed-2.ensures ∙ c.if-not-is_closed.false) c.tally_of.result c.tally_of.ensures
    c.visit.result c.restrict-2.new.self c.visit.new.state c.visit.ensures.searches
    (isnt_child r o.sorts o.fieldless a.reads.now.fit s₁ d e c.restrict-2.new.self c.only-bit.result c.only-bit.ensures c.restrict-2.ensures.after)
