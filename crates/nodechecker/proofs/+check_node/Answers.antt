-- `check_node` meets its contract: the number that falls is the total of the label sizes. Assumes nothing.
use mathlib.Core.Path.{sym, ◌∙◌}
use native.Mathlib.Omega.{arith}
use Rattle.std.proofs.lemmas.Result.{err_from_is_err_and}
use Rattle.search.proofs.Decisions.{state_fit}
use Rattle.nodechecker.proofs.Children.{is-falls, isnt-falls, split-term, split-variant}
use Rattle.nodechecker.proofs.CheckLaws.{closed, first-refused, no-entry, no-split, not_closed, record-ends, second-tells}
use Rattle.nodechecker.proofs.+check_node.Goals as goal

pub returns-then-bytes-at : goal.returns-then-bytes-at
returns-then-bytes-at t c = let a = c.args in record-ends a.instance.now a.reads.now.slots a.bytes.now a.at a.state.now c.if-bytes-at.true

pub returns-in_err-e : goal.returns-in_err-e
returns-in_err-e t c =
    let a = c.args in
    let p = err_from_is_err_and c.from_residual.result c.from_residual.ensures.1 in
    rw (p.1, p.2) (no-entry a.instance.now a.reads.now.slots a.bytes.now a.at a.state.now c.if-bytes-at.false _ c.in_err-e.ensures)

pub returns-then-not-closes : goal.returns-then-not-closes
returns-then-not-closes t c =
    let a = c.args in
    not_closed a.instance.now a.reads.now.slots a.bytes.now a.at a.state.now c.if-bytes-at.false c.saturate_fully.new.state c.saturate_fully.ensures c.held.ensures.held c.in-Closing.closing c.in_ok-e.e.at (rw c.in-Closing.is at c.in_ok-e.ensures) c.closes.result c.closes.ensures c.if-not-closes.true

pub returns-else-not-closes : goal.returns-else-not-closes
returns-else-not-closes t c =
    let a = c.args in
    closed a.instance.now a.reads.now.slots a.bytes.now a.at a.state.now c.if-bytes-at.false c.saturate_fully.new.state c.saturate_fully.ensures c.held.ensures.held c.in-Closing.closing c.in_ok-e.e.at (rw c.in-Closing.is at c.in_ok-e.ensures) c.closes.result c.closes.ensures c.if-not-closes.false

pub returns-then-not-splits : goal.returns-then-not-splits
returns-then-not-splits t c =
    let a = c.args in
    no-split a.instance.now a.reads.now.slots a.bytes.now a.at a.state.now c.if-bytes-at.false c.saturate_fully.new.state c.saturate_fully.ensures c.held.ensures.held c.in-Split.term c.in-Split.variant c.in_ok-e.e.at (rw c.in-Split.is at c.in_ok-e.ensures) (sym c.splits.ensures ∙ c.if-not-splits.true)

pub overflow_cast-x : goal.overflow_cast-x
overflow_cast-x t c = let y = split-term c.args.instance.now.sorts.sorts c.saturate_fully.new.state c.in-Split.term c.in-Split.variant (sym c.splits.ensures ∙ c.if-not-splits.false) in record { fits = omega arith }

pub only-bit-requires : goal.only-bit-requires
only-bit-requires t c = split-variant c.args.instance.now.sorts.sorts c.saturate_fully.new.state c.in-Split.term c.in-Split.variant (sym c.splits.ensures ∙ c.if-not-splits.false)

pub restrict-requires : goal.restrict-requires
restrict-requires t c = omega (arith, split-term c.args.instance.now.sorts.sorts c.saturate_fully.new.state c.in-Split.term c.in-Split.variant (sym c.splits.ensures ∙ c.if-not-splits.false))

pub check_node-requires : goal.check_node-requires
check_node-requires t c =
    let s₁ = c.saturate_fully.new.state in
    let h = c.held.ensures in (
      omega (arith, is-falls c.args.instance.now.sorts.sorts s₁ c.in-Split.term c.in-Split.variant (sym c.splits.ensures ∙ c.if-not-splits.false) c.args.state.now c.saturate_fully.ensures.steps (state_fit s₁ h.held h.long h.small) c.restrict.new.self c.only-bit.result c.only-bit.ensures c.restrict.ensures.after),
      (c.requires.lines_fit, c.requires.few_lines),
    )

pub returns-in_err-next-in-Split : goal.returns-in_err-next-in-Split
returns-in_err-next-in-Split t c =
    let a = c.args in
    let p = err_from_is_err_and c.from_residual-in_err-next-in-Split.result c.from_residual-in_err-next-in-Split.ensures.1 in
    rw (p.1, p.2) (first-refused a.instance.now a.reads.now.slots a.bytes.now a.at a.state.now c.if-bytes-at.false c.saturate_fully.new.state c.saturate_fully.ensures c.held.ensures.held c.in-Split.term c.in-Split.variant c.in_ok-e.e.at (rw c.in-Split.is at c.in_ok-e.ensures) (sym c.splits.ensures ∙ c.if-not-splits.false) c.only-bit.result c.only-bit.ensures c.restrict.new.self c.restrict.ensures.after _ c.in_err-next-in-Split.ensures)

pub restrict-requires-in-Split : goal.restrict-requires-in-Split
restrict-requires-in-Split t c = omega (arith, split-term c.args.instance.now.sorts.sorts c.saturate_fully.new.state c.in-Split.term c.in-Split.variant (sym c.splits.ensures ∙ c.if-not-splits.false))

pub check_node-requires-in-Split : goal.check_node-requires-in-Split
check_node-requires-in-Split t c =
    let s₁ = c.saturate_fully.new.state in
    let h = c.held.ensures in (
      omega (arith, isnt-falls c.args.instance.now.sorts.sorts s₁ c.in-Split.term c.in-Split.variant (sym c.splits.ensures ∙ c.if-not-splits.false) c.args.state.now c.saturate_fully.ensures.steps (state_fit s₁ h.held h.long h.small) c.restrict-in-Split.new.self c.only-bit.result c.only-bit.ensures c.restrict-in-Split.ensures.after),
      (c.requires.lines_fit, c.requires.few_lines),
    )

pub returns-in_ok-next-in-Split : goal.returns-in_ok-next-in-Split
returns-in_ok-next-in-Split t c =
    let a = c.args in
    second-tells a.instance.now a.reads.now.slots a.bytes.now a.at a.state.now c.if-bytes-at.false c.saturate_fully.new.state c.saturate_fully.ensures c.held.ensures.held c.in-Split.term c.in-Split.variant c.in_ok-e.e.at (rw c.in-Split.is at c.in_ok-e.ensures) (sym c.splits.ensures ∙ c.if-not-splits.false) c.only-bit.result c.only-bit.ensures c.restrict.new.self c.restrict.ensures.after c.in_ok-next-in-Split.next c.in_ok-next-in-Split.ensures
    c.check_node-in-Split.result c.restrict-in-Split.new.self c.check_node-in-Split.ensures c.restrict-in-Split.ensures.after
