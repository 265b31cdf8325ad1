-- `write_node` meets its contract: the number that falls is the total of the label sizes. Assumes nothing.
use mathlib.Core.Path.{sym, ◌∙◌}
use native.Mathlib.Omega.{arith}
use Rattle.passes.proofs.PassLaws.{steps_keep}
use Rattle.splits.specs.Choice.{first_by, split_by}
use Rattle.search.proofs.Decisions.{decision, is_child, is-decided, is-falls, isnt_child, isnt-falls, same-term, same_variant, state_fit, term-small, variant-small}
use Rattle.search.proofs.VisitLaws.{no_choice}
use Rattle.nodewriter.proofs.EntryBytes.{closing-bytes}
use Rattle.nodewriter.proofs.WriteLaws.{Looked, both_put, closed-node, entry_full, first_full, open_node}
use Rattle.nodewriter.proofs.+write_node.Goals as goal

-- ---- a closed node

pub returns-in-Some : goal.returns-in-Some
returns-in-Some t c =
    let a = c.args in
    let h = c.held.ensures in
    let s₁ = c.saturate_fully.new.state in
    let looked : Looked a.instance.now a.reads.now.slots a.state.now s₁ c.closing_of.result = record { saturated = c.saturate_fully.ensures; ready = state_fit s₁ h.held h.long h.small; names = c.closing_of.ensures } in
    closed-node looked c.in-Some.c c.in-Some.is (closing-bytes a.instance.now s₁ c.requires.few_lines c.in-Some.c c.in-Some.ensures c.numbers-reason.ensures) c.put.ensures

-- ---- an open node

pub returns-in_default-split : goal.returns-in_default-split
returns-in_default-split t c =
    let a = c.args in
    let h = c.held.ensures in
    let s₁ = c.saturate_fully.new.state in
    let looked : Looked a.instance.now a.reads.now.slots a.state.now s₁ c.closing_of.result = record { saturated = c.saturate_fully.ensures; ready = state_fit s₁ h.held h.long h.small; names = c.closing_of.ensures } in
    open_node looked c.in_default.is (no_choice (first_by a.reads.now.slots s₁) (split_by a.reads.now.slots a.instance.now.sorts.sorts a.instance.now.sorts.fieldless s₁) (sym c.in_default-split.is ∙ c.split.ensures)) a.out.now

-- ---- a split

pub returns-in_err-put : goal.returns-in_err-put
returns-in_err-put t c =
    let a = c.args in
    let h = c.held.ensures in
    let r = a.reads.now in
    let o = a.instance.now.sorts in
    let s₁ = c.saturate_fully.new.state in
    let looked : Looked a.instance.now r.slots a.state.now s₁ c.closing_of.result = record { saturated = c.saturate_fully.ensures; ready = state_fit s₁ h.held h.long h.small; names = c.closing_of.ensures } in
    let k = c.in-Some-split.d in
    let e = sym c.in-Some-split.is ∙ c.split.ensures in
    rw c.from_residual.ensures (entry_full looked c.in_default.is (decision r.slots o.sorts o.fieldless r.fit s₁ k e) (is-decided r.slots o.sorts o.fieldless r.fit s₁ k e) (same-term r.slots o.sorts o.fieldless r.fit s₁ k e) (same_variant r.slots o.sorts o.fieldless r.fit s₁ k e) c.in_err-put.ensures)

pub only-bit-requires : goal.only-bit-requires
only-bit-requires t c =
    let r = c.args.reads.now in
    let o = c.args.instance.now.sorts in
    variant-small r.slots o.sorts o.fieldless r.fit c.saturate_fully.new.state c.in-Some-split.d (sym c.in-Some-split.is ∙ c.split.ensures)

pub restrict-requires : goal.restrict-requires
restrict-requires t c =
    let r = c.args.reads.now in
    let o = c.args.instance.now.sorts in
    term-small r.slots o.sorts o.fieldless r.fit c.saturate_fully.new.state c.in-Some-split.d (sym c.in-Some-split.is ∙ c.split.ensures)

-- ---- the first child

pub write_node-requires : goal.write_node-requires
write_node-requires t c =
    let a = c.args in
    let h = c.held.ensures in
    let r = a.reads.now in
    let o = a.instance.now.sorts in
    let s₁ = c.saturate_fully.new.state in
    let k = c.in-Some-split.d in
    let e = sym c.in-Some-split.is ∙ c.split.ensures in (
      omega (arith, is-falls r.slots o.sorts o.fieldless r.fit s₁ k e a.state.now (steps_keep c.saturate_fully.ensures.steps) (state_fit s₁ h.held h.long h.small) c.restrict.new.self c.only-bit.result c.only-bit.ensures c.restrict.ensures.after, c.decreases),
      (c.requires.lines_fit, c.requires.few_lines),
    )

pub returns-in_err-write_node : goal.returns-in_err-write_node
returns-in_err-write_node t c =
    let a = c.args in
    let h = c.held.ensures in
    let r = a.reads.now in
    let o = a.instance.now.sorts in
    let s₁ = c.saturate_fully.new.state in
    let looked : Looked a.instance.now r.slots a.state.now s₁ c.closing_of.result = record { saturated = c.saturate_fully.ensures; ready = state_fit s₁ h.held h.long h.small; names = c.closing_of.ensures } in
    let k = c.in-Some-split.d in
    let e = sym c.in-Some-split.is ∙ c.split.ensures in
    rw c.from_residual-in_err-write_node.ensures (first_full looked c.in_default.is (decision r.slots o.sorts o.fieldless r.fit s₁ k e) (is-decided r.slots o.sorts o.fieldless r.fit s₁ k e) (same-term r.slots o.sorts o.fieldless r.fit s₁ k e) (same_variant r.slots o.sorts o.fieldless r.fit s₁ k e) c.in_ok-put.ensures
    (is_child r.slots o.sorts o.fieldless r.fit s₁ k e c.restrict.new.self c.only-bit.result c.only-bit.ensures c.restrict.ensures.after) c.in_err-write_node.ensures)

-- ---- the second child

pub restrict-requires-2 : goal.restrict-requires-2
restrict-requires-2 t c =
    let r = c.args.reads.now in
    let o = c.args.instance.now.sorts in
    term-small r.slots o.sorts o.fieldless r.fit c.saturate_fully.new.state c.in-Some-split.d (sym c.in-Some-split.is ∙ c.split.ensures)

pub write_node-requires-2 : goal.write_node-requires-2
write_node-requires-2 t c =
    let a = c.args in
    let h = c.held.ensures in
    let r = a.reads.now in
    let o = a.instance.now.sorts in
    let s₁ = c.saturate_fully.new.state in
    let k = c.in-Some-split.d in
    let e = sym c.in-Some-split.is ∙ c.split.ensures in (
      omega (arith, isnt-falls r.slots o.sorts o.fieldless r.fit s₁ k e a.state.now (steps_keep c.saturate_fully.ensures.steps) (state_fit s₁ h.held h.long h.small) c.restrict-2.new.self c.only-bit.result c.only-bit.ensures c.restrict-2.ensures.after, c.decreases),
      (c.requires.lines_fit, c.requires.few_lines),
    )

pub returns : goal.returns
returns t c =
    let a = c.args in
    let h = c.held.ensures in
    let r = a.reads.now in
    let o = a.instance.now.sorts in
    let s₁ = c.saturate_fully.new.state in
    let looked : Looked a.instance.now r.slots a.state.now s₁ c.closing_of.result = record { saturated = c.saturate_fully.ensures; ready = state_fit s₁ h.held h.long h.small; names = c.closing_of.ensures } in
    let k = c.in-Some-split.d in
    let e = sym c.in-Some-split.is ∙ c.split.ensures in
    both_put looked c.in_default.is (decision r.slots o.sorts o.fieldless r.fit s₁ k e) (is-decided r.slots o.sorts o.fieldless r.fit s₁ k e) (same-term r.slots o.sorts o.fieldless r.fit s₁ k e) (same_variant r.slots o.sorts o.fieldless r.fit s₁ k e) c.in_ok-put.ensures
    (is_child r.slots o.sorts o.fieldless r.fit s₁ k e c.restrict.new.self c.only-bit.result c.only-bit.ensures c.restrict.ensures.after) c.in_ok-write_node.ensures
    (isnt_child r.slots o.sorts o.fieldless r.fit s₁ k e c.restrict-2.new.self c.only-bit.result c.only-bit.ensures c.restrict-2.ensures.after) c.write_node-2.ensures
