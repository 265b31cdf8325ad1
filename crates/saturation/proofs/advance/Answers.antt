-- `advance` meets its contract. Assumes nothing.
use Rattle.std.proofs.lemmas.Result.{err_from_is_err_and}
use Rattle.saturation.proofs.Rounds.{by-defaults, by_reads, by-shapes, by_singles, by_stop}
use Rattle.saturation.proofs.advance.Goals as goal

pub returns-then-pass_defaults : goal.returns-then-pass_defaults
returns-then-pass_defaults g c = by-defaults _ _ _ _ _ c.pass_defaults.ensures c.if-pass_defaults.true

pub returns-in_err-changed : goal.returns-in_err-changed
returns-in_err-changed g c = let p = err_from_is_err_and c.from_residual.result c.from_residual.ensures.1 in
    let e = c.in_err-changed.ensures in
    rw (p.1, p.2) (by_stop _ _ _ _ {s₂ = c.pass_singles.new.state} _ c.pass_defaults.ensures c.if-pass_defaults.false e.0, e.1, e.2)

pub returns-then-changed : goal.returns-then-changed
returns-then-changed g c = by_singles _ _ _ _ _ c.pass_defaults.ensures c.if-pass_defaults.false _ c.in_ok-changed.ensures c.if-changed.true

pub returns-then-pass_shapes : goal.returns-then-pass_shapes
returns-then-pass_shapes g c = by-shapes _ _ _ _ _ c.pass_defaults.ensures c.if-pass_defaults.false _ c.in_ok-changed.ensures _ c.if-changed.false c.pass_shapes.ensures c.if-pass_shapes.true

pub returns : goal.returns
returns g c = by_reads _ _ _ _ _ c.pass_defaults.ensures c.if-pass_defaults.false _ c.in_ok-changed.ensures _ c.if-changed.false c.pass_shapes.ensures _ c.if-pass_shapes.false c.pass_reads.ensures
