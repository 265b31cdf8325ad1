-- `sink` meets its contract. Assumes nothing.
use mathlib.Core.Path.{◌∙◌, ap, refl, sym}
use Rattle.guard.specs.Closure.{class_of}
use Rattle.levels.proofs.LevelLaws.{at_bottom, below, no-parts, not_active, sunk}
use Rattle.levels.proofs.sink.Goals as goal

pub returns-then-many-eq0 : goal.returns-then-many-eq0
returns-then-many-eq0 c = let a = c.args in
    no-parts a.shapes.now.slots a.state.now a.k a.levels.now (sym c.many-many.ensures ∙ c.if-many-eq0.true)

pub returns-then-low-eq0 : goal.returns-then-low-eq0
returns-then-low-eq0 c = let a = c.args in
    let m = c.many-many in
    let f = c.lowest_part-low in
    at_bottom a.shapes.now.slots a.state.now a.k a.levels.now f.result m.result m.ensures f.ensures c.if-low-eq0.true

pub returns-then-levels-c : goal.returns-then-levels-c
returns-then-levels-c c = let a = c.args in
    let m = c.many-many in
    let f = c.lowest_part-low in
    let o = c.class_of-c in
    below a.shapes.now.slots a.state.now a.k a.levels.now f.result m.result m.ensures f.ensures o.result (o.ensures.value ∙ ap (class_of a.state.now) c.owner.ensures) c.if-levels-c.true

pub returns-then-not-active : goal.returns-then-not-active
returns-then-not-active c = let a = c.args in
    not_active a.shapes.now.slots a.state.now a.k a.levels.now (sym c.active.ensures ∙ c.if-not-active.true)

pub returns : goal.returns
returns c = let a = c.args in
    let m = c.many-many in
    let f = c.lowest_part-low in
    let o = c.class_of-c in
    sunk a.shapes.now.slots a.state.now a.k a.levels.now f.result m.result m.ensures f.ensures o.result (o.ensures.value ∙ ap (class_of a.state.now) c.owner.ensures)
    c.requires c.if-low-eq0.false c.if-levels-c.false (sym c.active.ensures ∙ c.if-not-active.false) _ refl
