-- `mark_parts` meets its contract. Invariant: the parts so far are passed. Assumes nothing.
use mathlib.Core.Path.{◌∙◌, ap}
use mathlib.Core.Bool.{not}
use Prim.Native.Nat.{ℕ}
use lib.Dec.{eqb}
use lib.ListN.{get_or, set}
use native.Mathlib.Omega.{arith}
use Rattle.needed.specs.Needed.{PartMarked, own_class}
use Rattle.needed.proofs.Marking.{none_yet, one_more, part_pass, still_leads}
use Rattle.needed.proofs.mark_parts.Goals as goal

pub loop-p-init : goal.loop-p-init
loop-p-init c = let a = c.args in
    let s = a.state.now in
    none_yet a.shapes.now.slots s a.start (PartMarked a.shapes.now.slots s a.k) a.marks.now

pub loop-p-preserved : goal.loop-p-preserved
loop-p-preserved c = let a = c.args in
    let l = c.loop-p in
    let s = a.state.now in
    let m = c.mark-changed in
    let part = c.part.ensures in
    one_more a.shapes.now.slots s a.start (PartMarked a.shapes.now.slots s a.k) l.p l.changed m.result l.invariant
    (part_pass a.shapes.now.slots s a.start a.k l.p l.marks m.new.marks m.result c.requires.k_bound (omega (arith, c.many-many.ensures)) c.requires.k_value
    (still_leads a.shapes.now.slots s a.start l.invariant.steps (own_class a.shapes.now.slots s a.k) c.requires.leads)
    (m.ensures.value ∙ ap (λ (x : ℕ). not (eqb (get_or l.marks (get_or a.state.now.classes x 0) 0) 0)) part)
    (m.ensures.marks_after ∙ ap (λ (x : ℕ). set l.marks (get_or a.state.now.classes x 0) 0) part))
