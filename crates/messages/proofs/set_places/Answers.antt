-- `set_places` meets its contract. Assumes nothing.
use mathlib.Core.Path.{◌∙◌, ap}
use Prim.Native.Nat.{ℕ, ◌-◌}
use native.Mathlib.Omega.{arith}
use lib.IntN.{pos}
use lib.ListN.{get_or}
use mir.Facts.{to_z_pos}
use mir.Syntax.{w32}
use Rattle.messages.proofs.PlaceLaws.{places_all, places_next, places_none}
use Rattle.messages.proofs.set_places.Goals as goal

pub loop-i-init : goal.loop-i-init
loop-i-init c = let a = c.args in places_none a.state.now.classes a.at.now a.places.now a.many

pub overflow_cast-i : goal.overflow_cast-i
overflow_cast-i c = record { fits = omega (arith, c.loop-i-test.true, c.requires.many_bound) }

pub overflow_cast-places : goal.overflow_cast-places
overflow_cast-places c = record { sfits = omega (arith, c.row_at.ensures, c.requires.at_low c.class_of.result) }

pub offset_bounds-places-i : goal.offset_bounds-places-i
offset_bounds-places-i c = record { fits = omega (arith, c.loop-i-test.true, c.requires.many_bound) }

pub bounds-places-i : goal.bounds-places-i
bounds-places-i c = omega (arith, c.loop-i-test.true, c.requires.many_bound, c.requires.many_in_bounds, c.loop-i.invariant.long)

pub loop-i-preserved : goal.loop-i-preserved
loop-i-preserved c = let a = c.args in
    let l = c.loop-i in places_next a.state.now.classes a.at.now a.places.now a.many l.i l.places _ c.loop-i-test.true (omega (arith, c.requires.many_bound, c.requires.many_in_bounds)) l.invariant
    (to_z_pos w32 {n = c.row_at.result} (omega (arith, c.row_at.ensures, c.requires.at_low c.class_of.result)) ∙ ap pos (c.row_at.ensures ∙ ap (λ (d : ℕ). get_or a.at.now d 0 - 1) c.class_of.ensures.value))

pub shape_of-places : goal.shape_of-places
shape_of-places c = c.loop-i.invariant.long

pub returns : goal.returns
returns c = let a = c.args in let l = c.loop-i in places_all a.state.now.classes a.at.now a.places.now a.many l.i l.places (omega (arith, c.loop-i-test.false)) l.invariant
