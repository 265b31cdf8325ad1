-- `after` meets its contract. Invariant: the type after the steps so far. Assumes nothing.
use mathlib.Core.Path.{◌≡◌, refl, ap, ◌∙◌}
use Prim.Native.Nat.{ℕ}
use native.Mathlib.Omega.{arith}
use lib.ListN.{get_or}
use Rattle.growth.proofs.Orbit.{iterate}
use Rattle.orbits.specs.Orbits.{on_to}
use Rattle.orbits.proofs.OrbitLaws.{at_next}
use Rattle.forms.proofs.FormLaws.{after_read, next_small, type-small}
use Rattle.forms.proofs.after.Goals as goal

pub loop-init : goal.loop-init
loop-init c = record {
  small = type-small c.args.forms c.requires.forms_fit c.args.t c.requires.t_in_bounds;
  reached = refl;
}

pub loop-preserved : goal.loop-preserved
loop-preserved c = let l = c.loop in
    let next = c.args.forms.growth.next in record {
      small = next_small c.args.forms c.requires.forms_fit l.u;
      reached = at_next next l.u (get_or next l.u 0) l.counter c.args.t refl l.invariant.reached;
    }

pub returns : goal.returns
returns c = let l = c.loop in
    let e : l.counter ≡ c.args.steps = omega arith in
    l.invariant.reached ∙ ap (λ (k : ℕ). iterate (on_to c.args.forms.growth.next) k c.args.t) e ∙ after_read c.args.forms c.requires.forms_fit c.args.steps c.args.t c.requires.t_in_bounds
