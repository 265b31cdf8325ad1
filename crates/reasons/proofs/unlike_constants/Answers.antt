-- `unlike_constants` meets its contract. Invariant: what is found is right for the slots so far. Assumes nothing.
use mathlib.Core.Path.{sym, ◌∙◌}
use native.Mathlib.Omega.{arith}
use Rattle.std.proofs.lemmas.Grind.{common_steps}
use Rattle.reasons.proofs.Constants.{unlike_lowest, unlike-none, unlike-same}
use Rattle.reasons.proofs.unlike_constants.Goals as goal
use Rattle.reasons.proofs.unlike_constants.Goals.{then-is_unlike_before, else-is_unlike_before}

pub loop-k-init : goal.loop-k-init
loop-k-init c = let a = c.args in unlike-none a.constants.now.sorts a.constants.now.values a.state.now.classes

pub loop-k-preserved : goal.loop-k-preserved
loop-k-preserved c = let l = c.loop-k in
    let a = c.args in
    elim c.if-is_unlike_before.branch [
      | then-is_unlike_before w ↦ let e = unlike_lowest a.constants.now.sorts a.constants.now.values a.state.now.classes l.k l.found l.invariant (sym c.is_unlike_before.ensures ∙ w.if-is_unlike_before.true) w.constant_class.result w.constant_class.ensures.value
          w.constant_class.ensures.there in grind (arith, common_steps, e, w.found-is)
      | else-is_unlike_before w ↦ w.found-is ∙ unlike-same a.constants.now.sorts a.constants.now.values a.state.now.classes l.k l.found l.invariant (sym c.is_unlike_before.ensures ∙ w.if-is_unlike_before.false)
    ]
