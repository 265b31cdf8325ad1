-- `follow` meets its contract. Assumes nothing.
use mathlib.Core.Path.{◌∙◌, sym}
use Rattle.needed.proofs.Marking.{not_active, not_led}
use Rattle.needed.proofs.follow.Goals as goal

pub returns-then-not-active : goal.returns-then-not-active
returns-then-not-active c = let a = c.args in
    not_active a.shapes.now.slots a.state.now a.start a.k a.marks.now (sym c.active.ensures ∙ c.if-not-active.true)

pub returns-then-not-leads : goal.returns-then-not-leads
returns-then-not-leads c = let a = c.args in
    not_led a.shapes.now.slots a.state.now a.start a.k a.marks.now (rw (← c.owner.ensures) (c.leads.ensures.no c.if-not-leads.true))

pub mark_parts-requires : goal.mark_parts-requires
mark_parts-requires c =
    record {
      k_bound = c.requires;
      k_value = sym c.active.ensures ∙ c.if-not-active.false;
      leads = rw (← c.owner.ensures) (c.leads.ensures.yes c.if-not-leads.false);
    }
