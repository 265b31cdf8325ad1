-- `type_of` meets its contract. Assumes nothing.
use mathlib.Core.Path.{ap, ◌∙◌}
use mathlib.Core.List.{List}
use Prim.Native.Nat.{ℕ}
use Rattle.freerows.proofs.FreeLaws.{sort-some, type-read}
use Rattle.forms.specs.Forms.{types_in}
use Rattle.leaf.specs.Leaf.{open_state}
use Rattle.plans.specs.Chosen.{sort_in}
use Rattle.freerows.proofs.type_of.Goals as goal

pub overflow_sub-result : goal.overflow_sub-result
overflow_sub-result c = let a = c.args in
    sort-some (open_state (types_in a.forms.now) a.leaf.now) a.c c.requires c.sort_for.result (c.sort_for.ensures ∙ ap (λ (cs : List ℕ). sort_in cs a.leaf.now.sorts.sorts a.c) c.classes.ensures)

pub returns : goal.returns
returns c = let a = c.args in
    type-read (open_state (types_in a.forms.now) a.leaf.now) a.c c.sort_for.result (c.sort_for.ensures ∙ ap (λ (cs : List ℕ). sort_in cs a.leaf.now.sorts.sorts a.c) c.classes.ensures)
