-- `constant_row` meets its contract. Assumes nothing.
use mathlib.Core.Path.{ap, ◌∙◌}
use Prim.Native.Nat.{ℕ, ◌-◌}
use mir.Facts.{to_z-of_z}
use mir.Syntax.{w64}
use mir.Val.{of_z, to_z}
use Rattle.classrow.proofs.FixedLaws.{constant_drawn}
use Rattle.classrow.proofs.constant_row.Goals as goal

pub returns : goal.returns
returns c = let a = c.args in
    let z = c.value in
    let t = c.saturating_sub-t in
    let d = c.number_row in
    constant_drawn a.leaf.now a.k a.rows.now a.many t.result (to_z w64 (of_z w64 z.result)) d.result.row d.new.rows d.result.many (t.ensures ∙ ap (λ (n : ℕ). n - 1) c.sort.ensures) (to_z-of_z {w = w64} (record { sfits = z.type_inv }) ∙ z.ensures) d.ensures
