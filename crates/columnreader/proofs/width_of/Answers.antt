-- `width_of`: by the kind. Assumes nothing.
use mathlib.Core.Path.{ap, sym, ◌∙◌}
use Prim.Native.Nat.{ℕ, ◌+◌}
use native.Mathlib.Omega.{arith}
use Rattle.tables.specs.Layout.{types_of}
use Rattle.tables.proofs.Held.{fields-few}
use Rattle.columnreader.proofs.TypeLaws.{width-built, width_read}
use Rattle.columnreader.proofs.width_of.Goals as goal

pub overflow_add-result : goal.overflow_add-result
overflow_add-result c = record { fits = omega (arith, c.field_count.ensures, fields-few c.args.table c.requires c.args.second c.args.third) }

pub returns-then-kind-eq2 : goal.returns-then-kind-eq2
returns-then-kind-eq2 c = let a = c.args in
    ap (λ (k : ℕ). 3 + k) c.field_count.ensures ∙ sym (width-built (types_of a.table) a.kind a.second a.third c.if-kind-eq2.true)

pub returns : goal.returns
returns c = let a = c.args in
    sym (width_read (types_of a.table) a.kind a.second a.third c.if-kind-eq0.false c.if-kind-eq1.false c.if-kind-eq2.false)
