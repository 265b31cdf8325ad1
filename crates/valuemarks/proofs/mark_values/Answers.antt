-- `mark_values`: from the last row to the first. Assumes nothing.
use mathlib.Core.Logic.{◌⊎◌, inl, inr}
use mathlib.Core.Path.{◌≡◌, sym, subst, ◌∙◌}
use mathlib.Core.List.{List}
use Prim.Native.Nat.{ℕ, suc, ◌-◌, ◌≤◌, ◌<◌}
use native.Mathlib.Omega.{arith}
use lib.ListN.{get_or, length, set}
use Rattle.guard.specs.Guard.{Guard}
use Rattle.tables.specs.declared.RowTable.{RowTable}
use Rattle.tables.specs.declared.TypeTable.{TypeTable}
use Rattle.valuemarks.specs.Marks.{Listed, RowNumbers, until_lines}
use Rattle.valuemarks.proofs.Midway.{Midway, begin, finish, next-plain, next-value}
use Rattle.valuemarks.proofs.RowLaws.{kind-is}
use Rattle.valuemarks.proofs.mark_values.Invariants.{AllMidway}
use Rattle.valuemarks.proofs.mark_values.Goals as goal
use Rattle.valuemarks.proofs.mark_values.Goals.{then-rows-r-eq1, else-rows-r-eq1}

-- ---- one row

module _ {types : TypeTable} {rows : RowTable} {end at r : ℕ} {marks : List ℕ} (some : 0 < r) (h : r ≤ rows.many) (all : AllMidway types rows end at r marks) where
  module _ (g : Guard) (l : Listed types rows g) (e : end ≡ length (until_lines g)) where
    is-suc : r ≡ suc (r - 1)
    is-suc = omega arith

    in_rows : r - 1 < length g.rows
    in_rows = omega (arith, l.many)

    behind : Midway g at (suc (r - 1)) marks
    behind = subst (λ (k : ℕ). Midway g at k marks) is-suc (all g l e)

  -- the row is gone over, by whether it is a constant
  next : (n : ℕ) → RowNumbers types rows (r - 1) n → (marks' : List ℕ) → ((get_or rows.kinds (r - 1) 0 ≡ 1) × (marks' ≡ set marks (at - 1) 1)) ⊎ ((¬ (get_or rows.kinds (r - 1) 0 ≡ 1)) × (marks' ≡ marks))
      → AllMidway types rows end (at - n) (r - 1) marks'
  next n numbers marks' (inl came) g l e =
      subst (Midway g (at - n) (r - 1)) (sym came.1) (next-value g at (r - 1) marks (in_rows g l e) (behind g l e) n (numbers.is g l) (sym (kind-is l (r - 1) (omega arith)) ∙ came.0))
  next n numbers marks' (inr came) g l e =
      subst (Midway g (at - n) (r - 1)) (sym came.1) (next-plain g at (r - 1) marks (in_rows g l e) (behind g l e) n (numbers.is g l) (λ q. came.0 (kind-is l (r - 1) (omega arith) ∙ q)))

pub loop-r-init : goal.loop-r-init
loop-r-init c = λ g l e. subst (λ (k : ℕ). Midway g c.args.end k c.args.marks.now) (sym l.many) (begin g l.short c.args.end c.args.marks.now e c.requires.blank)

pub loop-r-preserved : goal.loop-r-preserved
loop-r-preserved c = let l = c.loop-r in
    let n = c.row_numbers-at in
    elim c.if-rows-r-eq1.branch [
      | then-rows-r-eq1 w ↦ next (omega arith) (omega arith) l.invariant n.result n.ensures c.if-rows-r-eq1.marks (inl (w.if-rows-r-eq1.true, w.marks-is))
      | else-rows-r-eq1 w ↦ next (omega arith) (omega arith) l.invariant n.result n.ensures c.if-rows-r-eq1.marks (inr (w.if-rows-r-eq1.false, w.marks-is))
    ]

pub returns : goal.returns
returns c = record { are = λ g l e. finish g l.short c.loop-r.at c.loop-r.marks (subst (λ (k : ℕ). Midway g c.loop-r.at k c.loop-r.marks) (let q : c.loop-r.r ≡ 0 = omega arith in q) (c.loop-r.invariant g l e)) }
