-- `sort_entries` meets its contract: the siblings are copied. Assumes nothing.
use mathlib.Core.Path.{◌≡◌, ap, ◌∙◌}
use Prim.Native.Nat.{◌+◌, ◌-◌}
use native.Mathlib.Omega.{arith}
use Rattle.columns.specs.Entries.{filled}
use Rattle.columns.proofs.Filled.{filled_end, filled_next, filled_none}
use Rattle.sortcolumn.specs.Sorts.{sort_entry}
use Rattle.sortcolumn.proofs.SortLaws.{default_sort, row_sort, siblings_put, sorts_end}
use Rattle.sortcolumn.proofs.sort_entries.Goals as goal

pub loop-x-init : goal.loop-x-init
loop-x-init c = let s = c.args in filled_none 96 (sort_entry s.many s.count s.types.now s.siblings.now)

pub loop-x-preserved : goal.loop-x-preserved
loop-x-preserved c = let s = c.args in
    let l = c.loop-x in
    let e = row_sort s.many s.count s.types.now s.siblings.now l.x c.loop-x-test.true in
    let q : c.plus_one_if.result ≡ sort_entry s.many s.count s.types.now s.siblings.now l.x = cc in
    filled_next 96 _ l.x l.column _ (omega arith) l.invariant q

pub loop-t-init : goal.loop-t-init
loop-t-init c = let s = c.args in
    let rows = filled_end 96 (sort_entry s.many s.count s.types.now s.siblings.now) c.loop-x.x 24 c.loop-x.column (omega arith) (omega arith) c.loop-x.invariant in
    rw c.copy_from_slice.ensures.after (siblings_put s.many s.count s.types.now s.siblings.now c.loop-x.column c.told-siblings rows)

pub loop-t-preserved : goal.loop-t-preserved
loop-t-preserved c = let s = c.args in
    let l = c.loop-t in
    let e = default_sort s.many s.count s.types.now s.siblings.now (72 + l.t) (omega arith) in
    let n : (72 + l.t) + 1 ≡ 72 + (l.t + 1) = omega arith in
    let m : (72 + l.t) - 72 ≡ l.t = omega arith in
    let q : c.plus_one_if-in-loop-t.result ≡ sort_entry s.many s.count s.types.now s.siblings.now (72 + l.t) = cc in
    filled_next 96 _ (72 + l.t) l.column _ (omega arith) l.invariant q ∙ ap (filled 96 (sort_entry s.many s.count s.types.now s.siblings.now)) n

pub returns : goal.returns
returns c = let s = c.args in
    let all = filled_end 96 (sort_entry s.many s.count s.types.now s.siblings.now) (72 + c.loop-t.t) 78 c.loop-t.column (omega arith) (omega arith) c.loop-t.invariant in
    sorts_end s.many s.count s.types.now s.siblings.now c.loop-t.column all
