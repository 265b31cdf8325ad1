-- `fill` meets its contract: the branches alone, which is with no lines before them, and then the pairs. Assumes nothing.
use mathlib.Core.List.{[]}
use native.Mathlib.Omega.{arith}
use Rattle.branchverdicts.proofs.Asking.{few}
use Rattle.branchverdicts.proofs.Filling.{filled, none-held, room_behind}
use Rattle.branchverdicts.proofs.fill.Goals as goal

pub put_with-next-requires : goal.put_with-next-requires
put_with-next-requires c = let s = c.args in
    let k = c.requires.taken in record {
      taken_with = record { procedure = k.procedure; holds = k.holds; literals = []; held = none-held k.procedure c.no_lines-none.result c.no_lines-none.ensures };
      from_le_many = omega arith;
      from_in_bounds = omega (arith, c.requires.in_bounds, few s.t k.procedure k.holds);
    }

pub put_pairs-requires : goal.put_pairs-requires
put_pairs-requires c = let s = c.args in
    let n = c.no_lines-none in
    record {
      taken = c.requires.taken;
      at_in_bounds = room_behind s.t s.budget n.result n.ensures c.put_with-next.ensures c.requires.taken c.requires.in_bounds;
    }

pub returns : goal.returns
returns c = let s = c.args in
    let n = c.no_lines-none in
    filled s.t s.budget n.result n.ensures c.put_with-next.ensures c.put_pairs.ensures c.requires.out_value
