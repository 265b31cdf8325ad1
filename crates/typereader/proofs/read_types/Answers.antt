-- Type after type: what is left to read, after those that are read, is the whole, and the columns hold them. Assumes nothing.
use Rattle.std.proofs.lemmas.Grind.{common_steps}
use native.Mathlib.Numerals.{add-one}
use native.Mathlib.Omega.{arith}
use Rattle.typereader.proofs.Readers.{part-done, part-few, part_stop, part_stop_types, type-small, types-begin, types-next_turn}
use Rattle.typereader.proofs.read_types.Goals as goal

pub returns-in_err-n : goal.returns-in_err-n
returns-in_err-n c = let e = part_stop c.args.bytes.now c.args.limit _ (add-one _) _ c.in_err-n.ensures in
    grind (arith, common_steps)

pub loop-t-init : goal.loop-t-init
loop-t-init c = record {
  few = omega (arith, part-few c.args.bytes.now c.args.limit _ (add-one _) _ _ c.in_ok-n.ensures);
  room = omega arith;
  some = types-begin _ _ _ c.in_ok-n.ensures.within;
}

pub returns-in_err-one : goal.returns-in_err-one
returns-in_err-one c = let l = c.loop-t in
    let e = part_stop_types c.args.bytes.now c.args.limit _ (add-one _) c.in_ok-n.n.value c.in_ok-n.n.at c.in_ok-n.ensures
    l.t l.at l.total l.variants l.first l.arities l.sorts l.invariant.some c.loop-t-test.true _ c.in_err-one.ensures.reads in
    grind (arith, common_steps)

pub overflow_cast-variants : goal.overflow_cast-variants
overflow_cast-variants c = let l = c.loop-t in
    let s = type-small c.args.bytes.now c.in_ok-n.n.at c.in_ok-n.n.value l.t l.at l.total l.variants l.first l.arities l.sorts l.invariant.some _ _ c.in_ok-one.ensures.reads in
    omega (arith, s.0)

pub overflow_add-total : goal.overflow_add-total
overflow_add-total c = let l = c.loop-t in
    let s = type-small c.args.bytes.now c.in_ok-n.n.at c.in_ok-n.n.value l.t l.at l.total l.variants l.first l.arities l.sorts l.invariant.some _ _ c.in_ok-one.ensures.reads in
    omega (arith, s.1)

pub loop-t-preserved : goal.loop-t-preserved
loop-t-preserved c = let l = c.loop-t in
    record {
      few = l.invariant.few;
      room = (type-small _ _ _ l.t l.at l.total l.variants l.first l.arities l.sorts l.invariant.some _ _ c.in_ok-one.ensures.reads).1;
      some = types-next_turn _ _ _ l.t l.at l.total l.variants l.first l.arities l.sorts l.invariant.some _ _ c.in_ok-one.ensures.reads
          c.loop-t-test.true l.invariant.few _ _ c.in_ok-one.ensures.stores;
    }

pub returns : goal.returns
returns c = let l = c.loop-t in
    part-done _ _ _ (add-one _) _ _ c.in_ok-n.ensures l.t l.at l.total l.variants l.first l.arities l.sorts l.invariant.some (omega arith) (omega arith)
