-- `fill` meets its contract. Invariant: the rows so far stand in front of what was there. Assumes nothing.
use mathlib.Core.Path.{◌≡◌, refl, ap, ◌∙◌}
use Prim.Native.Nat.{◌+◌, ◌*◌}
use native.Mathlib.Omega.{arith}
use lib.ListN.{length-set, set}
use Rattle.summaries.specs.Summary.{possible_by, settled_by, variant_count}
use Rattle.variantmasks.proofs.FillLaws.{all-rows, partly, row_next, row-numbers}
use Rattle.variantmasks.proofs.fill.Goals as goal

pub loop-i-init : goal.loop-i-init
loop-i-init c = record { long = refl; so_far = λ g held. refl }

pub bounds-summary-k : goal.bounds-summary-k
bounds-summary-k c = omega (arith, c.loop-i.invariant.long, c.requires.summary_length_in_bounds)

pub bounds-summary-k-in-loop-i : goal.bounds-summary-k-in-loop-i
bounds-summary-k-in-loop-i c = omega (arith, c.loop-i.invariant.long, c.requires.summary_length_in_bounds)

pub bounds-summary-k-in-loop-i-2 : goal.bounds-summary-k-in-loop-i-2
bounds-summary-k-in-loop-i-2 c = omega (arith, c.loop-i.invariant.long, c.requires.summary_length_in_bounds)

pub bounds-summary-k-in-loop-i-3 : goal.bounds-summary-k-in-loop-i-3
bounds-summary-k-in-loop-i-3 c = let l = c.loop-i in
    omega (arith, length-set l.summary (2 * l.i) c.row_masks-m.result.settled, l.invariant.long, c.requires.summary_length_in_bounds)

pub loop-i-preserved : goal.loop-i-preserved
loop-i-preserved c = let l = c.loop-i in
    let a = c.args in
    let m = c.row_masks-m in
    let old = c.choose-old.ensures in record {
      long = length-set (set l.summary (2 * l.i) m.result.settled) (2 * l.i + 1) m.result.possible ∙ length-set l.summary (2 * l.i) m.result.settled ∙ l.invariant.long;
      so_far = λ g held.
          let so = l.invariant.so_far g held in
          row_next a.budget a.anew a.summary.now g l.summary l.i so m.result.settled m.result.possible (omega (arith, l.invariant.long, c.requires.summary_length_in_bounds))
          ((m.ensures.are g held).0 ∙ row-numbers a.budget a.anew a.summary.now g l.summary l.i so (λ f. settled_by f (variant_count g l.i)) _ old)
          ((m.ensures.are g held).1 ∙ row-numbers a.budget a.anew a.summary.now g l.summary l.i so (λ f. possible_by f (variant_count g l.i)) _ old);
    }

pub shape_of-summary : goal.shape_of-summary
shape_of-summary c = c.loop-i.invariant.long

pub returns : goal.returns
returns c = let a = c.args in
    let l = c.loop-i in
    let last : l.i ≡ 24 = omega arith in
    record { fills = λ g held. l.invariant.so_far g held ∙ ap (partly a.budget a.anew a.summary.now g) last ∙ all-rows a.budget a.anew a.summary.now g }
