-- `read_branches` meets its contract. Assumes nothing.
use Rattle.std.proofs.Common.{◌≡◌, ◌∙◌, ap, arith, drop, []}
use lib.ListN.{length-drop, replicate}
use Rattle.guard.specs.Limits.{base}
use Rattle.guard.specs.Number.{Parsed.accepted}
use Rattle.tables.specs.declared.LiteralTable.{LiteralTable}
use Rattle.literalkinds.specs.OneLiteral.{literal_by}
use Rattle.literalreader.specs.LiteralReader.{lines_by}
use Rattle.branchreader.specs.declared.Branches.{Branches}
use Rattle.branchreader.proofs.BranchLaws.{all_read, at_the_end, none_yet, not_ended, one_more, tables_read}
use Rattle.branchreader.proofs.CountLaws.{count_few}
use Rattle.branchreader.proofs.read_branches.Goals as goal

pub loop-i-init : goal.loop-i-init
loop-i-init c = let a = c.args in
    let n = c.in_ok-n.n in
    none_yet (lines_by base.lines (literal_by a.counts.now a.rows a.types.now)) a.bytes.now n.value n.at c.in_ok-n.ensures.within
    (replicate 8 c.no_lines-none.result) (ap (λ (t : LiteralTable). replicate 8 t) c.no_lines-none.ensures)

pub loop-i-preserved : goal.loop-i-preserved
loop-i-preserved c = let a = c.args in
    let n = c.in_ok-n.n in
    let l = c.loop-i in
    one_more (lines_by base.lines (literal_by a.counts.now a.rows a.types.now)) a.bytes.now n.value n.at l.lines l.cursor l.i l.invariant (omega arith)
    (count_few (drop a.at a.bytes.now) n.value (drop n.at a.bytes.now) c.in_ok-n.ensures.accepts) c.in_ok-l.l.value c.in_ok-l.l.at c.in_ok-l.ensures

pub returns-then-cursor-bytes : goal.returns-then-cursor-bytes
returns-then-cursor-bytes c = let a = c.args in
    let n = c.in_ok-n.n in
    let l = c.loop-i in
    let one = lines_by base.lines (literal_by a.counts.now a.rows a.types.now) in
    not_ended one (drop a.at a.bytes.now) n.value (drop n.at a.bytes.now) c.in_ok-n.ensures.accepts l.invariant.branches (drop l.cursor a.bytes.now)
    (all_read one a.bytes.now n.value n.at l.lines l.cursor l.i l.invariant (omega arith)) (omega (arith, length-drop l.cursor a.bytes.now))

pub returns : goal.returns
returns c = let a = c.args in
    let n = c.in_ok-n.n in
    let l = c.loop-i in
    let one = lines_by base.lines (literal_by a.counts.now a.rows a.types.now) in
    let done : n.value ≡ l.i = omega arith in
    at_the_end one (drop a.at a.bytes.now) n.value (drop n.at a.bytes.now) c.in_ok-n.ensures.accepts l.invariant.branches (drop l.cursor a.bytes.now)
    (all_read one a.bytes.now n.value n.at l.lines l.cursor l.i l.invariant done) (omega (arith, length-drop l.cursor a.bytes.now))
    ∙ ap (λ (b : Branches). accepted b []) (tables_read one a.bytes.now n.value n.at l.lines l.cursor l.i l.invariant done)
