-- `put_guard`: the types, then N and the rows, then L and all lines. Assumes nothing.
use Rattle.std.proofs.Common.{rules}
use mathlib.Core.Path.{◌∙◌}
use Rattle.std.specs.Prelude.{Some, None}
use Rattle.bytebuffer.proofs.PutLaws.{from_start, full_from_start}
use Rattle.mergewriter.proofs.MergedBytes.{in_parts}
use Rattle.mergewriter.proofs.ThreePuts.{all_put, first_full, second_full}
use Rattle.verdictcodes.specs.Codes.{with_more}
use Rattle.guardwriter.specs.GuardBytes.{PutsGuard}
use Rattle.guardwriter.proofs.AskedLaws.{types-held}
use Rattle.guardwriter.proofs.put_guard.Goals as goal

pub put_types-requires : goal.put_types-requires
put_types-requires c = record { ts = _; held = types-held c.requires.asked }

pub returns-in_err-put_types : goal.returns-in_err-put_types
returns-in_err-put_types c = let a = c.args in
    let new = c.new-writer.ensures in
    let typed = c.in_err-put_types.ensures in
    let k = c.requires in
    let p : PutsGuard a.types.now a.rows.now a.first.now a.second.now a.out.now None c.put_types.new.out.out.now =
    record { puts = λ g more b. full_from_start new.out new.at (first_full (in_parts (with_more g more)) (typed.puts g.types (types-held b))) } in
    let same = (typed.puts k.guard.types (types-held k.asked)).same ∙ new.same in
    rw c.from_residual.ensures (search (rules, p, same))

pub returns-in_err-put_rows : goal.returns-in_err-put_rows
returns-in_err-put_rows c = let a = c.args in
    let new = c.new-writer.ensures in
    let typed = c.in_ok-put_types.ensures in
    let rows = c.in_err-put_rows.ensures in
    let k = c.requires in
    let p : PutsGuard a.types.now a.rows.now a.first.now a.second.now a.out.now None c.put_rows.new.out.out.now =
    record { puts = λ g more b. full_from_start new.out new.at (second_full (in_parts (with_more g more)) (typed.puts g.types (types-held b)) (rows.puts g more b)) } in
    let same = (rows.puts k.guard k.more k.asked).same ∙ (typed.puts k.guard.types (types-held k.asked)).same ∙ new.same in
    rw c.from_residual-in_err-put_rows.ensures (search (rules, p, same))

pub returns-in_err-put_lines : goal.returns-in_err-put_lines
returns-in_err-put_lines c = let a = c.args in
    let new = c.new-writer.ensures in
    let typed = c.in_ok-put_types.ensures in
    let rows = c.in_ok-put_rows.ensures in
    let lines = c.in_err-put_lines.ensures in
    let k = c.requires in
    let p : PutsGuard a.types.now a.rows.now a.first.now a.second.now a.out.now None c.put_lines.new.out.out.now =
    record { puts = λ g more b. full_from_start new.out new.at (all_put (in_parts (with_more g more)) (typed.puts g.types (types-held b)) (rows.puts g more b) (lines.puts g more b)) } in
    let same = (lines.puts k.guard k.more k.asked).same ∙ (rows.puts k.guard k.more k.asked).same ∙ (typed.puts k.guard.types (types-held k.asked)).same ∙ new.same in
    rw c.from_residual-in_err-put_lines.ensures (search (rules, p, same))

pub returns : goal.returns
returns c = let a = c.args in
    let new = c.new-writer.ensures in
    let typed = c.in_ok-put_types.ensures in
    let rows = c.in_ok-put_rows.ensures in
    let lines = c.in_ok-put_lines.ensures in
    let k = c.requires in
    let w = c.put_lines.new.out in
    let p : PutsGuard a.types.now a.rows.now a.first.now a.second.now a.out.now (Some w.at) w.out.now =
    record { puts = λ g more b. from_start new.out new.at (all_put (in_parts (with_more g more)) (typed.puts g.types (types-held b)) (rows.puts g more b) (lines.puts g more b)) } in
    let same = (lines.puts k.guard k.more k.asked).same ∙ (rows.puts k.guard k.more k.asked).same ∙ (typed.puts k.guard.types (types-held k.asked)).same ∙ new.same in
    search (rules, p, same)
