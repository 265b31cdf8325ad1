-- `put_merged`: the types, then all rows, then all lines. Assumes nothing.
use Rattle.std.proofs.Common.{rules}
use mathlib.Core.Path.{◌∙◌}
use Rattle.std.specs.Prelude.{Option, Some, None}
use Rattle.guard.specs.Guard.{Guard}
use Rattle.reader.specs.declared.Tables.{Tables}
use Rattle.bytebuffer.specs.declared.Writer.{Writer}
use Rattle.bytebuffer.specs.Appends.{Appends}
use Rattle.bytebuffer.proofs.PutLaws.{from_start, full_from_start, same-bytes}
use Rattle.typewriter.specs.TypeBytes.{PutsTypes}
use Rattle.merged.specs.Merge.{merged, type_part}
use Rattle.mergewriter.specs.Merging.{BothOf, PutsMerged}
use Rattle.mergewriter.proofs.Held.{types-held}
use Rattle.mergewriter.proofs.MergedBytes.{in_parts, merged-types}
use Rattle.mergewriter.proofs.ThreePuts.{all_put, first_full, second_full}
use Rattle.mergewriter.proofs.put_merged.Goals as goal

-- the first's types are the merged guard's
types-put : {first second : Tables} {g h : Guard} (b : BothOf first second g h) {w w' : Writer} {r : Option (Unit {0})} → PutsTypes first.types w r w' → Appends (type_part (merged g h).types) w r w'
types-put {g = g} {h = h} b p = same-bytes (merged-types g h) (p.puts g.types (types-held b.one))

pub put_types-requires : goal.put_types-requires
put_types-requires c = record { ts = _; held = types-held c.requires.guards.both.one }

pub returns-in_err-put_types : goal.returns-in_err-put_types
returns-in_err-put_types c = let a = c.args in
    let new = c.new-writer.ensures in
    let typed = c.in_err-put_types.ensures in
    let p : PutsMerged a.first.now a.second.now a.out.now None c.put_types.new.out.out.now =
    record { puts = λ g h b. full_from_start new.out new.at (first_full (in_parts (merged g h)) (types-put b typed)) } in
    let same = (types-put c.requires.guards.both typed).same ∙ new.same in
    rw c.from_residual.ensures (search (rules, p, same))

pub returns-in_err-put_all_rows : goal.returns-in_err-put_all_rows
returns-in_err-put_all_rows c = let a = c.args in
    let new = c.new-writer.ensures in
    let typed = c.in_ok-put_types.ensures in
    let rows = c.in_err-put_all_rows.ensures in
    let m = c.requires.guards in
    let p : PutsMerged a.first.now a.second.now a.out.now None c.put_all_rows.new.out.out.now =
    record { puts = λ g h b. full_from_start new.out new.at (second_full (in_parts (merged g h)) (types-put b typed) (rows.puts g h b)) } in
    let same = (rows.puts m.one m.other m.both).same ∙ (types-put m.both typed).same ∙ new.same in
    rw c.from_residual-in_err-put_all_rows.ensures (search (rules, p, same))

pub returns-in_err-put_all_literals : goal.returns-in_err-put_all_literals
returns-in_err-put_all_literals c = let a = c.args in
    let new = c.new-writer.ensures in
    let typed = c.in_ok-put_types.ensures in
    let rows = c.in_ok-put_all_rows.ensures in
    let lines = c.in_err-put_all_literals.ensures in
    let m = c.requires.guards in
    let p : PutsMerged a.first.now a.second.now a.out.now None c.put_all_literals.new.out.out.now =
    record { puts = λ g h b. full_from_start new.out new.at (all_put (in_parts (merged g h)) (types-put b typed) (rows.puts g h b) (lines.puts g h b)) } in
    let same = (lines.puts m.one m.other m.both).same ∙ (rows.puts m.one m.other m.both).same ∙ (types-put m.both typed).same ∙ new.same in
    rw c.from_residual-in_err-put_all_literals.ensures (search (rules, p, same))

pub returns : goal.returns
returns c = let a = c.args in
    let new = c.new-writer.ensures in
    let typed = c.in_ok-put_types.ensures in
    let rows = c.in_ok-put_all_rows.ensures in
    let lines = c.in_ok-put_all_literals.ensures in
    let m = c.requires.guards in
    let w = c.put_all_literals.new.out in
    let p : PutsMerged a.first.now a.second.now a.out.now (Some w.at) w.out.now =
    record { puts = λ g h b. from_start new.out new.at (all_put (in_parts (merged g h)) (types-put b typed) (rows.puts g h b) (lines.puts g h b)) } in
    let same = (lines.puts m.one m.other m.both).same ∙ (rows.puts m.one m.other m.both).same ∙ (types-put m.both typed).same ∙ new.same in
    search (rules, p, same)
