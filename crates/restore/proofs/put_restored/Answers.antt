-- `put_restored`: the types, the rows, and the rest as it stands. Assumes nothing.
use Rattle.std.proofs.Common.{rules}
use mathlib.Core.Path.{◌∙◌}
use Rattle.std.specs.Prelude.{Some, None}
use Rattle.bytebuffer.proofs.PutLaws.{and_then, from_start, full_from_start, still_full}
use Rattle.restore.specs.Restoring.{PutsRestored}
use Rattle.restore.proofs.TypeLaws.{holds}
use Rattle.restore.proofs.put_restored.Goals as goal

pub put_types-requires : goal.put_types-requires
put_types-requires c = record { ts = _; held = holds c.requires.taken }

pub returns-in_err-put_types : goal.returns-in_err-put_types
returns-in_err-put_types c = let a = c.args in
    let new = c.new-writer.ensures in
    let typed = c.in_err-put_types.ensures in
    let p : PutsRestored a.types.now a.rows.now a.rest.now a.out.now None c.put_types.new.out.out.now =
    record { puts = λ ts t. full_from_start new.out new.at (still_full _ (typed.puts ts (holds t))) } in
    let same = (typed.puts c.requires.ts (holds c.requires.taken)).same ∙ new.same in
    rw c.from_residual.ensures (search (rules, p, same))

pub returns-in_err-put : goal.returns-in_err-put
returns-in_err-put c = let a = c.args in
    let new = c.new-writer.ensures in
    let typed = c.in_ok-put_types.ensures in
    let rows = c.in_err-put.ensures in
    let p : PutsRestored a.types.now a.rows.now a.rest.now a.out.now None c.put.new.self.out.now =
    record { puts = λ ts t. full_from_start new.out new.at (and_then (typed.puts ts (holds t)) (still_full _ rows)) } in
    let same = rows.same ∙ (typed.puts c.requires.ts (holds c.requires.taken)).same ∙ new.same in
    rw c.from_residual-in_err-put.ensures (search (rules, p, same))

pub returns-in_err-put_bytes : goal.returns-in_err-put_bytes
returns-in_err-put_bytes c = let a = c.args in
    let new = c.new-writer.ensures in
    let typed = c.in_ok-put_types.ensures in
    let rows = c.in_ok-put.ensures in
    let rest = c.in_err-put_bytes.ensures in
    let p : PutsRestored a.types.now a.rows.now a.rest.now a.out.now None c.put_bytes.new.out.out.now =
    record { puts = λ ts t. full_from_start new.out new.at (and_then (typed.puts ts (holds t)) (and_then rows rest)) } in
    let same = rest.same ∙ rows.same ∙ (typed.puts c.requires.ts (holds c.requires.taken)).same ∙ new.same in
    rw c.from_residual-in_err-put_bytes.ensures (search (rules, p, same))

pub returns : goal.returns
returns c = let a = c.args in
    let new = c.new-writer.ensures in
    let typed = c.in_ok-put_types.ensures in
    let rows = c.in_ok-put.ensures in
    let rest = c.in_ok-put_bytes.ensures in
    let w = c.put_bytes.new.out in
    let p : PutsRestored a.types.now a.rows.now a.rest.now a.out.now (Some w.at) w.out.now =
    record { puts = λ ts t. from_start new.out new.at (and_then (typed.puts ts (holds t)) (and_then rows rest)) } in
    let same = rest.same ∙ rows.same ∙ (typed.puts c.requires.ts (holds c.requires.taken)).same ∙ new.same in
    search (rules, p, same)
