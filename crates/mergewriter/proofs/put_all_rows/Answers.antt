-- `put_all_rows`: N, the first's rows, and those of the second that are written. Assumes nothing.
use mathlib.Core.Path.{◌≡◌, ap, ◌∙◌}
use mathlib.Core.List.{List, map}
use Prim.Native.Nat.{ℕ}
use lib.ListN.{replicate}
use Rattle.laws.specs.Lists.{from}
use Rattle.guard.specs.Guard.{Guard}
use Rattle.reader.specs.declared.Tables.{Tables}
use Rattle.std.specs.Prelude.{Option}
use Rattle.bytebuffer.specs.declared.Writer.{Writer}
use Rattle.bytebuffer.specs.Appends.{Appends}
use Rattle.bytebuffer.proofs.PutLaws.{same-bytes}
use Rattle.rowwriter.specs.Kept.{PutsRows}
use Rattle.rowterms.specs.Rows.{SomeRows}
use Rattle.merged.specs.Merge.{kept_rows, renamed_row}
use Rattle.mergewriter.specs.Merging.{BothOf, TablesOf}
use Rattle.mergewriter.proofs.Held.{names-are, rows-held, types-held}
use Rattle.mergewriter.proofs.MergedBytes.{all-rows, own_bytes, rows_bytes}
use Rattle.mergewriter.proofs.ThreePuts.{all_put, first_full, second_full}
use Rattle.mergewriter.proofs.put_all_rows.Goals as goal

-- the first's rows under their own numbers
own-put : {first second : Tables} {g h : Guard} (b : BothOf first second g h) {own : List ℕ} {w w' : Writer} {r : Option (Unit {0})} → own ≡ from 24 0
    → PutsRows first.types first.rows own (replicate 24 0) w r w' → Appends (rows_bytes g.rows) w r w'
own-put {g = g} b e p =
    same-bytes (ap (λ (own : List ℕ). rows_bytes (map (renamed_row own) (kept_rows (replicate 24 0) g.rows))) e ∙ own_bytes b) (p.puts g.types g.rows (types-held b.one) (rows-held b.one))

-- a guard's rows can be put
some-rows : {t : Tables} {g : Guard} → TablesOf t g → SomeRows t.types t.rows
some-rows k = record { ts = _; rs = _; holds-types = types-held k; holds_rows = rows-held k }

pub returns-in_err-put : goal.returns-in_err-put
returns-in_err-put c = rw c.from_residual.ensures (record { puts = λ g h b. first_full (all-rows b (names-are b c.requires.names) c.requires.rows) c.in_err-put.ensures })

pub put_rows-requires : goal.put_rows-requires
put_rows-requires c = some-rows c.requires.guards.both.one

pub returns-in_err-put_rows : goal.returns-in_err-put_rows
returns-in_err-put_rows c =
    rw c.from_residual-in_err-put_rows.ensures (record {
      puts = λ g h b. second_full (all-rows b (names-are b c.requires.names) c.requires.rows) c.in_ok-put.ensures (own-put b c.own_names-own.ensures c.in_err-put_rows.ensures);
    })

pub put_rows-requires-2 : goal.put_rows-requires-2
put_rows-requires-2 c = some-rows c.requires.guards.both.other

pub returns : goal.returns
returns c = record {
  puts = λ g h b. all_put (all-rows b (names-are b c.requires.names) c.requires.rows) c.in_ok-put.ensures (own-put b c.own_names-own.ensures c.in_ok-put_rows.ensures)
      (c.put_rows-2.ensures.puts h.types h.rows (types-held b.other) (rows-held b.other));
}
