-- Rows half written: those before r are put, where they aren't skipped. Assumes nothing.
use mathlib.Core.Path.{◌≡◌, ap, ◌∙◌}
use mathlib.Core.List.{List}
use Prim.Native.Nat.{ℕ, ◌+◌, ◌<◌}
use native.Mathlib.Omega.{arith}
use lib.ListN.{length, get_or}
use Rattle.std.specs.Prelude.{Option, Some, None}
use Rattle.guard.specs.Guard.{Row}
use Rattle.guard.specs.Types.{Types}
use Rattle.tables.specs.declared.RowTable.{RowTable}
use Rattle.tables.specs.declared.TypeTable.{TypeTable}
use Rattle.heldparts.specs.Held.{HoldsRows, HoldsTypes}
use Rattle.bytebuffer.specs.declared.Writer.{Writer}
use Rattle.bytebuffer.specs.Appends.{Appends}
use Rattle.bytebuffer.proofs.PutLaws.{same-bytes}
use Rattle.rowterms.specs.Rows.{PutsRow, up_to}
use Rattle.rowterms.proofs.LoopLaws.{loop_begin, loop_full, loop_next, loop_skip}
use Rattle.rowterms.proofs.RowLaws.{row_count}
use Rattle.rowwriter.specs.Kept.{PutsRows}
use Rattle.rowwriter.proofs.KeptLaws.{bytes_at, kept-bytes, put_at, skipped_at}

-- for all types and rows that the tables may hold
pub record Midway (types : TypeTable) (rows : RowTable) (names skipped : List ℕ) (w : Writer) (r : ℕ) (w' : Writer) : Type 0 where
  pub puts : (ts : Types) (rs : List Row) → HoldsTypes types ts → HoldsRows rows ts rs → Appends (up_to (bytes_at names skipped rs) r) w (Some tt) w'

module _ {types : TypeTable} {rows : RowTable} {names skipped : List ℕ} where
  pub begin : {w : Writer} → Midway types rows names skipped w 0 w
  begin {w} = record { puts = λ ts rs t s. loop_begin (bytes_at names skipped rs) w }

  module _ {w w' : Writer} {r : ℕ} (m : Midway types rows names skipped w r w') where
    -- all rows are put
    pub finish : r ≡ rows.many → PutsRows types rows names skipped w (Some tt) w'
    finish h =
        record {
          puts = λ ts rs t s. same-bytes (ap (up_to (bytes_at names skipped rs)) (let e : r ≡ length rs = omega (arith, row_count s) in e) ∙ kept-bytes names skipped rs) (m.puts ts rs t s);
        }

    -- row r is skipped
    pub pass : ¬ (get_or skipped r 0 ≡ 0) → Midway types rows names skipped w (r + 1) w'
    pass k = record { puts = λ ts rs t s. loop_skip (bytes_at names skipped rs) (m.puts ts rs t s) (skipped_at names skipped rs r k) }

    module _ (k : get_or skipped r 0 ≡ 0) {w'' : Writer} where
      row_put : {result : Option (Unit {0})} → PutsRow types rows names r w' result w'' → (ts : Types) (rs : List Row) → HoldsTypes types ts → HoldsRows rows ts rs → Appends (bytes_at names skipped rs r) w' result w''
      row_put p ts rs t s = same-bytes (put_at names skipped rs r k) (p.puts ts rs t s)

      -- it is put
      pub further : PutsRow types rows names r w' (Some tt) w'' → Midway types rows names skipped w (r + 1) w''
      further p = record { puts = λ ts rs t s. loop_next (bytes_at names skipped rs) (m.puts ts rs t s) (row_put p ts rs t s) }

      -- it doesn't fit
      pub too_long : r < rows.many → PutsRow types rows names r w' None w'' → PutsRows types rows names skipped w None w''
      too_long h p =
          record {
            puts = λ ts rs t s. same-bytes (kept-bytes names skipped rs) (loop_full (bytes_at names skipped rs) (m.puts ts rs t s) (row_put p ts rs t s) (length rs) (omega (arith, row_count s)));
          }

pub ruleset rows_laws = (begin, finish, pass, further, too_long)
