-- What the reads of restored rows and of what stands behind them say. Assumes nothing.
use mathlib.Core.Path.{◌≡◌, refl, ap, sym, subst, ◌∙◌}
use mathlib.Core.List.{List, []}
use Prim.Native.Nat.{ℕ, ◌≤◌, ◌<◌}
use native.Mathlib.Omega.{arith}
use lib.Dec.{ltb}
use lib.ListN.{drop, get_or, length, get_or-eq_default}
use borrow.Author.Tests.{ltb-false, ltb-true}
use Rattle.laws.proofs.Bools.{by_test}
use Rattle.guard.specs.File.{literal}
use Rattle.guard.specs.Guard.{Guard, Literal, Row, no_row, type_at, type_of}
use Rattle.guard.specs.Number.{Parsed.accepted, Parsed.refused, and_then, return}
use Rattle.guard.specs.Types.{Types}
use Rattle.guard.proofs.Accepted.{RowsFit, accepted-rows, row_type}
use Rattle.tables.specs.Layout.{literal_table, row_table, type_table, types_of}
use Rattle.tables.specs.declared.LiteralTable.{LiteralTable}
use Rattle.tables.specs.declared.RowTable.{RowTable}
use Rattle.tables.specs.declared.TypeTable.{TypeTable}
use Rattle.tables.proofs.Lookups.{row-type_anywhere, variants_at_lem}
use Rattle.numbers.specs.Reader.{Found}
use Rattle.numbers.proofs.Mapped.{mapped, mapped_refused}
use Rattle.rowreader.specs.RowReader.{counted_rows, table_with}
use Rattle.literalreader.specs.LiteralReader.{EachBelow, in_table, literal_by, literals_by}
use Rattle.literalreader.proofs.LiteralReaderLaws.{literals-are}
use Rattle.restore.specs.Restoring.{GuardRead, TypesTaken, after_rows, asked_of}
use Rattle.restore.proofs.TypeLaws.{few-variants, variant_fits_lem}

many-rows : (ts : Types) (rs : List Row) → (row_table ts rs).many ≡ length rs
unfolding row_table
many-rows ts rs = refl

module _ (rows rest : List ℕ) {table : TypeTable} {ts : Types} (k : TypesTaken table ts) where
  rows_lem : table_with (types_of table) (counted_rows 24 (types_of table)) rows ≡ table_with ts (counted_rows 24 ts) rows
  rows_lem = ap (λ (us : Types). table_with us (counted_rows 24 us) rows) k.back

  pub rows_stop : (q : ℕ) → table_with (types_of table) (counted_rows 24 (types_of table)) rows ≡ refused q → asked_of ts rows rest ≡ refused q
  rows_stop q e = ap (and_then (λ rs left. after_rows ts rs rest)) (mapped_refused (row_table ts) (counted_rows 24 ts rows) q (sym rows_lem ∙ e))

  module _ (t : RowTable) (next : ℕ) (read : Found (table_with (types_of table) (counted_rows 24 (types_of table)) rows) rows t next) where
    record RowsFound : Type 0 where
      rs : List Row
      parsed : counted_rows 24 ts rows ≡ accepted rs (drop next rows)
      is : row_table ts rs ≡ t

    found : RowsFound
    found = let (rs, parsed, is) = mapped (row_table ts) (counted_rows 24 ts rows) t (drop next rows) (sym rows_lem ∙ read.accepts) in record { rs = rs; parsed = parsed; is = is }

    abbrev rs : List Row
    rs = found.rs

    count-is : t.many ≡ length rs
    count-is = ap (λ (x : RowTable). x.many) (sym found.is) ∙ many-rows ts rs

    fit : (length rs ≤ 24) × RowsFit ts rs
    fit = accepted-rows ts k.many (few-variants k) (λ u v. (variant_fits_lem k u v).0) 24 (omega arith) rows rs (drop next rows) found.parsed

    pub few-rows : t.many ≤ 24
    few-rows = omega (arith, count-is, fit.0)

    pub types-there : EachBelow 6 t.types
    types-there i = subst (λ (k : ℕ). k < 6) (sym (ap (λ (x : RowTable). get_or x.types i 0) (sym found.is) ∙ row-type_anywhere ts rs i)) there
      where
        there : type_at ts rs i < 6
        there =
            by_test (ltb i (length rs)) (λ e. omega (arith, row_type ts (λ u v. (variant_fits_lem k u v).1) rs fit.1 i (ltb-true i (length rs) e), k.many))
            (λ e. omega (arith, ap (type_of ts) (get_or-eq_default rs no_row (ltb-false i (length rs) e))))

    -- by the tables' columns
    same : in_table (literals_by 32 (literal_by table.variants t.many t.types)) rest ≡ and_then (λ ls. return (literal_table ls)) (literals_by 32 (literal ts rs) rest)
    same =
        ap (λ (x : TypeTable). in_table (literals_by 32 (literal_by x.variants t.many t.types)) rest) k.are
        ∙ ap (λ (m : ℕ). in_table (literals_by 32 (literal_by (type_table ts).variants m t.types)) rest) count-is
        ∙ ap (λ (x : RowTable). in_table (literals_by 32 (literal_by (type_table ts).variants (length rs) x.types)) rest) (sym found.is)
        ∙ ap (and_then (λ ls. return (literal_table ls))) (literals-are ts rs (type_table ts).variants (row_table ts rs).types (variants_at_lem ts) (row-type_anywhere ts rs) 32 rest)

    asked_is : asked_of ts rows rest ≡ after_rows ts rs rest
    asked_is = ap (and_then (λ us left. after_rows ts us rest)) found.parsed

    abbrev guard : List Literal → Guard
    guard ls = record { types = ts; rows = rs; literals = ls }

    pub lines_stop : (q : ℕ) → in_table (literals_by 32 (literal_by table.variants t.many t.types)) rest ≡ refused q → asked_of ts rows rest ≡ refused q
    lines_stop q e = asked_is ∙ ap (and_then (λ ls. return (guard ls))) (mapped_refused literal_table (literals_by 32 (literal ts rs) rest) q (sym same ∙ e))

    pub lines-read : (l : LiteralTable) → in_table (literals_by 32 (literal_by table.variants t.many t.types)) rest ≡ accepted l [] → GuardRead ts rows rest
    lines-read l e =
        let (ls, parsed, is) = mapped literal_table (literals_by 32 (literal ts rs) rest) l [] (sym same ∙ e) in
        record { guard = guard ls; left = []; parsed = asked_is ∙ ap (and_then (λ ls. return (guard ls))) parsed }
