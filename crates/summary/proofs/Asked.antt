-- What the calls ask, by the tables that are read: the questions in their order, and the guard that the summary is made of. Assumes nothing.
use mathlib.Core.Path.{◌≡◌, ap, sym, ◌∙◌}
use mathlib.Core.Bool.{Bool, cond}
use mathlib.Core.List.{List, [], ◌∷◌}
use Prim.Native.Nat.{ℕ, ◌≤◌, ◌<◌}
use borrow.Author.Tests.{le-ltb, lt-ltb}
use Rattle.guard.specs.File.{file}
use Rattle.guard.specs.Guard.{Guard}
use Rattle.guard.specs.Limits.{base}
use Rattle.guard.specs.Number.{Parsed.accepted, Parsed.refused}
use Rattle.tables.specs.Layout.{literal_table}
use Rattle.tables.specs.declared.LiteralTable.{LiteralTable}
use Rattle.numbers.proofs.Mapped.{mapped, mapped_refused}
use Rattle.reader.specs.Reader.{guard_tables, in_tables}
use Rattle.reader.specs.declared.Tables.{Tables}
use Rattle.reader.proofs.TablesRead.{Taken, refused-file, taken-file}
use Rattle.verdictcodes.specs.Codes.{with_more}
use Rattle.summaries.specs.AddedLine.{added_line, asks_file, asks_line, then_line}
use Rattle.summaries.specs.InTables.{InTables, longer}
use Rattle.summaries.proofs.Lines.{Lengthened, file-formed, lengthened, line-formed}
use Rattle.addedline.specs.LineRead.{added_table}

module _ (bytes : List ℕ) (long : ℕ) where
  -- a shorter buffer is 1
  pub short : long < 48 → asks_file bytes long ≡ refused 1
  unfolding asks_file
  short h = ap (λ (b : Bool). cond b (refused 1) (file base bytes)) (lt-ltb long 48 h)

  pub short-line : (line : List ℕ) → long < 48 → asks_line bytes line long ≡ refused 1
  unfolding asks_line
  short-line line h = ap (then_line line) (short h)

  module _ (room : 48 ≤ long) where
    opened : asks_file bytes long ≡ file base bytes
    unfolding asks_file
    opened = ap (λ (b : Bool). cond b (refused 1) (file base bytes)) (le-ltb long 48 room)

    pub file-refused : (q : ℕ) → in_tables (file base) bytes ≡ refused q → asks_file bytes long ≡ refused q
    file-refused q e = opened ∙ refused-file base bytes q e

    pub line_unread : (line : List ℕ) (q : ℕ) → in_tables (file base) bytes ≡ refused q → asks_line bytes line long ≡ refused q
    unfolding asks_line
    line_unread line q e = ap (then_line line) (file-refused q e)

    module _ (t : Tables) (read : in_tables (file base) bytes ≡ accepted t []) where
      -- the guard of an accepted file
      pub record Asked : Type 0 where
        pub guard : Guard
        pub asks : asks_file bytes long ≡ accepted guard []
        pub held : InTables base t.types t.rows t.literals guard
        pub summarized : InTables longer t.types t.rows t.literals guard

      pub asked : Asked
      unfolding guard_tables
      asked =
          let k : Taken base bytes t = taken-file base bytes t read in
          let formed = file-formed bytes k.guard [] k.parsed in
          let types_of = ap (λ (x : Tables). x.types) k.is in
          let rows_of = ap (λ (x : Tables). x.rows) k.is in
          let lines_of = ap (λ (x : Tables). x.literals) k.is in
          record {
            guard = k.guard;
            asks = opened ∙ k.parsed;
            held = record { types_of = types_of; rows_of = rows_of; lines_of = lines_of; formed = formed.0; total = formed.1 };
            summarized = record { types_of = types_of; rows_of = rows_of; lines_of = lines_of; formed = lengthened k.guard formed.0; total = formed.1 };
          }

      -- ---- an added line

      module _ (k : Asked) (line : List ℕ) where
        at-line : asks_line bytes line long ≡ added_line k.guard line
        unfolding asks_line
        at-line = ap (then_line line) k.asks

        pub line_refused : (q : ℕ) → added_table k.guard line ≡ refused q → asks_line bytes line long ≡ refused q
        line_refused q e = at-line ∙ mapped_refused (λ (g : Guard). literal_table g.literals) (added_line k.guard line) q e

        pub record Added (lines : LiteralTable) : Type 0 where
          pub guard : Guard
          pub asks : asks_line bytes line long ≡ accepted guard []
          pub held : InTables longer t.types t.rows lines guard

        pub added : (lines : LiteralTable) → added_table k.guard line ≡ accepted lines [] → Added lines
        added lines e =
            let (g, parsed, is) = mapped (λ (g : Guard). literal_table g.literals) (added_line k.guard line) lines [] e in
            let more : Lengthened k.guard k.held.formed line g = line-formed k.guard k.held.formed line g [] parsed in
            record {
              guard = with_more k.guard (more.line_of ∷ []);
              asks = at-line ∙ parsed ∙ ap (λ (x : Guard). accepted x []) more.is;
              held =
                  record {
                    types_of = k.held.types_of;
                    rows_of = k.held.rows_of;
                    lines_of = sym is ∙ ap (λ (x : Guard). literal_table x.literals) more.is;
                    formed = more.formed;
                    total = k.held.total;
                  };
            }
