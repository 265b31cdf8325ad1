-- The added line by columns is that of document 01, and behind the guard's own in the table; no question has number 0. Assumes nothing.
use mathlib.Core.Path.{◌≡◌, refl, ap, sym, ◌∙◌}
use mathlib.Core.Bool.{Bool, true, false}
use mathlib.Core.List.{List, [], ◌∷◌, ◌++◌}
use Prim.Native.Nat.{ℕ, ◌+◌, ◌≤◌, ◌<◌}
use native.Mathlib.Omega.{arith}
use lib.Dec.{ltb}
use lib.ListN.{length, get_or, length-append, set, get_or-eq_default}
use borrow.Author.Tests.{le-ltb, lt-ltb, ltb-false, ltb-true}
use Rattle.guard.specs.File.{bytes, literal}
use Rattle.guard.specs.Grammar.{ended}
use Rattle.guard.specs.Guard.{Guard, Literal, Row, no_row, type_at, type_of}
use Rattle.guard.specs.Limits.{base}
use Rattle.guard.specs.Number.{Parsed, Parsed.accepted, Parsed.refused, Parser, ◌>>=◌, ◌>>◌, and_then, ask, return, value_width}
use Rattle.guard.specs.Types.{Types}
use Rattle.guard.proofs.Accepted.{row_type}
use Rattle.guard.proofs.Refusals.{asks_asked, asks_bind, asks_ended, asks_literal, asks_return}
use Rattle.numbers.proofs.NumberLaws.{question_of_lem, unsigned-question}
use Rattle.tables.specs.Layout.{literal_kind, literal_other, literal_table, literal_term, row_table, type_table}
use Rattle.tables.specs.declared.LiteralTable.{LiteralTable}
use Rattle.tables.specs.declared.RowTable.{RowTable}
use Rattle.tables.specs.declared.TypeTable.{TypeTable}
use Rattle.tables.proofs.Columns.{column-set}
use Rattle.tables.proofs.Lookups.{row-type_anywhere, variants_at_lem}
use Rattle.literalkinds.specs.OneLiteral.{EachBelow, literal_by, literal_in}
use Rattle.literalkinds.specs.declared.Literal as row
use Rattle.literalreader.proofs.LiteralLaws.{kind-in, other-in, term-in}
use Rattle.literalreader.proofs.LiteralReaderLaws.{literal-is}
use Rattle.verdictcodes.specs.Codes.{with_more}
use Rattle.summaries.specs.AddedLine.{added_line}
use Rattle.summaries.specs.InTables.{InTables}
use Rattle.addedline.specs.LineRead.{added_table}

module _ {types : TypeTable} {rows : RowTable} {lines : LiteralTable} (g : Guard) (held : InTables base types rows lines g) (line : List ℕ) where
  pub many-lines : lines.many ≡ length g.literals
  unfolding literal_table
  many-lines = ap (λ (t : LiteralTable). t.many) held.lines_of

  pub many-rows : rows.many ≡ length g.rows
  unfolding row_table
  many-rows = ap (λ (t : RowTable). t.many) held.rows_of

  abbrev ts : Types
  ts = g.types

  abbrev rs : List Row
  rs = g.rows

  -- what the reader of a line asks of the columns
  pub few-rows : rows.many ≤ 24
  few-rows = omega (arith, many-rows, held.formed.term_count)

  pub few-variants : EachBelow 17 types.variants
  few-variants t = omega (arith, ap (λ (x : TypeTable). get_or x.variants t 0) held.types_of, variants_at_lem ts t, held.formed.variant_counts t)

  pub types-there : EachBelow 6 rows.types
  types-there i = omega (arith, ap (λ (x : RowTable). get_or x.types i 0) held.rows_of, row-type_anywhere ts rs i, below (ltb i (length rs)) refl)
    where
      below : (b : Bool) → ltb i (length rs) ≡ b → type_at ts rs i < 6
      below true e = omega (arith, row_type ts held.formed.field_types rs held.formed.rows i (ltb-true i (length rs) e), held.formed.type_count)
      below false e = omega (arith, ap (type_of ts) (get_or-eq_default rs no_row (ltb-false i (length rs) e)))

  -- "a thirty-third line gets 4"
  pub full : 32 ≤ lines.many → added_table g line ≡ refused 4
  full h = ap (λ (b : Bool). and_then (λ x. return (literal_table x.literals)) ((ask 4 b >> next) line)) (le-ltb (length g.literals) 32 (omega (arith, many-lines)))
    where
      next : Parser Guard
      next = literal g.types g.rows >>= λ l. ended >> return (with_more g (l ∷ []))

  -- the line by columns is that of document 01
  same : literal_by types.variants rows.many rows.types line ≡ literal ts rs line
  same =
      ap (λ (t : TypeTable). literal_by t.variants rows.many rows.types line) held.types_of
      ∙ ap (λ (t : RowTable). literal_by (type_table ts).variants rows.many t.types line) held.rows_of
      ∙ ap (λ (n : ℕ). literal_by (type_table ts).variants n (row_table ts rs).types line) many-rows
      ∙ literal-is ts rs (type_table ts).variants (row_table ts rs).types (variants_at_lem ts) (row-type_anywhere ts rs) line

  module _ (room : lines.many < 32) where
    abbrev behind : Literal → Parser LiteralTable
    behind l bs = and_then (λ x. return (literal_table x.literals)) ((ended >> return (with_more g (l ∷ []))) bs)

    opened : added_table g line ≡ and_then behind (literal_by types.variants rows.many rows.types line)
    opened =
        ap (λ (b : Bool). and_then (λ x. return (literal_table x.literals)) ((ask 4 b >> next) line)) (lt-ltb (length g.literals) 32 (omega (arith, many-lines)))
        ∙ go (literal ts rs line)
        ∙ ap (and_then behind) (sym same)
      where
        next : Parser Guard
        next = literal g.types g.rows >>= λ l. ended >> return (with_more g (l ∷ []))

        go : (r : Parsed Literal) → and_then (λ x. return (literal_table x.literals)) (and_then (λ l. ended >> return (with_more g (l ∷ []))) r) ≡ and_then behind r
        go (refused q) = refl
        go (accepted l rest) = refl

    pub line_refuses : (q : ℕ) → literal_by types.variants rows.many rows.types line ≡ refused q → added_table g line ≡ refused q
    line_refuses q e = opened ∙ ap (and_then behind) e

    -- "10 included"
    pub not_ended : (l : Literal) (rest : List ℕ) → literal_by types.variants rows.many rows.types line ≡ accepted l rest → 0 < length rest → added_table g line ≡ refused 10
    not_ended l rest e h = opened ∙ ap (and_then behind) e ∙ go rest h
      where
        go : (bs : List ℕ) → 0 < length bs → behind l bs ≡ refused 10
        go [] h = absurd (omega arith)
        go (b ∷ bs) h = refl

    pub at_the_end : (l : Literal) (rest : List ℕ) → literal_by types.variants rows.many rows.types line ≡ accepted l rest → length rest ≡ 0
        → added_table g line ≡ accepted (literal_table (g.literals ++ (l ∷ []))) []
    at_the_end l rest e h = opened ∙ ap (and_then behind) e ∙ go rest h
      where
        go : (bs : List ℕ) → length bs ≡ 0 → behind l bs ≡ accepted (literal_table (g.literals ++ (l ∷ []))) []
        go [] h = refl
        go (b ∷ bs) h = absurd (omega arith)

    -- the table with the line more
    pub appended_table : (x : row.Literal) → x.kind < 4
        → record { many = lines.many + 1; kinds = set lines.kinds lines.many x.kind; terms = set lines.terms lines.many x.term; others = set lines.others lines.many x.other }
        ≡ literal_table (g.literals ++ (literal_in x ∷ []))
    unfolding literal_table
    appended_table x small =
        let l : Literal = literal_in x in
        let n : lines.many + 1 ≡ length (g.literals ++ (l ∷ [])) = omega (arith, many-lines, length-append g.literals (l ∷ [])) in
        let k = column-set 0 literal_kind 64 lines.kinds g.literals l lines.many x.kind (ap (λ (t : LiteralTable). t.kinds) held.lines_of) (sym many-lines) (omega arith) (kind-in x small) in
        let t = column-set 0 literal_term 64 lines.terms g.literals l lines.many x.term (ap (λ (t : LiteralTable). t.terms) held.lines_of) (sym many-lines) (omega arith) (term-in x) in
        let o = column-set 0 literal_other 64 lines.others g.literals l lines.many x.other (ap (λ (t : LiteralTable). t.others) held.lines_of) (sym many-lines) (omega arith) (other-in x) in
        cc

-- no question has number 0
pub line-question : (g : Guard) (line : List ℕ) (q : ℕ) → added_line g line ≡ refused q → 0 < q
line-question g =
    asks_asked 4 (ltb (length g.literals) 32) _ (omega arith)
    (asks_bind (literal g.types g.rows) _ (asks_literal bytes unsigned-question (question_of_lem value_width (omega arith)) g.types g.rows)
    (λ l. asks_bind ended _ asks_ended (λ u. asks_return (with_more g (l ∷ [])))))
