-- The answers of the readers of the parts, put together: what each says of the tables of the whole file. Assumes nothing.
use mathlib.Core.Path.{◌≡◌, ap, sym, subst, refl, ◌∙◌}
use mathlib.Core.List.{List, []}
use Prim.Native.Nat.{ℕ, ◌≤◌}
use native.Mathlib.Omega.{arith}
use lib.ListN.{length, drop}
use Rattle.guard.specs.File.{file, literal}
use Rattle.guard.specs.Guard.{Guard, Literal, Row}
use Rattle.guard.specs.Limits.{Limits, Supported}
use Rattle.guard.specs.Number.{Parsed, Parsed.accepted, Parsed.refused, and_then, return}
use Rattle.guard.specs.Types.{Types, defaults}
use Rattle.guard.specs.WellFormed.{WellFormed}
use Rattle.guard.proofs.Accepted.{accepted_well_formed}
use Rattle.siblings.specs.Siblings.{ReadsInRange, siblings_by, siblings_in}
use Rattle.siblings.specs.declared.Siblings.{Siblings}
use Rattle.siblings.proofs.SiblingLaws.{reads_in_range, siblings_are}
use Rattle.tables.specs.Layout.{TypesInRange, default_column, literal_table, row_table, type_table}
use Rattle.tables.specs.declared.LiteralTable.{LiteralTable}
use Rattle.tables.specs.declared.RowTable.{RowTable}
use Rattle.tables.specs.declared.TypeTable.{TypeTable}
use Rattle.tables.proofs.Lookups.{row-type_anywhere, variants_at_lem}
use Rattle.numbers.specs.Reader.{Found}
use Rattle.numbers.proofs.Mapped.{mapped, mapped_refused}
use Rattle.headreader.specs.Head.{head_part}
use Rattle.headreader.specs.Head as heads
use Rattle.headreader.specs.declared.HeadTables.{HeadTables}
use Rattle.headreader.proofs.HeadLaws.{HeadFound, head-found}
use Rattle.headreader.proofs.HeadFits as headfits
use Rattle.literalreader.specs.LiteralReader as lines
use Rattle.literalreader.specs.LiteralReader.{EachBelow, literal_by, literals_by}
use Rattle.literalreader.proofs.LiteralReaderLaws.{literals-are}
use Rattle.reader.specs.Reader.{guard_tables, in_tables, limits_of}
use Rattle.reader.specs.declared.Tables.{Tables}
use Rattle.reader.proofs.FileParts.{after_head, file-parts}

pub supported : (types terms lines : ℕ) → Supported (limits_of types terms lines)
supported types terms lines = record { types = omega arith; terms = omega arith; lines = omega arith }

module _ (limits : Limits) (fits : Supported limits) (bytes : List ℕ) where
  -- what refuses the file refuses its tables
  stops : (q : ℕ) → file limits bytes ≡ refused q → in_tables (file limits) bytes ≡ refused q
  stops q e = ap (and_then (λ g. return (guard_tables g))) e

  -- ---- types and rows

  pub head_stop : (q : ℕ) → heads.in_tables (head_part limits.types limits.terms) bytes ≡ refused q → in_tables (file limits) bytes ≡ refused q
  head_stop q e = stops q (file-parts limits bytes ∙ ap (and_then (after_head limits)) (mapped_refused heads.head_tables (head_part limits.types limits.terms bytes) q e))

  module _ (h : HeadTables) (at : ℕ) (read : Found (heads.in_tables (head_part limits.types limits.terms) bytes) bytes h at) where
    found : HeadFound limits.types limits.terms bytes h at
    found = head-found limits.types limits.terms bytes h at fits.types read

    abbrev ts : Types
    ts = found.head.types

    abbrev rs : List Row
    rs = found.head.rows

    at-literals : file limits bytes ≡ after_head limits found.head (drop at bytes)
    at-literals = file-parts limits bytes ∙ ap (and_then (after_head limits)) found.parsed

    pub table-range : TypesInRange h.types
    table-range = found.range

    pub few-rows : h.rows.many ≤ 24
    few-rows = headfits.few-rows limits fits bytes h at found

    pub few-variants : EachBelow 17 h.types.variants
    few-variants i = headfits.few-variants limits fits bytes h at found i

    pub types-there : EachBelow 6 h.rows.types
    types-there i = headfits.types-there limits fits bytes h at found i

    -- ---- literals

    abbrev last : Parsed (List Literal)
    last = literals_by limits.lines (literal ts rs) (drop at bytes)

    -- by the tables' columns
    same : lines.in_table (literals_by limits.lines (literal_by h.types.variants h.rows.many h.rows.types)) (drop at bytes) ≡ and_then (λ ls. return (literal_table ls)) last
    same =
        ap (λ (x : TypeTable). lines.in_table (literals_by limits.lines (literal_by x.variants h.rows.many h.rows.types)) (drop at bytes)) found.type_tables
        ∙ ap (λ (k : ℕ). lines.in_table (literals_by limits.lines (literal_by (type_table ts).variants k h.rows.types)) (drop at bytes)) (headfits.count-is limits fits bytes h at found)
        ∙ ap (λ (x : RowTable). lines.in_table (literals_by limits.lines (literal_by (type_table ts).variants (length rs) x.types)) (drop at bytes)) found.row_tables
        ∙ ap (and_then (λ ls. return (literal_table ls))) (literals-are ts rs (type_table ts).variants (row_table ts rs).types (variants_at_lem ts) (row-type_anywhere ts rs) limits.lines (drop at bytes))

    abbrev guard : List Literal → Guard
    guard ls = record { types = ts; rows = rs; literals = ls }

    pub literals_stop : (q : ℕ) → lines.in_table (literals_by limits.lines (literal_by h.types.variants h.rows.many h.rows.types)) (drop at bytes) ≡ refused q → in_tables (file limits) bytes ≡ refused q
    literals_stop q e = stops q (at-literals ∙ ap (and_then (λ ls. return (guard ls))) (mapped_refused literal_table last q (sym same ∙ e)))

    module _ (table : LiteralTable) (literals : lines.in_table (literals_by limits.lines (literal_by h.types.variants h.rows.many h.rows.types)) (drop at bytes) ≡ accepted table []) where
      -- the whole file is read
      record Whole : Type 0 where
        ls : List Literal
        parsed : file limits bytes ≡ accepted (guard ls) []
        is : table ≡ literal_table ls

      whole : Whole
      whole =
          let (ls, parsed, is) = mapped literal_table last table [] (sym same ∙ literals) in
          record { ls = ls; parsed = at-literals ∙ ap (and_then (λ ls. return (guard ls))) parsed; is = sym is }

      well_formed_lem : WellFormed limits (guard whole.ls)
      well_formed_lem = accepted_well_formed limits fits bytes (guard whole.ls) [] whole.parsed

      pub reads-there : ReadsInRange h.rows.many h.rows.kinds h.rows.types h.rows.variants h.rows.parts h.types.first
      reads-there =
          subst (λ (x : RowTable). ReadsInRange x.many x.kinds x.types x.variants x.parts h.types.first) (sym found.row_tables)
          (subst (λ (x : TypeTable). ReadsInRange (row_table ts rs).many (row_table ts rs).kinds (row_table ts rs).types (row_table ts rs).variants (row_table ts rs).parts x.first) (sym found.type_tables)
          (reads_in_range limits fits (guard whole.ls) well_formed_lem (headfits.fits limits fits bytes h at found).1))

      pub all_read : (sb : Siblings) → sb ≡ siblings_by h.types h.rows
          → in_tables (file limits) bytes ≡ accepted (record { types = h.types; defaults = h.defaults; rows = h.rows; literals = table; siblings = sb }) []
      unfolding guard_tables
      all_read sb is_s =
          let a : h.types ≡ type_table ts = found.type_tables in
          let b : h.defaults ≡ default_column (defaults ts) = found.default_tables in
          let c : h.rows ≡ row_table ts rs = found.row_tables in
          let d : table ≡ literal_table whole.ls = whole.is in
          let e : sb ≡ siblings_in ts rs =
          is_s ∙ ap (λ (x : TypeTable). siblings_by x h.rows) a ∙ ap (siblings_by (type_table ts)) c ∙ siblings_are limits fits (guard whole.ls) well_formed_lem (headfits.fits limits fits bytes h at found).1 in
          let made : Path Tables (guard_tables (guard whole.ls)) (record { types = h.types; defaults = h.defaults; rows = h.rows; literals = table; siblings = sb }) = cc in
          ap (and_then (λ g. return (guard_tables g))) whole.parsed ∙ ap (λ (t : Tables). accepted t []) made
