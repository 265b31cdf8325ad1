-- The answers of the readers of the parts, put together: what each says of the tables of the whole file. Assumes nothing.
use Rattle.std.proofs.Common.{◌≡◌, ◌∙◌, refl, ap, sym, arith, ℕ, ◌≤◌, List, [], length, drop}
use Rattle.guard.specs.Grammar.{ended}
use Rattle.guard.specs.Guard.{Literal, Row}
use Rattle.guard.specs.Limits.{Supported, base}
use Rattle.guard.specs.Number.{Parsed, Parsed.accepted, Parsed.refused, Parser, ◌>>=◌, ◌>>◌, and_then, return, times}
use Rattle.guard.specs.Types.{Types}
use Rattle.tables.specs.Layout.{row_table, type_table}
use Rattle.tables.specs.declared.RowTable.{RowTable}
use Rattle.tables.specs.declared.TypeTable.{TypeTable}
use Rattle.tables.proofs.Lookups.{row-type_anywhere, variants_at_lem}
use Rattle.numbers.specs.Reader.{Found}
use Rattle.numbers.proofs.Mapped.{mapped, mapped_refused}
use Rattle.headreader.specs.Head.{head_part}
use Rattle.headreader.specs.Head as heads
use Rattle.headreader.specs.declared.HeadTables.{HeadTables}
use Rattle.headreader.proofs.HeadLaws.{HeadFound, head-found}
use Rattle.headreader.proofs.HeadFits as headfits
use Rattle.literalkinds.specs.OneLiteral.{literal_by}
use Rattle.literalreader.specs.LiteralReader.{EachBelow, lines_by}
use Rattle.literalreader.proofs.LiteralReaderLaws.{times-same}
use Rattle.branches.specs.Procedure.{Procedure, branch, branch_count, procedure}
use Rattle.branchreader.specs.BranchReader.{as_branches, branch_tables, branches_by, in_branches, in_tables, procedure_tables}
use Rattle.branchreader.specs.declared.Branches.{Branches}
use Rattle.branchreader.specs.declared.Procedure as tables
use Rattle.branchreader.proofs.FileParts.{after_head, file-parts}
use Rattle.branchreader.proofs.SameLines.{lines_are}

fits : Supported base
fits = record { types = omega arith; terms = omega arith; lines = omega arith }

branches-same : (p q : Parser (List Literal)) → ((bs : List ℕ) → p bs ≡ q bs) → (bs : List ℕ) → branches_by p bs ≡ branches_by q bs
branches-same p q same bs = go (branch_count bs)
  where
    go : (r : Parsed ℕ) → and_then (λ b. times b p >>= λ bs. ended >> return bs) r ≡ and_then (λ b. times b q >>= λ bs. ended >> return bs) r
    go (refused z) = refl
    go (accepted b rest) = ap (and_then (λ bs. ended >> return bs)) (times-same p q same b rest)

module _ (bytes : List ℕ) where
  -- what refuses the file refuses its tables
  stops : (q : ℕ) → procedure base bytes ≡ refused q → in_tables (procedure base) bytes ≡ refused q
  stops q e = ap (and_then (λ x. return (procedure_tables x))) e

  -- ---- types and rows

  pub head_stop : (q : ℕ) → heads.in_tables (head_part base.types base.terms) bytes ≡ refused q → in_tables (procedure base) bytes ≡ refused q
  head_stop q e = stops q (file-parts bytes ∙ ap (and_then after_head) (mapped_refused heads.head_tables (head_part base.types base.terms bytes) q e))

  module _ (h : HeadTables) (at : ℕ) (read : Found (heads.in_tables (head_part base.types base.terms) bytes) bytes h at) where
    found : HeadFound base.types base.terms bytes h at
    found = head-found base.types base.terms bytes h at fits.types read

    abbrev ts : Types
    ts = found.head.types

    abbrev rs : List Row
    rs = found.head.rows

    at-branches : procedure base bytes ≡ after_head found.head (drop at bytes)
    at-branches = file-parts bytes ∙ ap (and_then after_head) found.parsed

    pub few-rows : h.rows.many ≤ 24
    few-rows = headfits.few-rows base fits bytes h at found

    pub few-variants : EachBelow 17 h.types.variants
    few-variants i = headfits.few-variants base fits bytes h at found i

    pub types-there : EachBelow 6 h.rows.types
    types-there i = headfits.types-there base fits bytes h at found i

    -- ---- branches

    -- by columns
    abbrev by : List ℕ → ℕ → List ℕ → Parser Branches
    by counts rows us = in_branches (branches_by (lines_by base.lines (literal_by counts rows us)))

    abbrev last : Parsed (List (List Literal))
    last = branches_by (branch base ts rs) (drop at bytes)

    -- the tables' columns are those of types and rows
    same : by h.types.variants h.rows.many h.rows.types (drop at bytes) ≡ and_then (λ bs. return (as_branches bs)) last
    same =
        ap (λ (x : TypeTable). by x.variants h.rows.many h.rows.types (drop at bytes)) found.type_tables
        ∙ ap (λ (k : ℕ). by (type_table ts).variants k h.rows.types (drop at bytes)) (headfits.count-is base fits bytes h at found)
        ∙ ap (λ (x : RowTable). by (type_table ts).variants (length rs) x.types (drop at bytes)) found.row_tables
        ∙ ap (and_then (λ bs. return (as_branches bs)))
        (branches-same (lines_by base.lines (literal_by (type_table ts).variants (length rs) (row_table ts rs).types)) (branch base ts rs)
        (lines_are ts rs (type_table ts).variants (row_table ts rs).types (variants_at_lem ts) (row-type_anywhere ts rs) base.lines) (drop at bytes))

    abbrev whole : List (List Literal) → Procedure
    whole bs = record { types = ts; rows = rs; branches = bs }

    pub branches_stop : (q : ℕ) → by h.types.variants h.rows.many h.rows.types (drop at bytes) ≡ refused q → in_tables (procedure base) bytes ≡ refused q
    branches_stop q e = stops q (at-branches ∙ ap (and_then (λ bs. return (whole bs))) (mapped_refused as_branches last q (sym same ∙ e)))

    pub all_read : (b : Branches) → by h.types.variants h.rows.many h.rows.types (drop at bytes) ≡ accepted b []
        → in_tables (procedure base) bytes ≡ accepted (record { types = h.types; rows = h.rows; many = b.many; lines = b.lines }) []
    unfolding as_branches procedure_tables
    all_read b e =
        let (bs, parsed, is) = mapped as_branches last b [] (sym same ∙ e) in
        ap (and_then (λ x. return (procedure_tables x))) (at-branches ∙ ap (and_then (λ bs. return (whole bs))) parsed)
        ∙ ap (λ (t : tables.Procedure). accepted t []) (made bs is)
      where
        made : (bs : List (List Literal)) → as_branches bs ≡ b → procedure_tables (whole bs) ≡ record { types = h.types; rows = h.rows; many = b.many; lines = b.lines }
        made bs is =
            let t : h.types ≡ type_table ts = found.type_tables in
            let r : h.rows ≡ row_table ts rs = found.row_tables in
            let m : length bs ≡ b.many = ap (λ (x : Branches). x.many) is in
            let l : branch_tables bs ≡ b.lines = ap (λ (x : Branches). x.lines) is in
            cc
