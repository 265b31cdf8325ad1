-- The head of a file that is read fits: a well-formed guard without lines, and tables within the ranges that readers of lines ask for.
-- Assumes nothing.
use mathlib.Core.Path.{◌≡◌, refl, ap, sym, subst, ◌∙◌}
use mathlib.Core.List.{List}
use Prim.Native.Nat.{ℕ, ◌+◌, ◌≤◌, ◌<◌}
use native.Mathlib.Omega.{arith}
use lib.Dec.{ltb}
use lib.ListN.{length, drop, get_or, get_or-eq_default}
use borrow.Author.Tests.{ltb-true, ltb-false}
use Rattle.laws.proofs.Bools.{by_test}
use Rattle.guard.specs.File.{bytes}
use Rattle.guard.specs.Grammar.{with_head}
use Rattle.guard.specs.Guard.{Row, no_row, type_at, type_of}
use Rattle.guard.specs.Limits.{Limits, Supported, total_variant_limit}
use Rattle.guard.specs.Number.{Parsed.accepted, Parser, and_then, return}
use Rattle.guard.specs.Types.{Types}
use Rattle.guard.specs.WellFormed.{WellFormed}
use Rattle.guard.proofs.Accepted.{head_guard, longest_head, reads-head, row_type, variants_in}
use Rattle.guard.proofs.Reading.{Reads, reads-return}
use Rattle.tables.specs.Layout.{row_table}
use Rattle.tables.specs.declared.RowTable.{RowTable}
use Rattle.tables.specs.declared.TypeTable.{TypeTable}
use Rattle.tables.proofs.Lookups.{row-type_anywhere, variants_at_lem}
use Rattle.headreader.specs.Head.{Head, head_part}
use Rattle.headreader.specs.declared.HeadTables.{HeadTables}
use Rattle.headreader.proofs.HeadLaws.{HeadFound}
use Rattle.headreader.proofs.WithHead.{behind, with_head_lem}

-- what is known of an accepted head
abbrev pub Fits : Limits → Head → Type 0
Fits limits h = WellFormed limits (head_guard h.types h.rows) × (length (variants_in h.types) ≤ total_variant_limit)

module _ (limits : Limits) (sup : Supported limits) where
  abbrev as_pair : Types → List Row → Parser Head
  as_pair ts rs = return (record { types = ts; rows = rs })

  reads-pair : Reads (with_head bytes limits as_pair) (λ h u. Fits limits h × (u ≤ longest_head limits + 0))
  reads-pair = reads-head Head limits sup as_pair (Fits limits) 0 (λ ts rs ok total. reads-return (record { types = ts; rows = rs }) (λ h u. Fits limits h × (u ≤ 0)) ((ok, total), omega arith))

  pub head-fits : (bs : List ℕ) (h : Head) (rest : List ℕ) → head_part limits.types limits.terms bs ≡ accepted h rest → Fits limits h
  unfolding Reads
  head-fits bs h rest e = let (u, l, p) = reads-pair bs h rest (with_head_lem limits as_pair bs ∙ ap (and_then (behind limits as_pair)) e) in p.0

  module _ (bytes : List ℕ) (r : HeadTables) (at : ℕ) (f : HeadFound limits.types limits.terms bytes r at) where
    abbrev ts : Types
    ts = f.head.types

    abbrev rs : List Row
    rs = f.head.rows

    pub fits : Fits limits f.head
    fits = head-fits bytes f.head (drop at bytes) f.parsed

    many-rows : (row_table ts rs).many ≡ length rs
    unfolding row_table
    many-rows = refl

    pub count-is : r.rows.many ≡ length rs
    count-is = ap (λ (x : RowTable). x.many) f.row_tables ∙ many-rows

    pub few-rows : r.rows.many ≤ 24
    few-rows = omega (arith, count-is, fits.0.term_count, sup.terms)

    pub few-variants : (i : ℕ) → get_or r.types.variants i 0 < 17
    few-variants i = omega (arith, ap (λ (x : TypeTable). get_or x.variants i 0) f.type_tables, variants_at_lem ts i, fits.0.variant_counts i)

    pub types-there : (i : ℕ) → get_or r.rows.types i 0 < 6
    types-there i = subst (λ (k : ℕ). k < 6) (sym (ap (λ (x : RowTable). get_or x.types i 0) f.row_tables ∙ row-type_anywhere ts rs i)) there
      where
        there : type_at ts rs i < 6
        there =
            by_test (ltb i (length rs)) (λ e. omega (arith, row_type ts fits.0.field_types rs fits.0.rows i (ltb-true i (length rs) e), fits.0.type_count, sup.types))
            (λ e. omega (arith, ap (type_of ts) (get_or-eq_default rs no_row (ltb-false i (length rs) e))))
