-- The tables of a file have its types and its terms, so rows and terms are shown as the file's. Assumes nothing.
use mathlib.Core.Path.{◌≡◌, refl, ap, ap₂, sym, ◌∙◌, subst, fun_ext}
use mathlib.Core.List.{List, [], ◌++◌, append-nil}
use Prim.Native.Nat.{ℕ, ◌≤◌}
use native.Mathlib.Omega.{arith}
use lib.IntN.{ℤ}
use lib.ListN.{length}
use Rattle.laws.specs.Lists.{concat_map, from}
use Rattle.guard.specs.File.{file}
use Rattle.guard.specs.Guard.{Guard}
use Rattle.guard.specs.Limits.{base}
use Rattle.guard.specs.Number.{Parsed, Parsed.accepted, Parsed.refused}
use Rattle.guard.specs.Types.{fields_of}
use Rattle.guard.proofs.Accepted.{accepted-total, accepted_well_formed}
use Rattle.guard.proofs.Claims.{base-supported}
use Rattle.tables.specs.Layout.{flat, row_table, type_table}
use Rattle.tables.specs.declared.TypeTable.{TypeTable}
use Rattle.reader.specs.Reader.{guard_tables, in_tables}
use Rattle.reader.specs.declared.Tables.{Tables}
use Rattle.reader.proofs.TablesRead.{Taken, refused-file, taken-file}
use Rattle.rowtext.specs.Rows.{row_line}
use Rattle.answertext.specs.Text.{shown_text, term_line, terms_in, types_in}
use Rattle.rowtext.specs.Arity.{AritiesFit, arity_in, field_count}
use Rattle.rowtext.proofs.Arities.{field-count, table_fits}

-- the table of a file's types, and how many terms it has
pub record TablesOf (types : TypeTable) (terms : ℕ) (p : Parsed Guard) : Type 0 where
  pub types_of : types ≡ type_table (types_in p)
  pub terms_of : terms ≡ terms_in p
  pub total : length (flat (types_in p)) ≤ 48
  pub six : length (types_in p) ≤ 6
  pub three : (s v : ℕ) → length (fields_of (types_in p) s v) ≤ 3
  pub few : terms_in p ≤ 24

module _ (bytes : List ℕ) where
  pub tables_of : (t : Tables) → in_tables (file base) bytes ≡ accepted t [] → TablesOf t.types t.rows.many (file base bytes)
  unfolding guard_tables row_table
  tables_of t e =
      let k : Taken base bytes t = taken-file base bytes t e in
      let well = accepted_well_formed base base-supported bytes k.guard [] k.parsed in
      rw k.parsed (record {
        types_of = ap (λ (x : Tables). x.types) k.is;
        terms_of = ap (λ (x : Tables). x.rows.many) k.is;
        total = accepted-total base base-supported bytes k.guard [] k.parsed;
        six = well.type_count;
        three = well.field_counts;
        few = well.term_count;
      })

  pub none_of : (q : ℕ) → in_tables (file base) bytes ≡ refused q → (types : TypeTable) → types ≡ type_table [] → TablesOf types 0 (file base bytes)
  none_of q e types is =
      rw (refused-file base bytes q e) (record {
        types_of = is;
        terms_of = refl;
        total = omega arith;
        six = omega arith;
        three = λ s v. omega arith;
        few = omega arith;
      })

module _ {types : TypeTable} {terms : ℕ} {p : Parsed Guard} (r : TablesOf types terms p) where
  pub arities-fit : AritiesFit types
  arities-fit = subst AritiesFit (sym r.types_of) (table_fits (types_in p) r.total r.six r.three)

  same-arities : arity_in types ≡ field_count (types_in p)
  same-arities = ap arity_in r.types_of ∙ fun_ext (λ s. fun_ext (λ v. field-count (types_in p) r.total s v))

  pub shown-is : (many : ℕ) (rows places : List ℤ)
      → concat_map (row_line (arity_in types) rows) (from many 0) ++ concat_map (term_line places) (from terms 0)
      ≡ shown_text (types_in p) (terms_in p) many rows places
  unfolding shown_text
  shown-is many rows places =
      ap₂ (λ (f : ℕ → ℕ → ℕ) (n : ℕ). concat_map (row_line f rows) (from many 0) ++ concat_map (term_line places) (from n 0)) same-arities r.terms_of

-- without terms
pub no_terms : {types : TypeTable} {p : Parsed Guard} → TablesOf types 0 p → (many : ℕ) (rows places : List ℤ)
    → concat_map (row_line (arity_in types) rows) (from many 0) ≡ shown_text (types_in p) (terms_in p) many rows places
no_terms r many rows places = sym (append-nil (concat_map (row_line (arity_in _) rows) (from many 0))) ∙ shown-is r many rows places
