-- What the readers of types and rows say of the head of a file; and what the head is, from the tables that are read. Assumes nothing.
use mathlib.Core.Path.{◌≡◌, refl, ap, sym, subst, ◌∙◌}
use mathlib.Core.Bool.{Bool, true, false, cond}
use mathlib.Core.List.{List}
use Prim.Native.Nat.{ℕ, ◌≤◌}
use lib.ListN.{length, drop}
use Rattle.std.specs.Prelude.{Result, Ok, Err}
use Rattle.guard.specs.Guard.{Row}
use Rattle.guard.specs.Number.{Parsed, Parsed.accepted, Parsed.refused, Parser, ◌>>◌, and_then, ask, return}
use Rattle.guard.specs.Question.{number_of}
use Rattle.guard.specs.Types.{Types, all_defaults, defaults, infinite_fields}
use Rattle.guard.specs.declared.Question.{Question}
use Rattle.guard.specs.declared.Question.TheVariants.{NoDefault, NoInfiniteField}
use Rattle.tables.specs.Layout.{TypesInRange, default_column, row_table, type_table, types_of}
use Rattle.tables.specs.declared.RowTable.{RowTable}
use Rattle.tables.specs.declared.TypeTable.{TypeTable}
use Rattle.numbers.specs.Reader.{Found}
use Rattle.numbers.proofs.Mapped.{mapped, mapped_refused}
use Rattle.typereader.specs.TypeReader.{table_by, types_part}
use Rattle.typereader.proofs.TypeReaderLaws.{TypesFound, types-range}
use Rattle.datatypes.specs.Facts.{type_facts}
use Rattle.rowreader.specs.RowReader.{counted_rows, table_with}
use Rattle.headreader.specs.Head.{Head, head_part, head_tables, in_tables, rows_behind}
use Rattle.headreader.specs.declared.HeadTables.{HeadTables}

module _ (types terms : ℕ) (bytes : List ℕ) where
  abbrev after_types : Types → Parser Head
  after_types ts = ask 8 (all_defaults ts) >> (ask 9 (infinite_fields ts) >> rows_behind terms ts)

  -- what refuses the head refuses its tables
  stops : (q : ℕ) → head_part types terms bytes ≡ refused q → in_tables (head_part types terms) bytes ≡ refused q
  stops q e = ap (and_then (λ h. return (head_tables h))) e

  pub types_stop : (q : ℕ) → table_by types bytes ≡ refused q → in_tables (head_part types terms) bytes ≡ refused q
  types_stop q e = stops q (ap (and_then after_types) (mapped_refused type_table (types_part types bytes) q e))

  module _ (table : TypeTable) (at : ℕ) (found : TypesFound bytes types table at) where
    abbrev ts : Types
    ts = found.ts

    -- ---- the questions 8 and 9

    -- by the answers to both
    facts_by : (a b : Bool) → all_defaults ts ≡ a → infinite_fields ts ≡ b → type_facts (types_of table) ≡ cond a (cond b (Ok (default_column (defaults ts))) (Err NoInfiniteField)) (Err NoDefault)
    unfolding type_facts
    facts_by a b p q =
        ap type_facts found.back
        ∙ ap (λ (x : Bool). cond x (cond (infinite_fields ts) (Ok (default_column (defaults ts))) (Err NoInfiniteField)) (Err NoDefault)) p
        ∙ ap (λ (x : Bool). cond a (cond x (Ok (default_column (defaults ts))) (Err NoInfiniteField)) (Err NoDefault)) q

    parsed_by : (a b : Bool) → all_defaults ts ≡ a → infinite_fields ts ≡ b → head_part types terms bytes ≡ (ask 8 a >> (ask 9 b >> rows_behind terms ts)) (drop at bytes)
    parsed_by a b p q =
        ap (and_then after_types) found.parsed
        ∙ ap (λ (x : Bool). (ask 8 x >> (ask 9 (infinite_fields ts) >> rows_behind terms ts)) (drop at bytes)) p
        ∙ ap (λ (x : Bool). (ask 8 a >> (ask 9 x >> rows_behind terms ts)) (drop at bytes)) q

    pub facts_stop : (e : Question) → type_facts (types_of table) ≡ Err e → in_tables (head_part types terms) bytes ≡ refused (number_of e)
    facts_stop e is = go (all_defaults ts) (infinite_fields ts) refl refl
      where
        same : (f : Question) → type_facts (types_of table) ≡ Err f → number_of f ≡ number_of e
        same f h = let d : ◌≡◌ {A = Result (List ℕ) Question} (Err f) (Err e) = sym h ∙ is in let g : f ≡ e = cc in ap number_of g

        go : (a b : Bool) → all_defaults ts ≡ a → infinite_fields ts ≡ b → in_tables (head_part types terms) bytes ≡ refused (number_of e)
        go false b p q = stops 8 (parsed_by false b p q) ∙ ap refused (same NoDefault (facts_by false b p q))
        go true false p q = stops 9 (parsed_by true false p q) ∙ ap refused (same NoInfiniteField (facts_by true false p q))
        go true true p q = let d : ◌≡◌ {A = Result (List ℕ) Question} (Ok (default_column (defaults ts))) (Err e) = sym (facts_by true true p q) ∙ is in absurd cc

    module _ (ds : List ℕ) (facts : type_facts (types_of table) ≡ Ok ds) where
      pub past_facts : (head_part types terms bytes ≡ rows_behind terms ts (drop at bytes)) × (ds ≡ default_column (defaults ts))
      past_facts = go (all_defaults ts) (infinite_fields ts) refl refl
        where
          go : (a b : Bool) → all_defaults ts ≡ a → infinite_fields ts ≡ b → (head_part types terms bytes ≡ rows_behind terms ts (drop at bytes)) × (ds ≡ default_column (defaults ts))
          go false b p q = let d : ◌≡◌ {A = Result (List ℕ) Question} (Err NoDefault) (Ok ds) = sym (facts_by false b p q) ∙ facts in absurd cc
          go true false p q = let d : ◌≡◌ {A = Result (List ℕ) Question} (Err NoInfiniteField) (Ok ds) = sym (facts_by true false p q) ∙ facts in absurd cc
          go true true p q =
              let d : ◌≡◌ {A = Result (List ℕ) Question} (Ok (default_column (defaults ts))) (Ok ds) = sym (facts_by true true p q) ∙ facts in
              (parsed_by true true p q, (let e : ds ≡ default_column (defaults ts) = cc in e))

      -- ---- rows

      abbrev as_pair : List Row → Parser Head
      as_pair rs = return (record { types = ts; rows = rs })

      rows_lem : table_with (types_of table) (counted_rows terms (types_of table)) (drop at bytes) ≡ table_with ts (counted_rows terms ts) (drop at bytes)
      rows_lem = ap (λ (us : Types). table_with us (counted_rows terms us) (drop at bytes)) found.back

      pub rows_stop : (q : ℕ) → table_with (types_of table) (counted_rows terms (types_of table)) (drop at bytes) ≡ refused q → in_tables (head_part types terms) bytes ≡ refused q
      rows_stop q e = stops q (past_facts.0 ∙ ap (and_then as_pair) (mapped_refused (row_table ts) (counted_rows terms ts (drop at bytes)) q (sym rows_lem ∙ e)))

      pub all_read : (rows : RowTable) (next : ℕ) → Found (table_with (types_of table) (counted_rows terms (types_of table)) (drop at bytes)) bytes rows next
          → Found (in_tables (head_part types terms) bytes) bytes (record { types = table; defaults = ds; rows = rows }) next
      unfolding head_tables
      all_read rows next read =
          let (rs, parsed, is) = mapped (row_table ts) (counted_rows terms ts (drop at bytes)) rows (drop next bytes) (sym rows_lem ∙ read.accepts) in
          record {
            accepts =
                ap (and_then (λ h. return (head_tables h))) (past_facts.0 ∙ ap (and_then as_pair) parsed)
                ∙ ap (λ (t : HeadTables). accepted t (drop next bytes)) (tables rs is);
            within = read.within;
          }
        where
          tables : (rs : List Row) → row_table ts rs ≡ rows → head_tables (record { types = ts; rows = rs }) ≡ record { types = table; defaults = ds; rows = rows }
          tables rs is =
              let a : table ≡ type_table ts = found.is in
              let b : ds ≡ default_column (defaults ts) = past_facts.1 in
              cc

-- ---- what follows from the answer

pub record HeadFound (types terms : ℕ) (bytes : List ℕ) (r : HeadTables) (at : ℕ) : Type 0 where
  pub head : Head
  pub parsed : head_part types terms bytes ≡ accepted head (drop at bytes)
  pub within : at ≤ length bytes
  pub type_tables : r.types ≡ type_table head.types
  pub range : TypesInRange r.types
  pub default_tables : r.defaults ≡ default_column (defaults head.types)
  pub row_tables : r.rows ≡ row_table head.types head.rows

-- the types of a head are those that are read first
types_first : (types terms : ℕ) (bytes : List ℕ) (h : Head) (rest : List ℕ) → head_part types terms bytes ≡ accepted h rest → (mid : List ℕ) × (types_part types bytes ≡ accepted h.types mid)
types_first types terms bytes h rest e = go (types_part types bytes) refl e
  where
    rows_last : (ts : Types) (r : Parsed (List Row)) → and_then (λ rs. return (record { types = ts; rows = rs })) r ≡ accepted h rest → ts ≡ h.types
    rows_last ts (refused q) d = absurd cc
    rows_last ts (accepted rs left) d = let f : Path Head (record { types = ts; rows = rs }) h = cc in ap (λ (x : Head). x.types) f

    asked : (ts : Types) (mid : List ℕ) (a b : Bool) → (ask 8 a >> (ask 9 b >> rows_behind terms ts)) mid ≡ accepted h rest → ts ≡ h.types
    asked ts mid false b d = absurd cc
    asked ts mid true false d = absurd cc
    asked ts mid true true d = rows_last ts (counted_rows terms ts mid) d

    go : (r : Parsed Types) → types_part types bytes ≡ r → and_then (after_types types terms bytes) r ≡ accepted h rest → (mid : List ℕ) × (types_part types bytes ≡ accepted h.types mid)
    go (refused q) p d = absurd cc
    go (accepted ts mid) p d = (mid, p ∙ ap (λ (x : Types). accepted x mid) (asked ts mid (all_defaults ts) (infinite_fields ts) d))

pub head-found : (types terms : ℕ) (bytes : List ℕ) (r : HeadTables) (at : ℕ) → types ≤ 6 → Found (in_tables (head_part types terms) bytes) bytes r at → HeadFound types terms bytes r at
unfolding head_tables
head-found types terms bytes r at few f =
    let (h, parsed, is) = mapped head_tables (head_part types terms bytes) r (drop at bytes) f.accepts in
    let (mid, first) = types_first types terms bytes h (drop at bytes) parsed in
    record {
      head = h;
      parsed = parsed;
      within = f.within;
      type_tables = sym (ap (λ (x : HeadTables). x.types) is);
      range = subst (λ (t : TypeTable). TypesInRange t) (ap (λ (x : HeadTables). x.types) is) (types-range types bytes h.types mid few first);
      default_tables = sym (ap (λ (x : HeadTables). x.defaults) is);
      row_tables = sym (ap (λ (x : HeadTables). x.rows) is);
    }
