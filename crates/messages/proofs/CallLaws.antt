-- What the calls of `draw` need and give, for the tables of an accepted guard and the closure of an open node.
-- Assumes nothing.
use mathlib.Core.Path.{◌≡◌, ap, ap₂, sym, ◌∙◌, subst}
use mathlib.Core.Bool.{true}
use mathlib.Core.List.{List}
use Prim.Native.Nat.{ℕ, ◌*◌, ◌≤◌, ◌<◌}
use native.Mathlib.Omega.{arith}
use lib.IntN.{ℤ}
use lib.ListN.{length, get_or}
use Rattle.guard.specs.Closure.{State}
use Rattle.guard.specs.Guard.{Guard}
use Rattle.guard.specs.Types.{Types, defaults}
use Rattle.guard.proofs.ClosureState.{Small}
use Rattle.tables.specs.declared.TypeTable.{TypeTable}
use Rattle.tables.specs.Layout.{TypesInRange, default_column, row_table, type_table}
use Rattle.reader.specs.declared.Tables.{Tables}
use Rattle.reader.specs.Reader.{guard_tables}
use Rattle.growthtables.specs.declared.Growth.{Growth}
use Rattle.growthtables.specs.Growth.{growth_by}
use Rattle.growthtables.proofs.FitLaws.{accepted-range}
use Rattle.forms.specs.declared.Forms.{Forms}
use Rattle.forms.specs.Forms.{FormsFit, types_in}
use Rattle.forms.proofs.FormLaws.{forms_of, guard_forms, guard-types}
use Rattle.classes.specs.Held.{Held}
use Rattle.search.specs.Nodes.{Accepted, OpenLeaf}
use Rattle.plans.specs.Plans.{OpenState, is_free, open_of}
use Rattle.plans.proofs.ClassLaws.{free-variant, sort_for_lem, type-small}
use Rattle.leaf.specs.declared.Leaf.{Leaf}
use Rattle.leaf.specs.Leaf.{open_state}
use Rattle.leaf.specs.Sheet.{Enough, rows_for}
use Rattle.leaf.proofs.SheetLaws.{sheet-low}
use Rattle.freerows.specs.Free.{ClassFits, FreeFits}
use Rattle.messages.specs.Messages.{Draws, rows_enough}
use Rattle.messages.specs.Rows.{Drawable, LeafOf, PlacesSet, RowsDrawn}
use Rattle.messages.proofs.OpenLaws.{free_needed, is_open, message, message-pictured, nd, o}
use Rattle.messages.proofs.FewRows.{node-rows, rows-small}
use Rattle.messages.proofs.DrawLaws.{draws}

-- labels of 16 bits are masks
pub labels-small : (s : State) → ((c : ℕ) → get_or s.labels c 0 < 65536) → Small s
unfolding Small
labels-small s h = h

module _ (tables : Tables) (g : Guard) (ok : Accepted g) (is : tables ≡ guard_tables g) where
  types-read : tables.types ≡ type_table g.types
  unfolding guard_tables
  types-read = ap (λ (t : Tables). t.types) is

  pub types-range : TypesInRange tables.types
  types-range = subst TypesInRange (sym types-read) (accepted-range ok.limits ok.supported g ok.well_formed ok.total)

  -- the terms that get a place
  pub many-terms : tables.rows.many ≡ length g.rows
  unfolding guard_tables row_table
  many-terms = ap (λ (t : Tables). t.rows.many) is

  pub many-types : tables.types.many ≡ length g.types
  unfolding type_table
  many-types = ap (λ (t : TypeTable). t.many) types-read

  pub few-terms : tables.rows.many ≤ 24
  few-terms = omega (arith, many-terms, ok.well_formed.term_count, ok.supported.terms)

  module _ (growth : Growth) (grown : growth ≡ growth_by tables.types) where
    abbrev forms : Forms
    forms = record { table = tables.types; defaults = tables.defaults; growth = growth }

    forms_read : forms ≡ forms_of g.types
    unfolding guard_tables
    forms_read =
        let a : tables.types ≡ type_table g.types = types-read in
        let b : tables.defaults ≡ default_column (defaults g.types) = ap (λ (t : Tables). t.defaults) is in
        let c : growth ≡ growth_by (type_table g.types) = grown ∙ ap growth_by types-read in
        cc

    pub forms_fit : FormsFit forms
    forms_fit = subst FormsFit (sym forms_read) (guard_forms ok.limits ok.supported g ok.well_formed ok.total)

    -- the types of the forms are the guard's
    pub types_same : types_in forms ≡ g.types
    types_same = ap types_in forms_read ∙ guard-types ok.limits ok.supported g ok.well_formed ok.total

module _ (g : Guard) (ok : Accepted g) (s : State) (open' : OpenLeaf g s) (held : Held s.classes) (small : Small s) (leaf : Leaf) (is : LeafOf g s leaf) (ts : Types) (same : ts ≡ g.types) where
  class_fits : (c : ℕ) → c < 78 → is_free (open_of g s leaf.marks) c ≡ true → ClassFits (open_of g s leaf.marks) c
  class_fits c h f =
      let need = free_needed g ok s open' held small leaf is c h f in
      record {
        sort = sort_for_lem ok.limits ok.supported g ok.well_formed ok.total open'.literals (nd g ok s open' held small leaf is) (o g ok s open' held small leaf is) s open'.agrees small leaf.marks is.marks c need;
        known = type-small ok.limits ok.supported g ok.well_formed ok.total open'.literals (nd g ok s open' held small leaf is) (o g ok s open' held small leaf is) s open'.agrees small leaf.marks is.marks c need;
        fits = λ e. (free-variant ok.limits ok.supported g ok.well_formed ok.total open'.literals (nd g ok s open' held small leaf is) (o g ok s open' held small leaf is) s open'.agrees small leaf.marks is.marks c need f e).0;
        wide = λ e. (free-variant ok.limits ok.supported g ok.well_formed ok.total open'.literals (nd g ok s open' held small leaf is) (o g ok s open' held small leaf is) s open'.agrees small leaf.marks is.marks c need f e).1;
      }

  pub free-fits : FreeFits (open_state ts leaf)
  free-fits =
      subst (λ (us : Types). FreeFits (open_state us leaf)) (sym same)
      (subst (λ (y : OpenState). (c : ℕ) → c < 78 → is_free y c ≡ true → ClassFits y c) (sym (is_open g ok s open' held small leaf is)) class_fits)

  pub leaf_drawable : Drawable ts leaf
  leaf_drawable = subst (λ (us : Types). Drawable us leaf) (sym same) (record { val = message g ok s open' held small leaf is; pictured = message-pictured g ok s open' held small leaf is })

  -- the rows of the node, by the size of the guard
  pub rows-room : (types terms : ℕ) (rows : List ℤ) → types ≡ length g.types → terms ≡ length g.rows → 4 * rows_enough types terms ≤ length rows → Enough (open_state ts leaf) rows
  rows-room types terms rows et en room =
      let size : rows_enough types terms ≡ rows_enough (length g.types) (length g.rows) = ap₂ (λ (a b : ℕ). rows_enough a b) et en in
      let node : rows_for (open_state ts leaf) ≡ rows_for (open_of g s leaf.marks) = ap (λ (us : Types). rows_for (open_state us leaf)) same ∙ ap rows_for (is_open g ok s open' held small leaf is) in
      let most : rows_for (open_state ts leaf) ≤ rows_enough types terms = subst (λ (n : ℕ). rows_for (open_state ts leaf) ≤ n) (sym size) (subst (λ (n : ℕ). n ≤ rows_enough (length g.types) (length g.rows)) (sym node) (node-rows g ok s open' held small leaf is)) in
      let small' : rows_enough types terms ≤ 4096 = rows-small types terms (omega (arith, et, ok.well_formed.type_count, ok.supported.types)) (omega (arith, en, ok.well_formed.term_count, ok.supported.terms)) in
      within (rows_for (open_state ts leaf)) (rows_enough types terms) most small' room
    where
      within : (n k : ℕ) → n ≤ k → k ≤ 4096 → 4 * k ≤ length rows → (n ≤ 4096) × (4 * n ≤ length rows)
      within n k a b c = (omega arith, omega arith)

  module _ (entry : List ℤ) (at : List ℕ) (rows : List ℤ) (many : ℕ) (drawn : RowsDrawn ts leaf entry at rows many) where
    pub rows-low : (c : ℕ) → get_or at c 0 ≤ 4096
    rows-low =
        let d : Drawable ts leaf = leaf_drawable in
        sheet-low (open_state ts leaf) d.val rows many drawn.drawn at (drawn.sheet d.val d.pictured)

    pub call_draws : (n : ℕ) (entry_places places : List ℤ) → n ≡ length g.rows → PlacesSet s.classes at n entry_places places → Draws g many entry entry_places rows places
    call_draws n entry_places places e set =
        draws g ok s open' held small leaf is entry at rows many (subst (λ (us : Types). RowsDrawn us leaf entry at rows many) same drawn) entry_places places
        (subst (λ (k : ℕ). PlacesSet s.classes at k entry_places places) e set)
