-- The answer at an open node: what is drawn, with what lies past it cleared, shows messages. Assumes nothing.
use mathlib.Core.Path.{◌≡◌, refl, ap, ap₂, sym, subst, ◌∙◌}
use mathlib.Core.List.{List, ◌++◌}
use Prim.Native.Nat.{ℕ, ◌*◌, ◌-◌, ◌≤◌}
use native.Mathlib.Omega.{arith}
use lib.IntN.{ℤ, pos}
use lib.ListN.{length, take, drop, replicate}
use Rattle.guard.specs.Answer.{outcome_of, rows_of}
use Rattle.guard.specs.Closure.{State}
use Rattle.guard.specs.Guard.{Guard}
use Rattle.guard.specs.Limits.{Limits}
use Rattle.guard.specs.Search.{Counts}
use Rattle.guard.specs.Shown.{Shows}
use Rattle.guard.specs.declared.Answer.TheVariants.{Sat}
use Rattle.tables.specs.Layout.{row_table}
use Rattle.reader.specs.Reader.{guard_tables}
use Rattle.reader.specs.declared.Tables.{Tables}
use Rattle.search.specs.Nodes.{Accepted, OpenLeaf}
use Rattle.messages.specs.Messages.{Draws, DrawsFor, OpenTables, RoomFor, rows_enough}
use Rattle.messages.proofs.CallLaws.{many-types}
use Rattle.messages.proofs.FewRows.{rows-small}
use Rattle.openanswer.specs.Open.{AnswersOpen}
use Rattle.cleared.proofs.Cleared.{part-cleared, zero_back, zero_front, zero_length, zero_from}
use Rattle.openanswer.proofs.Drawn.{drawn-shows}

table-terms : (g : Guard) → (guard_tables g).rows.many ≡ length g.rows
unfolding guard_tables row_table
table-terms g = refl

accepted-terms : (g : Guard) → Accepted g → length g.rows ≤ 24
accepted-terms g a = omega (arith, a.well_formed.term_count, a.supported.terms)

module _ (tables : Tables) (s : State) (rows places : List ℤ) (n : ℕ) (rows₁ places₁ : List ℤ) (draws : DrawsFor tables s rows places n rows₁ places₁) (found : OpenTables tables s)
    (room : RoomFor tables rows places) where
  drawn_of : (g : Guard) → Accepted g → tables ≡ guard_tables g → OpenLeaf g s → Draws g n rows places rows₁ places₁
  unfolding DrawsFor
  drawn_of = draws

  drawn : Draws found.guard n rows places rows₁ places₁
  drawn = drawn_of found.guard found.accepted found.is found.leaf

  terms-are : (g : Guard) → tables ≡ guard_tables g → tables.rows.many ≡ length g.rows
  terms-are g is = ap (λ (t : Tables). t.rows.many) is ∙ table-terms g

  -- ---- what is drawn lies within the buffers

  few-terms : tables.rows.many ≤ 24
  few-terms = omega (arith, terms-are found.guard found.is, accepted-terms found.guard found.accepted)

  rows_few : n ≤ rows_enough tables.types.many tables.rows.many
  rows_few =
      subst (λ (k : ℕ). n ≤ k) (sym (ap₂ (λ (a b : ℕ). rows_enough a b) (many-types tables found.guard found.accepted found.is) (terms-are found.guard found.is))) drawn.few

  types-few : tables.types.many ≤ 6
  types-few = omega (arith, many-types tables found.guard found.accepted found.is, found.accepted.well_formed.type_count, found.accepted.supported.types)

  rows-low : (k : ℕ) → n ≤ k → k ≤ 4096 → 4 * k ≤ length rows → (n ≤ 4096) × (4 * n ≤ length rows₁)
  rows-low k h l m = (omega arith, omega (arith, drawn.long_rows))

  pub drawn_fits : (n ≤ 4096) × (tables.rows.many ≤ 24) × (4 * n ≤ length rows₁) × (tables.rows.many ≤ length places₁)
  drawn_fits =
      let (low, long) = rows-low (rows_enough tables.types.many tables.rows.many) rows_few (rows-small tables.types.many tables.rows.many types-few few-terms) room.0 in
      (low, few-terms, long, omega (arith, drawn.long_places, room.1))

  rows-within : 4 * n ≤ length rows₁
  rows-within = drawn_fits.2

  terms-within : tables.rows.many ≤ length places₁
  terms-within = drawn_fits.3

  -- ---- the answer

  abbrev shown_rows : List ℤ
  shown_rows = zero_from (4 * n) rows₁

  abbrev shown_places : List ℤ
  shown_places = zero_from tables.rows.many places₁

  shows : (g : Guard) → Accepted g → tables ≡ guard_tables g → OpenLeaf g s → (limits : Limits) → rows_enough (length g.types) (length g.rows) ≤ limits.rows → Shows limits g n shown_rows shown_places
  shows g a is leaf limits most =
      let many : tables.rows.many ≡ length g.rows = terms-are g is in
      drawn-shows g n rows places rows₁ places₁ shown_rows shown_places (drawn_of g a is leaf) (zero_front (4 * n) rows₁ rows-within)
      (subst (λ (k : ℕ). take k shown_places ≡ take k places₁) many (zero_front tables.rows.many places₁ terms-within)) limits most
      (zero_back (4 * n) rows₁ rows-within)
      (subst (λ (k : ℕ). drop k shown_places ≡ replicate (length shown_places - k) (pos 0)) many (zero_back tables.rows.many places₁ terms-within))

  open_zeroed : (c : Counts) → AnswersOpen tables s c rows places (Sat c.nodes c.first c.second n) shown_rows shown_places
  unfolding outcome_of rows_of
  open_zeroed c =
      record {
        says = refl;
        long_rows = zero_length (4 * n) rows₁ rows-within ∙ drawn.long_rows;
        long_places = zero_length tables.rows.many places₁ terms-within ∙ drawn.long_places;
        shown = shows;
      }

  -- the parts past the last row and the last place were lent, and came back as zeros
  module _ (c : Counts) (ys zs : List ℤ) (rows_cleared : ys ≡ replicate (length (take (length rows₁ - 4 * n) (drop (4 * n) rows₁))) (pos 0))
      (places_cleared : zs ≡ replicate (length (take (length places₁ - tables.rows.many) (drop tables.rows.many places₁))) (pos 0)) where
    abbrev Answered : List ℤ → List ℤ → Type 0
    Answered = AnswersOpen tables s c rows places (Sat c.nodes c.first c.second n)

    pub open_answered : Answered (take (4 * n) rows₁ ++ (ys ++ drop (length rows₁ - 4 * n) (drop (4 * n) rows₁)))
        (take tables.rows.many places₁ ++ (zs ++ drop (length places₁ - tables.rows.many) (drop tables.rows.many places₁)))
    open_answered =
        subst (λ (rs : List ℤ). Answered rs (take tables.rows.many places₁ ++ (zs ++ drop (length places₁ - tables.rows.many) (drop tables.rows.many places₁))))
        (sym (part-cleared (4 * n) rows₁ ys rows_cleared)) (subst (Answered shown_rows) (sym (part-cleared tables.rows.many places₁ zs places_cleared)) (open_zeroed c))
