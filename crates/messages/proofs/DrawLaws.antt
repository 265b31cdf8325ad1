-- Rows for all classes that get a message, with the places of the terms, show messages under which the guard holds: place i
-- has the row of term i's class, which shows the class's message; and each row lies under the row of a class that is
-- needed, so that of a term or a part of one that is. Assumes nothing.
use mathlib.Core.Path.{◌≡◌, refl, ap, sym, ◌∙◌, subst}
use mathlib.Core.Bool.{true}
use mathlib.Core.List.{List, map}
use Prim.Native.Nat.{ℕ, suc, ◌<◌}
use native.Mathlib.Omega.{arith}
use native.Mathlib.Nat.{zero-add}
use lib.IntN.{ℤ, pos}
use lib.ListN.{length, get_or}
use borrow.Author.Tests.{eq-eqb, lt-ltb}
use lib.Dec.{eqb}
use Rattle.laws.specs.Lists.{from}
use Rattle.laws.proofs.Bools.{and_both}
use Rattle.laws.proofs.Lists.{map-from-at, map-from-length}
use Rattle.guard.specs.Closure.{State, class_of}
use Rattle.guard.specs.Guard.{Guard}
use Rattle.guard.specs.Message.{Message, no_message}
use Rattle.guard.specs.Shown.{Reached, Reached.part, Reached.place, is_below, natural, shown}
use Rattle.guard.proofs.ClosureState.{Small}
use Rattle.guard.proofs.TableLaws.{few-rows}
use Rattle.models.proofs.Drawing.{drawn-holds, drawn-values, shown_by}
use Rattle.classes.specs.Held.{Held}
use Rattle.arrays.specs.Arrays.{shapes_of}
use Rattle.arrays.specs.Slots.{active, many_at, owner_at, part_at}
use Rattle.search.specs.Nodes.{Accepted, OpenLeaf}
use Rattle.rowstore.specs.Store.{message_at}
use Rattle.kinds.specs.Found.{is_shape}
use Rattle.needed.specs.Needed.{Needed, Needed.of_part, Needed.of_row, own_class}
use Rattle.drawnrows.specs.Drawing.{Under, Under.here, Under.part}
use Rattle.plans.specs.Plans.{OpenState, highest_rank, open_of, plan_for}
use Rattle.leaf.specs.declared.Leaf.{Leaf}
use Rattle.leaf.specs.Leaf.{open_state}
use Rattle.leaf.specs.Picture.{Pictured, ShapeIs, Wanted, part_class}
use Rattle.leaf.specs.Sheet.{HasRow, Placed, Sheet}
use Rattle.messages.specs.Messages.{Draws}
use Rattle.messages.specs.Rows.{LeafOf, PlacesSet, RowsDrawn}
use Rattle.messages.proofs.FewRows.{node-rows}
use Rattle.messages.proofs.OpenLaws.{drawing, is_open, message, message-pictured, nd, need_wanted, o, rank, wanted_need}
use Rattle.messages.proofs.RowParts.{PartOf, row-part}

-- what is under a row that is reached is reached
under-reached : (g : Guard) (rows places : List ℤ) (r i : ℕ) → Reached g rows places r → Under g.types rows r i → Reached g rows places i
under-reached g rows places r i a here = a
under-reached g rows places r i a (part j p u l) = part j p (under-reached g rows places r j a u) l

module _ (g : Guard) (ok : Accepted g) (s : State) (open' : OpenLeaf g s) (held : Held s.classes) (small : Small s) (leaf : Leaf) (is : LeafOf g s leaf)
    (entry_rows : List ℤ) (at : List ℕ) (rows : List ℤ) (many : ℕ) (rows_drawn : RowsDrawn g.types leaf entry_rows at rows many)
    (entry_places places : List ℤ) (places_set : PlacesSet s.classes at (length g.rows) entry_places places) where
  abbrev x : OpenState
  x = open_of g s leaf.marks

  same : open_state g.types leaf ≡ x
  same = is_open g ok s open' held small leaf is

  abbrev val : ℕ → Message
  val = message g ok s open' held small leaf is

  pic : Pictured (open_state g.types leaf) val
  pic = message-pictured g ok s open' held small leaf is

  open_pic : Pictured (open_of g s leaf.marks) val
  open_pic = subst (λ (y : OpenState). Pictured y val) same pic

  sheet : Sheet (open_of g s leaf.marks) val rows many rows_drawn.drawn at
  sheet = subst (λ (y : OpenState). Sheet y val rows many rows_drawn.drawn at) same (rows_drawn.sheet val pic)

  abbrev Need : ℕ → Type 0
  Need = Needed (shapes_of g) s (length g.rows)

  wanted : (c : ℕ) → Need c → Wanted (open_of g s leaf.marks) c
  wanted = need_wanted g ok s open' held small leaf is

  row_of : (c : ℕ) → Need c → HasRow at c
  row_of c n = rows_drawn.all c (subst (λ (y : OpenState). Wanted y c) (sym same) (wanted c n))

  -- a class has one row
  one-row : (c r q : ℕ) → Placed at c r → Placed at c q → r ≡ q
  one-row c r q a b = let z : suc r ≡ suc q = sym a ∙ b in omega arith

  few-terms : (i : ℕ) → i < length g.rows → i < 78
  few-terms i h = omega (arith, few-rows ok.limits ok.supported g ok.well_formed)

  shape-here : (k : ℕ) → active (shapes_of g) s k ≡ true → is_shape (shapes_of g) s (own_class (shapes_of g) s k) k ≡ true
  unfolding is_shape
  shape-here k a = and_both (active (shapes_of g) s k) (eqb (class_of s (owner_at (shapes_of g) k)) (own_class (shapes_of g) s k)) a (eq-eqb (class_of s (owner_at (shapes_of g) k)) (own_class (shapes_of g) s k) refl)

  -- ---- places

  place-row : (i r : ℕ) → i < length g.rows → Placed at (class_of s i) r → get_or places i (pos 0) ≡ pos r
  place-row i r h e = places_set.set i h ∙ ap pos (let z : get_or at (class_of s i) 0 ≡ suc r = e in omega arith)

  class_need : (i : ℕ) → i < length g.rows → Need (class_of s i)
  class_need i h = of_row i h refl

  place_at_lem : (i : ℕ) (h : i < length g.rows) → get_or places i (pos 0) ≡ pos (row_of (class_of s i) (class_need i h)).0
  place_at_lem i h = place-row i (row_of (class_of s i) (class_need i h)).0 h (row_of (class_of s i) (class_need i h)).1

  shown-at : (i : ℕ) → i < length g.rows → shown g many rows places i ≡ val (class_of s i)
  shown-at i h =
      ap (λ (z : ℤ). message_at g.types rows many (natural z)) (place_at_lem i h)
      ∙ sheet.shows (class_of s i) (row_of (class_of s i) (class_need i h)).0 (row_of (class_of s i) (class_need i h)).1

  -- ---- every row is reached

  reached_class : (c : ℕ) → Need c → (r : ℕ) → Placed at c r → Reached g rows places r
  reached_class c (of_row i h e) r p =
      subst (Reached g rows places) (ap natural (place-row i r h (subst (λ (d : ℕ). Placed at d r) (sym e) p))) (place i h)
  reached_class c (of_part k p hk hp a n e) r q = go (reached_class (own_class (shapes_of g) s k) n)
    where
      d : ℕ
      d = own_class (shapes_of g) s k

      shape : ShapeIs (open_of g s leaf.marks) val d k
      shape = open_pic.shape d k (wanted d n) hk (shape-here k a)

      parts : List Message
      parts = map (λ j. val (part_class (open_of g s leaf.marks) val k j)) (from (many_at (shapes_of g) k) 0)

      go : ((r' : ℕ) → Placed at d r' → Reached g rows places r') → Reached g rows places r
      go own =
          let (r', h) = row_of d n in
          let found : PartOf g.types rows many r' p (get_or parts p no_message) =
          row-part g.types rows many sheet.store.stored r' (sheet.there d r' h) shape.type shape.variant parts (sheet.shows d r' h ∙ shape.value) p
          (omega (arith, hp, map-from-length (λ j. val (part_class (open_of g s leaf.marks) val k j)) (many_at (shapes_of g) k) 0)) in
          let value : get_or parts p no_message ≡ val c =
          map-from-at (λ j. val (part_class (open_of g s leaf.marks) val k j)) (many_at (shapes_of g) k) 0 p no_message hp ∙ ap (λ (j : ℕ). val (class_of s (part_at (shapes_of g) k j))) (zero-add p) ∙ ap val e in
          subst (Reached g rows places) (sheet.store.stored.apart _ r found.below (sheet.there c r q) (found.shows ∙ value ∙ sym (sheet.shows c r q))) (part r' p (own r' h) found.counted)

  rows-reached : (i : ℕ) → i < many → Reached g rows places i
  rows-reached i h =
      let (c, r, p, u) = sheet.under i h in
      under-reached g rows places r i (reached_class c (wanted_need g ok s open' held small leaf is c (sheet.only c (r, p))) r p) u

  shown_by_lem : (i : ℕ) → i < length g.rows → shown g many rows places i ≡ shown_by ok.limits ok.supported g ok.well_formed open'.literals (nd g ok s open' held small leaf is) (o g ok s open' held small leaf is) Need (plan_for x) i
  unfolding message
  shown_by_lem i h = shown-at i h ∙ ap val (open'.agrees.class i (few-terms i h))

  pub draws : Draws g many entry_rows entry_places rows places
  draws = record {
    few = omega (arith, sheet.room, node-rows g ok s open' held small leaf is);
    fit = sheet.store.stored.fit;
    apart = sheet.store.stored.apart;
    reached = rows-reached;
    placed = λ i h. ap (is_below many) (place_at_lem i h) ∙ lt-ltb _ many (sheet.there (class_of s i) _ (row_of (class_of s i) (class_need i h)).1);
    valued = drawn-values ok.limits ok.supported g ok.well_formed open'.literals (nd g ok s open' held small leaf is) (o g ok s open' held small leaf is) Need (plan_for x) (rank g ok s open' held small leaf is) (highest_rank x)
        (drawing g ok s open' held small leaf is) (shown g many rows places) shown_by_lem;
    holds = drawn-holds ok.limits ok.supported g ok.well_formed open'.literals (nd g ok s open' held small leaf is) (o g ok s open' held small leaf is) Need (plan_for x) (rank g ok s open' held small leaf is) (highest_rank x)
        (drawing g ok s open' held small leaf is) (shown g many rows places) shown_by_lem;
    kept_rows = rows_drawn.grown.rest;
    kept_places = places_set.kept;
    long_rows = rows_drawn.grown.long;
    long_places = places_set.long;
  }
