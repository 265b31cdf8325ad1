-- The arrays of a well-formed guard's problem: each slot is of a read, a build or a term of the guard's table, or empty, and each of
-- these has its slot. So the numbers in the arrays are those of terms and types. Assumes nothing.
use mathlib.Core.Path.{◌≡◌, refl, ap, ap₂, sym, ◌∙◌, subst}
use mathlib.Core.List.{List, [], Memᴰ}
use mathlib.Core.Logic.{◌⊎◌, inl, inr}
use mathlib.Core.Option.{Option, none, some}
use Prim.Native.Nat.{ℕ, zero, suc, ◌+◌, ◌*◌, ◌-◌, ◌^◌, ◌≤◌, ◌<◌}
use native.Mathlib.Nat.{add-zero}
use native.Mathlib.Omega.{arith}
use lib.Dec.{eqb, ltb}
use lib.ListN.{get_or-eq_default, get_or, length}
use borrow.Author.Tests.{eq-eqb, ltb-false, ltb-true}
use Rattle.laws.specs.All.{All, All.more, All.none}
use Rattle.laws.proofs.Bools.{by_test, either}
use Rattle.laws.specs.Lists.{from}
use Rattle.laws.proofs.Lists.{any_of, map-length, mem_from}
use Rattle.guard.specs.Closure.{every_variant}
use Rattle.guard.specs.Guard.{Guard, Row, Row.built, Row.constant, Row.field, Row.variable, row_at, type_at}
use Rattle.guard.specs.Limits.{Limits, Supported, total_variant_limit, variant_limit}
use Rattle.guard.specs.Message.{Message, Message.made, Message.number, Parts}
use Rattle.guard.specs.Terms.{Build, Read, Table, as_build, default_term, read_at, sibling_term, table_of, term_count}
use Rattle.guard.specs.Types.{Types, defaults, fields_of}
use Rattle.guard.specs.WellFormed.{RowFits, WellFormed}
use Rattle.guard.proofs.ClosureBelow.{InRange}
use Rattle.guard.proofs.TableLaws.{build-default, build_inv, build-row, default_build_of, few-rows, read_inv, read-row, row-fit, table_in_range}
use Rattle.tables.specs.Layout.{flat, pad}
use Rattle.tables.proofs.Columns.{pad_get}
use Rattle.arrays.specs.Arrays.{default_shape, fieldless_of, kind_number, no_shape, reads_of, row_read, row_shape, shape, shapes_of, sorts_of}
use Rattle.arrays.proofs.SlotLaws.{default-shape-at, field-length, fieldless-at, fieldless-none, no-default-shape, no-row-read, no-row-shape, row-read-at, row-shape-at, sort_of, sort-term, sorts-small}
use Rattle.arrays.specs.Slots.{ReadsFit, ShapesFit, SortsFit, kind_at, many_at, others_at, owner_at, part_at, read_bit}
use Rattle.arrays.proofs.TableSlots.{ReadSlot, ReadSlots, ShapeSlot, ShapeSlots, Shaped, Shaped.of_build, Shaped.of_read, SortSlots}

-- slot k, of so many places each, is this list
abbrev Stands : List ℕ → ℕ → ℕ → List ℕ → Type 0
Stands array width k xs = (j : ℕ) → j < width → get_or array (width * k + j) 0 ≡ get_or xs j 0

-- the first place of a slot
head-place : (array : List ℕ) (width k : ℕ) → get_or array (width * k) 0 ≡ get_or array (width * k + 0) 0
head-place array width k = ap (λ (n : ℕ). get_or array n 0) (sym (add-zero (width * k)))

-- the places of a shape's parts
part-place : (array : List ℕ) (k p : ℕ) → part_at array k p ≡ get_or array (8 * k + suc (suc (suc (suc p)))) 0
part-place array k p = let e : 8 * k + 4 + p ≡ 8 * k + suc (suc (suc (suc p))) = omega arith in ap (λ (n : ℕ). get_or array n 0) e

-- a number of a list of terms, or 0 past its end
at_small : {xs : List ℕ} → All (λ x. x < term_count) xs → (p : ℕ) → get_or xs p 0 < term_count
at_small none p = omega arith
at_small (more h hs) zero = h
at_small (more h hs) (suc p) = at_small hs p

-- a shape has the fields of its build
module _ (t : Table) (array : List ℕ) (k others : ℕ) (b : Build) (h : Stands array 8 k (shape b.term b.type b.variant others b.parts)) where
  shape_slot : b.variant < variant_limit → length b.parts ≤ 3 → length b.parts ≡ length (fields_of t.types b.type b.variant) → ShapeSlot t array k b
  shape_slot fits few arity =
      record {
        owner = head-place array 8 k ∙ h 0 (omega arith);
        kind = h 1 (omega arith);
        many = h 3 (omega arith);
        few = few;
        part = λ p l. part-place array k p ∙ h (suc (suc (suc (suc p)))) (omega arith) ∙ pad_get 0 4 p b.parts;
        variant_fits = fits;
        arity = arity;
      }

  shape-others : others_at array k ≡ others
  shape-others = h 2 (omega arith)

module _ (limits : Limits) (sup : Supported limits) (g : Guard) (ok : WellFormed limits g) (total : length (flat g.types) ≤ total_variant_limit) where
  abbrev ts : Types
  ts = g.types

  abbrev rs : List Row
  rs = g.rows

  ranged : InRange (table_of g)
  ranged = table_in_range limits sup g ok

  rows_few : length rs ≤ 24
  rows_few = few-rows limits sup g ok

  types-few : length ts ≤ 6
  types-few = omega (arith, ok.type_count, sup.types)

  -- ---- reads

  read_slot : (i t a v p : ℕ) → i < length rs → row_at rs i ≡ field t a v p → ReadSlot (reads_of g) i (read_at ts i t a v p)
  read_slot i t a v p h e =
      let f : RowFits ts rs i (field t a v p) = row-fit limits sup g ok i (field t a v p) h e in
      record {
        row = refl;
        term = head-place (reads_of g) 4 i ∙ stands 0 (omega arith);
        key = stands 1 (omega arith);
        bit = stands 2 (omega arith);
        default = stands 3 (omega arith);
        variant_fits = omega (arith, f.2, ok.variant_counts t);
        position_fits = omega (arith, f.3, ok.field_counts t v);
      }
    where
      stands : Stands (reads_of g) 4 i (row_read ts i (field t a v p))
      stands j l = row-read-at limits sup g ok total i j h l ∙ ap (λ (w : Row). get_or (row_read ts i w) j 0) e

  abbrev IsRead : ℕ → Type 0
  IsRead k = (r : Read) × Memᴰ r (table_of g).reads × ReadSlot (reads_of g) k r

  read-cases : (k : ℕ) → IsRead k ⊎ Stands (reads_of g) 4 k (pad 4 [])
  read-cases k = by_test (ltb k (length rs)) (λ b. row (ltb-true _ _ b) (row_at rs k) refl) (λ b. inr (λ j l. no-row-read limits sup g ok total k j (ltb-false k (length rs) b) ∙ sym (pad_get 0 4 j [])))
    where
      row : k < length rs → (w : Row) → row_at rs k ≡ w → IsRead k ⊎ Stands (reads_of g) 4 k (pad 4 [])
      row h (variable t) e = inr (λ j l. row-read-at limits sup g ok total k j h l ∙ ap (λ (w : Row). get_or (row_read ts k w) j 0) e)
      row h (constant t z) e = inr (λ j l. row-read-at limits sup g ok total k j h l ∙ ap (λ (w : Row). get_or (row_read ts k w) j 0) e)
      row h (built t v ps) e = inr (λ j l. row-read-at limits sup g ok total k j h l ∙ ap (λ (w : Row). get_or (row_read ts k w) j 0) e)
      row h (field t a v p) e = inl (read_at ts k t a v p, read-row g k t a v p h e, read_slot k t a v p h e)

  pub read_slots : ReadSlots (table_of g) (reads_of g)
  read_slots =
      record {
        found = λ k h n. either (λ r. r) (λ z. absurd (n (z 1 (omega arith)))) (read-cases k);
        slot = read_inv g (λ r. (r.row < 24) × ReadSlot (reads_of g) r.row r) (λ i t a v p h e. (omega (arith, rows_few), read_slot i t a v p h e));
      }

  pub reads_fit_lem : ReadsFit (reads_of g)
  reads_fit_lem =
      record {
        term = λ k h. either (λ x. omega (arith, x.2.term, (ranged.reads x.0 x.1).1)) (λ z. omega (arith, head-place (reads_of g) 4 k, z 0 (omega arith))) (read-cases k);
        default = λ k h. either (λ x. omega (arith, x.2.default, (ranged.reads x.0 x.1).3)) (λ z. omega (arith, z 3 (omega arith))) (read-cases k);
        bit = λ k h n. let (r, m, slot) = read_slots.found k h n in any_of (λ v. eqb (read_bit (reads_of g) k) (2 ^ v)) (from variant_limit 0) r.variant (mem_from variant_limit 0 r.variant (omega arith) (omega (arith, slot.variant_fits))) (eq-eqb _ _ slot.bit);
      }

  -- ---- shapes

  slot_of : (k others : ℕ) (b : Build) → Stands (shapes_of g) 8 k (shape b.term b.type b.variant others b.parts) → b.variant < variant_limit
      → length b.parts ≡ length (fields_of ts b.type b.variant) → ShapeSlot (table_of g) (shapes_of g) k b × (others_at (shapes_of g) k ≡ others)
  unfolding table_of
  slot_of k others b h fits arity =
      (shape_slot (table_of g) (shapes_of g) k others b h fits (omega (arith, arity, ok.field_counts b.type b.variant)) arity, shape-others (table_of g) (shapes_of g) k others b h)

  row_stands : (i : ℕ) (w : Row) → i < length rs → row_at rs i ≡ w → Stands (shapes_of g) 8 i (row_shape ts i w)
  row_stands i w h e j l = row-shape-at limits sup g ok total i j h l ∙ ap (λ (w : Row). get_or (row_shape ts i w) j 0) e

  default_stands : (t : ℕ) (o : Option Message) → t < length ts → get_or (defaults ts) t none ≡ o → Stands (shapes_of g) 8 (24 + t) (default_shape ts t o)
  default_stands t o h e j l = default-shape-at limits sup g ok total t j h l ∙ ap (λ (o : Option Message). get_or (default_shape ts t o) j 0) e

  built_slot : (i t v : ℕ) (ps : List ℕ) → i < length rs → row_at rs i ≡ built t v ps
      → ShapeSlot (table_of g) (shapes_of g) i (record { term = i; type = t; variant = v; parts = ps }) × (others_at (shapes_of g) i ≡ 0)
  built_slot i t v ps h e =
      let f : RowFits ts rs i (built t v ps) = row-fit limits sup g ok i (built t v ps) h e in
      slot_of i 0 (record { term = i; type = t; variant = v; parts = ps }) (row_stands i (built t v ps) h e) (ranged.builds _ (build-row g i t v ps h e)).1
      (sym (map-length (type_at ts rs) ps) ∙ ap length f.3)

  field_slot : (i t a v p : ℕ) → i < length rs → row_at rs i ≡ field t a v p
      → ShapeSlot (table_of g) (shapes_of g) i (as_build (read_at ts i t a v p)) × (others_at (shapes_of g) i ≡ every_variant - 2 ^ v)
  field_slot i t a v p h e =
      slot_of i (every_variant - 2 ^ v) (as_build (read_at ts i t a v p)) (row_stands i (field t a v p) h e) (ranged.reads _ (read-row g i t a v p h e)).2
      (field-length i p 0 (sibling_term i) (fields_of ts t v))

  default_slot : (t u v : ℕ) (ms : Parts) → t < length ts → get_or (defaults ts) t none ≡ some (made u v ms)
      → ShapeSlot (table_of g) (shapes_of g) (24 + t) (default_build_of ts t v) × (others_at (shapes_of g) (24 + t) ≡ 0)
  default_slot t u v ms h e =
      slot_of (24 + t) 0 (default_build_of ts t v) (default_stands t (some (made u v ms)) h e) (ranged.builds _ (build-default g t u v ms h e)).1 (map-length default_term (fields_of ts t v))

  abbrev ShapeCases : ℕ → Type 0
  ShapeCases k = Shaped (table_of g) (shapes_of g) k ⊎ Stands (shapes_of g) 8 k no_shape

  shape-cases : (k : ℕ) → k < 30 → ShapeCases k
  shape-cases k h =
      by_test (ltb k 24)
      (λ b. by_test (ltb k (length rs)) (λ c. row (ltb-true _ _ c) (row_at rs k) refl) (λ c. inr (λ j l. no-row-shape limits sup g ok total k j (ltb-false k (length rs) c) (ltb-true _ _ b) l ∙ sym (pad_get 0 8 j []))))
      (λ b. let e : 24 + (k - 24) ≡ k = omega (arith, ltb-false k 24 b) in subst ShapeCases e (of_default (k - 24)))
    where
      row : k < length rs → (w : Row) → row_at rs k ≡ w → ShapeCases k
      row h (variable t) e = inr (row_stands k (variable t) h e)
      row h (constant t z) e = inr (row_stands k (constant t z) h e)
      row h (built t v ps) e = let (x, o) = built_slot k t v ps h e in inl (of_build _ (build-row g k t v ps h e) x o)
      row h (field t a v p) e = let (x, o) = field_slot k t a v p h e in inl (of_read _ (read-row g k t a v p h e) x o)

      of_default : (t : ℕ) → ShapeCases (24 + t)
      of_default t =
          by_test (ltb t (length ts)) (λ c. go (ltb-true _ _ c) (get_or (defaults ts) t none) refl)
          (λ c. inr (λ j l. no-default-shape limits sup g ok total t j (ltb-false t (length ts) c) ∙ sym (pad_get 0 8 j [])))
        where
          go : t < length ts → (o : Option Message) → get_or (defaults ts) t none ≡ o → ShapeCases (24 + t)
          go h none e = inr (default_stands t none h e)
          go h (some (number u z)) e = inr (default_stands t (some (number u z)) h e)
          go h (some (made u v ms)) e = let (x, o) = default_slot t u v ms h e in inl (of_build _ (build-default g t u v ms h e) x o)

  pub shape_slots : ShapeSlots (table_of g) (shapes_of g)
  shape_slots =
      record {
        found = λ k h n. either (λ x. x) (λ z. absurd (n (z 1 (omega arith)))) (shape-cases k h);
        slot_build =
            build_inv g (λ b. (k : ℕ) × (k < 30) × ShapeSlot (table_of g) (shapes_of g) k b × (others_at (shapes_of g) k ≡ 0))
            (λ i t v ps h e. let (x, o) = built_slot i t v ps h e in (i, omega (arith, rows_few), x, o))
            (λ t u v ms h e. let (x, o) = default_slot t u v ms h e in (24 + t, omega (arith, types-few), x, o));
        slot_read =
            read_inv g (λ r. (k : ℕ) × (k < 30) × ShapeSlot (table_of g) (shapes_of g) k (as_build r) × (others_at (shapes_of g) k ≡ every_variant - 2 ^ r.variant))
            (λ i t a v p h e. let (x, o) = field_slot i t a v p h e in (i, omega (arith, rows_few), x, o));
      }

  -- the numbers of a slot in use are those of terms
  record Numbered (k : ℕ) : Type 0 where
    owner : owner_at (shapes_of g) k < term_count
    many : many_at (shapes_of g) k ≤ 3
    part : (p : ℕ) → p < 3 → part_at (shapes_of g) k p < term_count

  numbered : (k : ℕ) (b : Build) → ShapeSlot (table_of g) (shapes_of g) k b → b.term < term_count → All (λ p. p < term_count) b.parts → Numbered k
  numbered k b x h hs =
      record {
        owner = omega (arith, x.owner);
        many = omega (arith, x.many, x.few);
        part = λ p l. omega (arith, x.part p (omega arith), at_small hs p);
      }

  -- the build of a slot in use
  abbrev SlotBuild : ℕ → Type 0
  SlotBuild k = (b : Build) × ShapeSlot (table_of g) (shapes_of g) k b

  pub shapes-fit : ShapesFit (shapes_of g)
  shapes-fit =
      record {
        owner = λ k h. either (λ x. omega (arith, (of_shaped k x).owner)) (λ z. omega (arith, head-place (shapes_of g) 8 k, z 0 (omega arith))) (shape-cases k h);
        others = λ k h. either (λ x. shaped_others k x) (λ z. omega (arith, z 2 (omega arith))) (shape-cases k h);
        many = λ k h. either (λ x. (of_shaped k x).many) (λ z. omega (arith, z 3 (omega arith))) (shape-cases k h);
        part = λ k p h l. either (λ x. omega (arith, (of_shaped k x).part p l)) (λ z. omega (arith, no_part k p l z)) (shape-cases k h);
        arity = λ k i hk hi e. either (λ x. either (λ y. same-arity k i e (slot_build_lem k x) (slot_build_lem i y)) (λ z. absurd (slot_kind k (slot_build_lem k x) (e ∙ z 1 (omega arith)))) (shape-cases i hi))
            (λ z. either (λ y. absurd (slot_kind i (slot_build_lem i y) (sym e ∙ z 1 (omega arith)))) (λ u. z 3 (omega arith) ∙ sym (u 3 (omega arith))) (shape-cases i hi)) (shape-cases k hk);
        past = λ k p h l m. either (λ x. past-parts k p l m (slot_build_lem k x)) (no_part k p l) (shape-cases k h);
      }
    where
      slot_build_lem : (k : ℕ) → Shaped (table_of g) (shapes_of g) k → SlotBuild k
      slot_build_lem k (of_build b m x o) = (b, x)
      slot_build_lem k (of_read r m x o) = (as_build r, x)

      slot_kind : (k : ℕ) → SlotBuild k → ¬ (kind_at (shapes_of g) k ≡ 0)
      slot_kind k (b, x) z = omega (arith, z, x.kind)

      same-arity : (k i : ℕ) → kind_at (shapes_of g) k ≡ kind_at (shapes_of g) i → SlotBuild k → SlotBuild i → many_at (shapes_of g) k ≡ many_at (shapes_of g) i
      same-arity k i e (b, x) (a, y) =
          let z : kind_number b.type b.variant ≡ kind_number a.type a.variant = sym x.kind ∙ e ∙ y.kind in
          let types : b.type ≡ a.type = omega (arith, z, x.variant_fits, y.variant_fits) in
          let variants : b.variant ≡ a.variant = omega (arith, z, x.variant_fits, y.variant_fits) in
          x.many ∙ x.arity ∙ ap₂ (λ (u v : ℕ). length (fields_of (table_of g).types u v)) types variants ∙ sym y.arity ∙ sym y.many

      past-parts : (k p : ℕ) → p < 3 → many_at (shapes_of g) k ≤ p → SlotBuild k → part_at (shapes_of g) k p ≡ 0
      past-parts k p l m (b, x) = x.part p (omega arith) ∙ get_or-eq_default b.parts 0 {n = p} (omega (arith, m, x.many))

      of_shaped : (k : ℕ) → Shaped (table_of g) (shapes_of g) k → Numbered k
      of_shaped k (of_build b m x o) = numbered k b x (ranged.builds b m).0 (ranged.builds b m).2
      of_shaped k (of_read r m x o) = numbered k (as_build r) x (ranged.reads r m).1 (ranged.reads r m).4

      shaped_others : (k : ℕ) → Shaped (table_of g) (shapes_of g) k → others_at (shapes_of g) k < 2 ^ variant_limit
      shaped_others k (of_build b m x o) = omega (arith, o)
      shaped_others k (of_read r m x o) = omega (arith, o)

      no_part : (k p : ℕ) → p < 3 → Stands (shapes_of g) 8 k no_shape → part_at (shapes_of g) k p ≡ 0
      no_part k p l z = part-place (shapes_of g) k p ∙ z (suc (suc (suc (suc p)))) (omega arith) ∙ pad_get 0 8 (suc (suc (suc (suc p)))) []

  -- ---- terms

  pub sort_slots : SortSlots (table_of g) (sorts_of g) (fieldless_of g)
  unfolding table_of
  sort_slots =
      record {
        found = sort-term limits sup g ok total;
        slot = λ a m. ((ranged.terms a m).0, sort_of limits sup g ok total a m);
        no_mask = fieldless-none limits sup g ok total;
        mask = fieldless-at limits sup g ok total;
        few_variants = ok.variant_counts;
      }

  pub sorts-fit : SortsFit (sorts_of g)
  sorts-fit = record { sort = sorts-small limits sup g ok total }
