-- A class that something fixes is drawn: a shape over the rows of its parts, which have lower ranks and so are there, a
-- constant, or one fieldless variant. Assumes nothing.
use mathlib.Core.Path.{◌≡◌, refl, ap, sym, ◌∙◌, subst}
use mathlib.Core.Bool.{Bool, true, cond, false≢true}
use mathlib.Core.List.{List, [], ◌∷◌, map}
use Prim.Native.Nat.{ℕ, zero, suc, ◌+◌, ◌*◌, ◌-◌, ◌/◌, ◌%◌, ◌≤◌, ◌<◌}
use native.Mathlib.Omega.{arith}
use lib.Dec.{leb, ltb}
use lib.IntN.{ℤ, pos}
use lib.ListN.{length, get_or, get_or-map}
use borrow.Author.Tests.{lt-ltb, le-leb, le-ltb, leb-false, ltb-false, ltb-true}
use Rattle.laws.specs.Lists.{from}
use Rattle.laws.proofs.Bools.{and_both, by_test}
use Rattle.laws.proofs.Lists.{map-length}
use Rattle.laws.proofs.Positions.{least_most, least_passes}
use Rattle.guard.specs.Closure.{State, label_of}
use Rattle.guard.specs.Message.{Message, Message.made, Message.number, Parts.nil, no_message, to_parts}
use Rattle.guard.specs.Shown.{decode, is_below, message_type, natural}
use Rattle.guard.specs.Types.{Types, fields_of, is_number, variants_of}
use Rattle.std.specs.Option.{unwrap_or}
use Rattle.std.specs.declared.option.Option.{Option}
use Rattle.loops.specs.Lowest.{Finds, lowest}
use Rattle.unlikeconstants.specs.Unlike.{is_constant_of}
use Rattle.plans.proofs.CodeTests.{found_or}
use Rattle.arrays.specs.Slots.{kind_at, many_at, part_at, sort_at}
use Rattle.constants.specs.Constants.{constant_value}
use Rattle.splits.specs.Choice.{lowest_in}
use Rattle.rowstore.specs.Store.{PartRows, made_row, many_after, message_at, row_found, with_row}
use Rattle.kinds.specs.Found.{constant_of, is_shape, is_single, shape_of, single_of}
use Rattle.drawnrows.specs.Drawing.{Drew, LowRows, NumberDrawn, Store}
use Rattle.drawnrows.proofs.RowLaws.{drew_over}
use Rattle.plans.specs.Chosen.{free_at, is_marked}
use Rattle.plans.specs.Plans.{OpenState, is_free, marked, state_of}
use Rattle.leaf.specs.declared.Leaf.{Leaf}
use Rattle.leaf.specs.Leaf.{open_state}
use Rattle.leaf.specs.Picture.{ConstantIs, SingleIs, part_class}
use Rattle.leaf.specs.Sheet.{HasRow}
use Rattle.classrow.specs.ClassRow.{AtLow, ConstantDrawn, FixedDrawn, ShapeDrawn, SingleDrawn, part_row}

-- ---- rows over rows of parts

-- part rows ps of variant v of type t show the messages f
pub record PartsShow (ts : Types) (rows : List ℤ) (many t v : ℕ) (ps : List ℕ) (f : ℕ → Message) : Type 0 where
  pub small : v < 16
  pub fits : v < length (variants_of ts t)
  pub three : length ps ≡ 3
  pub few : length (fields_of ts t v) ≤ 3
  pub there : (q : ℕ) → q < length (fields_of ts t v) → get_or ps q 0 < many
  pub shows : (q : ℕ) → q < length (fields_of ts t v) → message_at ts rows many (get_or ps q 0) ≡ f q
  pub typed : (q : ℕ) → q < length (fields_of ts t v) → message_type (f q) ≡ get_or (fields_of ts t v) q 0
  pub unused : (q : ℕ) → length (fields_of ts t v) ≤ q → get_or ps q 0 ≡ 0

made-drew : (ts : Types) (rows : List ℤ) (many : ℕ) (drawn : List ℕ) → Store ts rows many drawn → 4 * many + 4 ≤ length rows → (t v : ℕ) (ps : List ℕ) (f : ℕ → Message) → PartsShow ts rows many t v ps f
    → (r : ℕ) (rows' : List ℤ) (many' : ℕ) → r ≡ row_found rows 0 many (made_row t v (map pos ps)) → rows' ≡ with_row rows many r (made_row t v (map pos ps)) → many' ≡ many_after many r
    → Drew ts rows many drawn 1 (made t v (to_parts (map f (from (length (fields_of ts t v)) 0)))) rows' many' drawn r
made-drew ts rows many drawn store long t v ps f parts r rows' many' =
    drew_over ts t v parts.small parts.fits rows many drawn store ps parts.three f part-rows long 0 (λ i l. absurd (omega arith)) r rows' many'
  where
    number_at : (q : ℕ) → get_or (map pos ps) q (pos 0) ≡ pos (get_or ps q 0)
    number_at q = get_or-map pos ps q 0

    part-rows : PartRows (decode ts rows many) many (fields_of ts t v) (map pos ps) f
    part-rows = record {
      long = omega (arith, map-length pos ps, parts.three, parts.few);
      low = λ q h. ap (is_below many) (number_at q) ∙ lt-ltb (get_or ps q 0) many (parts.there q h);
      shows = λ q h. ap (λ (x : ℤ). get_or (decode ts rows many) (natural x) no_message) (number_at q) ∙ parts.shows q h;
      typed = parts.typed;
      unused = λ q h. number_at q ∙ ap pos (parts.unused q h);
    }

-- ---- shapes

-- the rows of the three places for parts
abbrev pub part_list : List ℕ → List ℕ → List ℕ → ℕ → List ℕ
part_list shapes classes at k = part_row shapes classes at k 0 ∷ part_row shapes classes at k 1 ∷ part_row shapes classes at k 2 ∷ []

module _ (shapes classes at : List ℕ) (k : ℕ) where
  pub three_parts : {a b c : ℕ} → a ≡ part_row shapes classes at k 0 → b ≡ part_row shapes classes at k 1 → c ≡ part_row shapes classes at k 2 → a ∷ b ∷ c ∷ [] ≡ part_list shapes classes at k
  three_parts p q r = cc

  part-at : (q : ℕ) → q < 3 → get_or (part_list shapes classes at k) q 0 ≡ part_row shapes classes at k q
  part-at zero h = refl
  part-at (suc zero) h = refl
  part-at (suc (suc zero)) h = refl
  part-at (suc (suc (suc q))) h = absurd (omega arith)

  part-here : (p : ℕ) → p < many_at shapes k → part_row shapes classes at k p ≡ get_or at (get_or classes (part_at shapes k p) 0) 0 - 1
  unfolding part_row
  part-here p h = ap (λ (b : Bool). cond b (get_or at (get_or classes (part_at shapes k p) 0) 0 - 1) 0) (lt-ltb p _ h)

  pub part_missing : (p : ℕ) → many_at shapes k ≤ p → part_row shapes classes at k p ≡ 0
  unfolding part_row
  part_missing p h = ap (λ (b : Bool). cond b (get_or at (get_or classes (part_at shapes k p) 0) 0 - 1) 0) (le-ltb p _ h)

  pub part_there : (p x : ℕ) → p < many_at shapes k → x ≡ get_or at (get_or classes (part_at shapes k p) 0) 0 - 1 → x ≡ part_row shapes classes at k p
  part_there p x h e = e ∙ sym (part-here p h)

  pub part_low : AtLow at → (p : ℕ) → part_row shapes classes at k p < 4096
  part_low low p =
      by_test (ltb p (many_at shapes k)) (λ b. omega (arith, part-here p (ltb-true _ _ b), low (get_or classes (part_at shapes k p) 0)))
      (λ b. omega (arith, part_missing p (ltb-false _ _ b)))

  all-low : AtLow at → (q : ℕ) → get_or (part_list shapes classes at k) q 0 < 4096
  all-low low zero = part_low low 0
  all-low low (suc zero) = part_low low 1
  all-low low (suc (suc zero)) = part_low low 2
  all-low low (suc (suc (suc q))) = omega arith

  pub parts_low : AtLow at → LowRows (part_list shapes classes at k)
  parts_low low = (refl, all-low low)

module _ (leaf : Leaf) (at : List ℕ) (k : ℕ) (inside : k < 30) (rows : List ℤ) (many r : ℕ) (rows' : List ℤ) (many' : ℕ) (long : 4 * many + 4 ≤ length rows) (kind : ℕ) (is_kind : kind ≡ kind_at leaf.shapes.slots k - 1)
    (found : r ≡ row_found rows 0 many (made_row (kind / 16) (kind % 16) (map pos (part_list leaf.shapes.slots leaf.state.classes at k)))) (with_it : rows' ≡ with_row rows many r (made_row (kind / 16) (kind % 16) (map pos (part_list leaf.shapes.slots leaf.state.classes at k))))
    (now : many' ≡ many_after many r) where
  pub shape_drawn : ShapeDrawn leaf at rows many k rows' many' r
  shape_drawn ts val drawn c shape sheet lower =
      subst (λ (m : Message). Drew ts rows many drawn 1 m rows' many' drawn r) (sym value)
      (made-drew ts rows many drawn sheet.store long shape.type shape.variant (part_list leaf.shapes.slots leaf.state.classes at k) f parts r rows' many'
      (found ∙ ap (row_found rows 0 many) same) (with_it ∙ ap (with_row rows many r) same) now)
    where
      f : ℕ → Message
      f p = val (part_class (open_state ts leaf) val k p)

      split : (kind ≡ 16 * shape.type + shape.variant)
      split = omega (arith, is_kind, shape.kind)

      same : made_row (kind / 16) (kind % 16) (map pos (part_list leaf.shapes.slots leaf.state.classes at k)) ≡ made_row shape.type shape.variant (map pos (part_list leaf.shapes.slots leaf.state.classes at k))
      same =
          let t : kind / 16 ≡ shape.type = omega (arith, split, shape.small) in
          let v : kind % 16 ≡ shape.variant = omega (arith, split, shape.small) in
          ap (λ (u : ℕ). made_row u (kind % 16) (map pos (part_list leaf.shapes.slots leaf.state.classes at k))) t ∙ ap (λ (u : ℕ). made_row shape.type u (map pos (part_list leaf.shapes.slots leaf.state.classes at k))) v

      three : length (fields_of ts shape.type shape.variant) ≤ 3
      three = omega (arith, shape.many, leaf.shapes.fit.many k inside)

      -- the row of a part's class
      row_of : (p : ℕ) → p < many_at leaf.shapes.slots k → HasRow at (part_class (open_state ts leaf) val k p)
      row_of p h = lower (part_class (open_state ts leaf) val k p) (shape.parts p h) (shape.falls p h)

      is_row : (q : ℕ) → (h : q < many_at leaf.shapes.slots k) → get_or (part_list leaf.shapes.slots leaf.state.classes at k) q 0 ≡ (row_of q h).0
      is_row q h = part-at leaf.shapes.slots leaf.state.classes at k q (omega (arith, h, leaf.shapes.fit.many k inside)) ∙ part-here leaf.shapes.slots leaf.state.classes at k q h ∙ ap (λ (n : ℕ). n - 1) (row_of q h).1 ∙ less_one (row_of q h).0
        where
          less_one : (n : ℕ) → suc n - 1 ≡ n
          less_one n = omega arith

      counted : (q : ℕ) → q < length (fields_of ts shape.type shape.variant) → q < many_at leaf.shapes.slots k
      counted q h = omega (arith, h, shape.many)

      unused : (q : ℕ) → length (fields_of ts shape.type shape.variant) ≤ q → get_or (part_list leaf.shapes.slots leaf.state.classes at k) q 0 ≡ 0
      unused q h = by_test (ltb q 3) (λ b. part-at leaf.shapes.slots leaf.state.classes at k q (ltb-true q 3 b) ∙ part_missing leaf.shapes.slots leaf.state.classes at k q (omega (arith, h, shape.many))) (λ b. past q (ltb-false q 3 b))
        where
          past : (q : ℕ) → 3 ≤ q → get_or (part_list leaf.shapes.slots leaf.state.classes at k) q 0 ≡ 0
          past zero l = absurd (omega arith)
          past (suc zero) l = absurd (omega arith)
          past (suc (suc zero)) l = absurd (omega arith)
          past (suc (suc (suc q))) l = refl

      parts : PartsShow ts rows many shape.type shape.variant (part_list leaf.shapes.slots leaf.state.classes at k) f
      parts = record {
        small = shape.small;
        fits = shape.fits;
        three = refl;
        few = three;
        there = λ q h. subst (λ (n : ℕ). n < many) (sym (is_row q (counted q h))) (sheet.there _ _ (row_of q (counted q h)).1);
        shows = λ q h. ap (message_at ts rows many) (is_row q (counted q h)) ∙ sheet.shows _ _ (row_of q (counted q h)).1;
        typed = λ q h. shape.typed q (counted q h);
        unused = unused;
      }

      value : val c ≡ made shape.type shape.variant (to_parts (map f (from (length (fields_of ts shape.type shape.variant)) 0)))
      value = shape.value ∙ ap (λ (n : ℕ). made shape.type shape.variant (to_parts (map f (from n 0)))) shape.many

-- ---- constants

pub constant_drawn : (leaf : Leaf) (k : ℕ) (rows : List ℤ) (many t : ℕ) (z : ℤ) (r : ℕ) (rows' : List ℤ) (many' : ℕ) → t ≡ get_or leaf.constants.sorts k 0 - 1 → z ≡ constant_value leaf.constants.values k
    → NumberDrawn rows many t z rows' many' r → ConstantDrawn leaf rows many k rows' many' r
constant_drawn leaf k rows many t z r rows' many' et ez drew ts val drawn c is store =
    let e : t ≡ is.type = omega (arith, et, is.sort) in
    subst (λ (m : Message). Drew ts rows many drawn 1 m rows' many' drawn r) (sym (is.value ∙ ap (number is.type) (sym ez) ∙ ap (λ (u : ℕ). number u z) (sym e)))
    (drew ts drawn (subst (λ (u : ℕ). u < length ts) (sym e) is.known) (ap (is_number ts) e ∙ is.is_number) store)

-- ---- one fieldless variant

abbrev pub no_parts : List ℕ
no_parts = 0 ∷ 0 ∷ 0 ∷ []

none-at : (q : ℕ) → get_or no_parts q 0 ≡ 0
none-at zero = refl
none-at (suc zero) = refl
none-at (suc (suc zero)) = refl
none-at (suc (suc (suc q))) = refl

pub none_low : LowRows no_parts
none_low = (refl, λ q. omega (arith, none-at q))

pub single_drawn : (leaf : Leaf) (y : ℕ) (rows : List ℤ) (many t v r : ℕ) (rows' : List ℤ) (many' : ℕ) → 4 * many + 4 ≤ length rows → t ≡ sort_at leaf.sorts.sorts y - 1 → v ≡ lowest_in (label_of (state_of (open_state [] leaf)) y)
    → r ≡ row_found rows 0 many (made_row t v (map pos no_parts)) → rows' ≡ with_row rows many r (made_row t v (map pos no_parts)) → many' ≡ many_after many r → SingleDrawn leaf rows many y rows' many' r
single_drawn leaf y rows many t v r rows' many' long et ev found with_it now ts val drawn c is store =
    subst (λ (m : Message). Drew ts rows many drawn 1 m rows' many' drawn r) value
    (made-drew ts rows many drawn store long t v no_parts (λ q. no_message) parts r rows' many' found with_it now)
  where
    e : t ≡ is.type
    e = omega (arith, et, is.sort)

    bare : fields_of ts t v ≡ []
    bare = ap (λ (u : ℕ). fields_of ts u v) e ∙ ap (fields_of ts is.type) ev ∙ is.bare

    none : (q : ℕ) → q < length (fields_of ts t v) → ⊥
    none q h = let z : length (fields_of ts t v) ≡ 0 = ap length bare in omega arith

    parts : PartsShow ts rows many t v no_parts (λ q. no_message)
    parts = record {
      small = subst (λ (w : ℕ). w < 16) (sym ev) is.small;
      fits = subst (λ (u : ℕ). v < length (variants_of ts u)) (sym e) (subst (λ (w : ℕ). w < length (variants_of ts is.type)) (sym ev) is.fits);
      three = refl;
      few = let z : length (fields_of ts t v) ≡ 0 = ap length bare in omega arith;
      there = λ q h. absurd (none q h);
      shows = λ q h. absurd (none q h);
      typed = λ q h. absurd (none q h);
      unused = λ q h. none-at q;
    }

    value : made t v (to_parts (map (λ q. no_message) (from (length (fields_of ts t v)) 0))) ≡ val c
    value =
        ap (λ (n : ℕ). made t v (to_parts (map (λ q. no_message) (from n 0)))) (ap length bare)
        ∙ ap (λ (u : ℕ). made u v nil) e ∙ ap (λ (w : ℕ). made is.type w nil) ev ∙ sym is.value

-- ---- one of the three

module _ (leaf : Leaf) (at : List ℕ) (rows : List ℤ) (many c : ℕ) (rows' : List ℤ) (many' r : ℕ) where
  abbrev x : Types → OpenState
  x ts = open_state ts leaf

  pub by_shape : (k : ℕ) → k < 30 → k ≡ lowest (is_shape leaf.shapes.slots leaf.state c) 30 → ShapeDrawn leaf at rows many k rows' many' r → FixedDrawn leaf at rows many c rows' many' r
  unfolding lowest
  by_shape k h e drew ts val drawn pic sheet want free lower =
      drew ts val drawn c (pic.shape c k want h (subst (λ (n : ℕ). is_shape leaf.shapes.slots leaf.state c n ≡ true) (sym e) (least_passes (is_shape leaf.shapes.slots leaf.state c) 30 (omega (arith, e, h))))) sheet lower

  pub by_constant : (k : ℕ) → k < 30 → k ≡ lowest (is_constant_of leaf.constants.sorts leaf.state.classes c) 30 → ConstantDrawn leaf rows many k rows' many' r → FixedDrawn leaf at rows many c rows' many' r
  unfolding constant_of
  by_constant k h e drew ts val drawn pic sheet want free lower =
      drew ts val drawn c (subst (ConstantIs (x ts) val c) (sym e) (pic.constant c want (subst (λ (n : ℕ). n < 30) e h))) sheet.store

  pub by_single : (y : Option ℕ) (n : ℕ) → n ≡ unwrap_or y 78 → Finds (is_single leaf.sorts.sorts leaf.sorts.fieldless leaf.state c) 78 y → lowest (is_shape leaf.shapes.slots leaf.state c) 30 ≡ 30
      → lowest (is_constant_of leaf.constants.sorts leaf.state.classes c) 30 ≡ 30 → SingleDrawn leaf rows many n rows' many' r → FixedDrawn leaf at rows many c rows' many' r
  unfolding is_free free_at marked shape_of constant_of single_of
  by_single y n en e no_shape no_constant drew ts val drawn pic sheet want free lower =
      drew ts val drawn c (subst (SingleIs (x ts) val c) (sym (en ∙ found_or (is_single leaf.sorts.sorts leaf.sorts.fieldless leaf.state c) 78 y e)) (pic.single c want found)) sheet.store
    where
      -- nothing else fixes the class, and it is not free
      found : single_of leaf.sorts.sorts leaf.sorts.fieldless leaf.state c < 78
      found = by_test (leb 78 (single_of leaf.sorts.sorts leaf.sorts.fieldless leaf.state c))
          (λ b. absurd (false≢true (sym free ∙ and_both (is_marked leaf.marks c) _ want.1 (and_both (leb 30 (shape_of leaf.shapes.slots leaf.state c)) _ (le-leb 30 _ (omega (arith, no_shape))) (and_both _ _ (le-leb 30 (constant_of leaf.constants.sorts leaf.state.classes c) (omega (arith, no_constant))) b)))))
          (λ b. leb-false _ _ b)

-- the lowest term of one fieldless variant alone is a term
pub single_below : (sorts fieldless : List ℕ) (s : State) (c : ℕ) (y : Option ℕ) → Finds (is_single sorts fieldless s c) 78 y → unwrap_or y 78 < 96
unfolding lowest
single_below sorts fieldless s c y e = omega (arith, found_or (is_single sorts fieldless s c) 78 y e, least_most (is_single sorts fieldless s c) 78)
