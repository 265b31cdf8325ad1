-- What each function draws: a variant over a row, steps of growth and rounds of a cycle. Assumes nothing.
use mathlib.Core.Path.{◌≡◌, refl, ap, sym, ◌∙◌, subst}
use mathlib.Core.List.{List, map}
use Prim.Native.Nat.{ℕ, zero, suc, ◌+◌, ◌*◌, ◌-◌, ◌≤◌, ◌<◌}
use native.Mathlib.Nat.{mul-le-mul}
use native.Mathlib.Omega.{arith}
use lib.IntN.{ℤ, pos}
use lib.ListN.{length, get_or}
use Rattle.guard.specs.Message.{Message, Message.made, no_message, to_parts}
use Rattle.guard.specs.Shown.{message_type}
use Rattle.guard.specs.Types.{Types, default_of, fields_of, variants_of}
use Rattle.guard.proofs.FiniteTypes.{variant-inside}
use Rattle.rowstore.specs.Store.{made_row, many_after, message_at, row_found, with_row}
use Rattle.growth.proofs.Grow.{fill, grow-add}
use Rattle.growth.proofs.Growth.{Cyclic, GrowsBy, chosen-inside, chosen_field, chosen_type, cyclic_growth, grow_from, growing_variant, next-less, next_type, period_of, wrap_in}
use Rattle.growth.proofs.Orbit.{iterate, iterate_add, iterate_less}
use Rattle.forms.specs.declared.Forms.{Forms}
use Rattle.forms.specs.Forms.{FormsFit, types_in}
use Rattle.drawnrows.specs.Drawing.{Drew, Given, Parted, Room, Store, Under, Under.here, parts_over}
use Rattle.drawnrows.proofs.DrawnLaws.{drew-after, drew_nothing, drew-room, drew-under, under_trans}
use Rattle.drawnrows.proofs.FillLaws.{fill_typed}
use Rattle.forms.proofs.FormLaws.{fields-three, growing-read, period-read, sort-inside, variant-small}
use Rattle.drawnrows.proofs.RowLaws.{drew-given, drew-made, none-before-given}
use Rattle.defaultrows.proofs.PartLaws.{parted_room}

-- ---- steps of growth

-- k steps of growth from type u that end in row `row` are drawn, and the row lies under what is drawn
abbrev pub Grew : Types → List ℤ → ℕ → List ℕ → ℕ → ℕ → ℕ → List ℤ → ℕ → List ℕ → ℕ → Type 0
Grew ts rows many drawn row k u rows' many' drawn' r = Drew ts rows many drawn k (grow_from ts k u (message_at ts rows many row)) rows' many' drawn' r × Under ts rows' r row

module _ (ts : Types) (rows : List ℤ) (many : ℕ) (drawn : List ℕ) (row : ℕ) where
  pub grew_nothing : (u : ℕ) → Store ts rows many drawn → row < many → Grew ts rows many drawn row 0 u rows many drawn row
  grew_nothing u s h = (drew_nothing ts rows many drawn row (message_at ts rows many row) s h refl, here)

  -- the number of steps and the type, by equations
  pub grew_is : (k k' u u' : ℕ) (rows' : List ℤ) (many' : ℕ) (drawn' : List ℕ) (r : ℕ) → k ≡ k' → u ≡ u' → Grew ts rows many drawn row k u rows' many' drawn' r → Grew ts rows many drawn row k' u' rows' many' drawn' r
  grew_is k k' u u' rows' many' drawn' r e d g =
      subst (λ (x : ℕ). Grew ts rows many drawn row k' x rows' many' drawn' r) d (subst (λ (j : ℕ). Grew ts rows many drawn row j u rows' many' drawn' r) e g)

  -- l steps from type w on top of k steps from the type that these lead to
  pub grew_after : (k l w : ℕ) (rows' : List ℤ) (many' : ℕ) (drawn' : List ℕ) (at : ℕ) → Grew ts rows many drawn row k (iterate (next_type ts) l w) rows' many' drawn' at
      → (rows'' : List ℤ) (many'' : ℕ) (drawn'' : List ℕ) (r : ℕ) → Drew ts rows' many' drawn' l (grow_from ts l w (message_at ts rows' many' at)) rows'' many'' drawn'' r → Under ts rows'' r at
      → Grew ts rows many drawn row (l + k) w rows'' many'' drawn'' r
  grew_after k l w rows' many' drawn' at (d, u) rows'' many'' drawn'' r d' u' =
      let m : Message = message_at ts rows many row in
      let whole : grow_from ts l w (message_at ts rows' many' at) ≡ grow_from ts (l + k) w m =
      ap (grow_from ts l w) d.message ∙ sym (grow-add (chosen_field ts) (fields_of ts) (default_of ts) (growing_variant ts) l k w m) in
      let sum : k + l ≡ l + k = omega arith in (
        subst (λ (j : ℕ). Drew ts rows many drawn j (grow_from ts (l + k) w m) rows'' many'' drawn'' r) sum
            (subst (λ (n : Message). Drew ts rows many drawn (k + l) n rows'' many'' drawn'' r) whole (drew-after d d' u')),
        under_trans u' (drew-under d' d.store.stored at row d.there u),
      )

  -- what is drawn is of the type
  pub grew_type : (k u : ℕ) (rows' : List ℤ) (many' : ℕ) (drawn' : List ℕ) (r : ℕ) → Grew ts rows many drawn row k u rows' many' drawn' r → (k ≡ 0 → message_type (message_at ts rows many row) ≡ u) → message_type (message_at ts rows' many' r) ≡ u
  grew_type k u rows' many' drawn' r (d, _) e = ap message_type d.message ∙ go k e
    where
      go : (k : ℕ) → (k ≡ 0 → message_type (message_at ts rows many row) ≡ u) → message_type (grow_from ts k u (message_at ts rows many row)) ≡ u
      go zero e = e refl
      go (suc k) e = refl

module _ (ts : Types) where
  -- each step is by a variant with fields
  pub grows_at : (n j t : ℕ) → j < n → GrowsBy ts n t → 0 < length (fields_of ts (iterate (next_type ts) j t) (growing_variant ts (iterate (next_type ts) j t)))
  grows_at zero j t h g = absurd (omega arith)
  grows_at (suc n) zero t h g = g.0
  grows_at (suc n) (suc j) t h g = grows_at n j (next_type ts t) (omega arith) g.1

  pub step_on : (j t : ℕ) → 0 < j → next_type ts (iterate (next_type ts) (j - 1) t) ≡ iterate (next_type ts) j t
  step_on j t h = let e : (j - 1) + 1 ≡ j = omega arith in sym (iterate_add (next_type ts) (j - 1) 1 t) ∙ ap (λ (k : ℕ). iterate (next_type ts) k t) e

-- ---- by the forms

module _ (forms : Forms) (fit : FormsFit forms) where
  abbrev ts : Types
  ts = types_in forms

  -- ---- a variant over a row

  module _ (t v : ℕ) (h : t < length ts) (l : v < length (variants_of ts t)) (fields : 0 < length (fields_of ts t v))
      (rows : List ℤ) (many : ℕ) (drawn : List ℕ) (store : Store ts rows many drawn) (room : Room rows many drawn 1)
      (row : ℕ) (low : row < many) (typed : message_type (message_at ts rows many row) ≡ chosen_type ts t v) (c : ℕ) (is_c : c ≡ chosen_field ts t v) where
    pub wrap_room : Room rows many drawn 0
    wrap_room = record { few = omega (arith, room.few); long = omega (arith, room.long) }

    there : c < length (fields_of ts t v)
    there = omega (arith, chosen-inside ts fit.accepted t v fields)

    type-is : message_type (message_at ts rows many row) ≡ get_or (fields_of ts t v) c 0
    type-is = typed ∙ ap (λ (k : ℕ). get_or (fields_of ts t v) k 0) (sym is_c)

    pub wrap_given : Given ts rows many (fields_of ts t v) c row
    wrap_given _ = (low, type-is)

    module _ (ps : List ℕ) (rows' : List ℤ) (many' : ℕ) (drawn' : List ℕ) (parted : Parted ts (fields_of ts t v) c row rows many drawn (length (fields_of ts t v)) ps rows' many' drawn') where
      wrap_left : Room rows' many' drawn' 1
      wrap_left = parted_room ts (fields_of ts t v) c row rows many drawn (length (fields_of ts t v)) ps rows' many' drawn' parted 1 room

      pub wrap_few : many' < 4096
      wrap_few = omega (arith, wrap_left.few)

      pub wrap_long : 4 * many' + 4 ≤ length rows'
      wrap_long = omega (arith, wrap_left.long)

      module _ (r : ℕ) (rows'' : List ℤ) (many'' : ℕ) (found : r ≡ row_found rows' (row + 1) many' (made_row t v (map pos ps))) (with_it : rows'' ≡ with_row rows' many' r (made_row t v (map pos ps))) (now : many'' ≡ many_after many' r) where
        types : (q : ℕ) → q < length (fields_of ts t v) → message_type (get_or (parts_over ts rows many (fields_of ts t v) c row) q no_message) ≡ get_or (fields_of ts t v) q 0
        types = fill_typed ts fit.accepted (fields_of ts t v) (sort-inside forms fit t v) c (message_at ts rows many row) (λ _. type-is)

        pub wrap_drew : Drew ts rows many drawn 1 (wrap_in ts t v (message_at ts rows many row)) rows'' many'' drawn' r
        wrap_drew =
            subst (λ (k : ℕ). Drew ts rows many drawn 1 (made t v (to_parts (fill (default_of ts) (fields_of ts t v) k (message_at ts rows many row)))) rows'' many'' drawn' r) is_c
            (drew-made ts t v c row rows many drawn ps rows' many' drawn' parted (fields-three forms fit t v) (variant-small forms fit t v h l) l types wrap_long (row + 1)
            (none-before-given ts t v c row rows many drawn ps rows' many' drawn' parted (fields-three forms fit t v) (variant-small forms fit t v h l) l types there) r rows'' many'' found with_it now)

        pub wrap_under : Under ts rows'' r row
        wrap_under =
            drew-given ts t v c row rows many drawn ps rows' many' drawn' parted (fields-three forms fit t v) (variant-small forms fit t v h l) l types wrap_long (row + 1)
            (none-before-given ts t v c row rows many drawn ps rows' many' drawn' parted (fields-three forms fit t v) (variant-small forms fit t v h l) l types there) r rows'' many'' found with_it now there

  -- one step more, before those that are drawn
  module _ (t : ℕ) (h : t < length ts) (steps : ℕ) (grows : GrowsBy ts steps t)
      (rows : List ℤ) (many : ℕ) (drawn : List ℕ) (room : Room rows many drawn steps) (row : ℕ) (typed : message_type (message_at ts rows many row) ≡ iterate (next_type ts) steps t)
      (left : ℕ) (some : 0 < left) (most : left ≤ steps) (rows' : List ℤ) (many' : ℕ) (drawn' : List ℕ) (at : ℕ)
      (g : Grew ts rows many drawn row (steps - left) (iterate (next_type ts) left t) rows' many' drawn' at) (u : ℕ) (is_u : u ≡ iterate (next_type ts) (left - 1) t) where
    abbrev growing : ℕ
    growing = get_or forms.growth.growing u 0

    pub step_type : u < length ts
    step_type = omega (arith, is_u, iterate_less (next_type ts) (length ts) (next-less ts fit.accepted) (left - 1) t h)

    growing-is : growing ≡ growing_variant ts u
    growing-is = growing-read forms fit u step_type

    pub step_fields : 0 < length (fields_of ts u growing)
    step_fields =
        subst (λ (v : ℕ). 0 < length (fields_of ts u v)) (sym growing-is)
        (subst (λ (w : ℕ). 0 < length (fields_of ts w (growing_variant ts w))) (sym is_u) (grows_at ts steps (left - 1) t (omega arith) grows))

    pub step_variant : growing < length (variants_of ts u)
    step_variant = variant-inside ts u growing step_fields

    pub step_room : Room rows' many' drawn' 1
    step_room = drew-room g.0 1 (record { few = omega (arith, room.few); long = omega (arith, room.long) })

    onward_is : iterate (next_type ts) left t ≡ next_type ts u
    onward_is = sym (step_on ts left t some) ∙ ap (next_type ts) (sym is_u)

    pub step_chosen : message_type (message_at ts rows' many' at) ≡ chosen_type ts u growing
    step_chosen =
        grew_type ts rows many drawn row (steps - left) (iterate (next_type ts) left t) rows' many' drawn' at g
        (λ e. let all : left ≡ steps = omega arith in typed ∙ ap (λ (k : ℕ). iterate (next_type ts) k t) (sym all))
        ∙ onward_is ∙ ap (chosen_type ts u) (sym growing-is)

    pub step_drew : (rows'' : List ℤ) (many'' : ℕ) (drawn'' : List ℕ) (r : ℕ) → Drew ts rows' many' drawn' 1 (wrap_in ts u growing (message_at ts rows' many' at)) rows'' many'' drawn'' r → Under ts rows'' r at
        → Grew ts rows many drawn row (steps - (left - 1)) (iterate (next_type ts) (left - 1) t) rows'' many'' drawn'' r
    step_drew rows'' many'' drawn'' r d b =
        grew_is ts rows many drawn row (1 + (steps - left)) (steps - (left - 1)) u (iterate (next_type ts) (left - 1) t) rows'' many'' drawn'' r (omega arith) is_u
        (grew_after ts rows many drawn row (steps - left) 1 u rows' many' drawn' at
        (grew_is ts rows many drawn row (steps - left) (steps - left) (iterate (next_type ts) left t) (next_type ts u) rows' many' drawn' at refl onward_is g) rows'' many'' drawn'' r
        (subst (λ (v : ℕ). Drew ts rows' many' drawn' 1 (wrap_in ts u v (message_at ts rows' many' at)) rows'' many'' drawn'' r) growing-is d) b)

  -- ---- rounds of a cycle

  module _ (t : ℕ) (h : t < length ts) (cyclic : Cyclic ts t) (back : iterate (next_type ts) (period_of ts t) t ≡ t) (turns : ℕ)
      (rows : List ℤ) (many : ℕ) (drawn : List ℕ) (room : Room rows many drawn (turns * period_of ts t)) (row : ℕ) (typed : message_type (message_at ts rows many row) ≡ t)
      (k : ℕ) (below : k < turns) (rows' : List ℤ) (many' : ℕ) (drawn' : List ℕ) (at : ℕ) (g : Grew ts rows many drawn row (k * period_of ts t) t rows' many' drawn' at) where
    abbrev long : ℕ
    long = period_of ts t

    abbrev turn : ℕ
    turn = get_or forms.growth.period t 0

    turn_is : turn ≡ long
    turn_is = period-read forms fit t h

    pub round_room : Room rows' many' drawn' turn
    round_room =
        let most : suc k * long ≤ turns * long = mul-le-mul {n₁ = suc k} {m₁ = long} {n₂ = turns} {m₂ = long} (omega arith) (omega arith) in
        let next : suc k * long ≡ k * long + turn = omega (arith, turn_is) in
        drew-room g.0 turn (record { few = omega (arith, room.few, most, next); long = omega (arith, room.long, most, next) })

    pub round_grows : GrowsBy ts turn t
    round_grows = cyclic_growth ts fit.accepted turn t cyclic

    pub round_type : message_type (message_at ts rows' many' at) ≡ iterate (next_type ts) turn t
    round_type = grew_type ts rows many drawn row (k * long) t rows' many' drawn' at g (λ e. typed) ∙ sym back ∙ ap (λ (n : ℕ). iterate (next_type ts) n t) (sym turn_is)

    pub round_drew : (rows'' : List ℤ) (many'' : ℕ) (drawn'' : List ℕ) (r : ℕ) → Drew ts rows' many' drawn' turn (grow_from ts turn t (message_at ts rows' many' at)) rows'' many'' drawn'' r → Under ts rows'' r at
        → Grew ts rows many drawn row ((k + 1) * long) t rows'' many'' drawn'' r
    round_drew rows'' many'' drawn'' r d u =
        grew_is ts rows many drawn row (long + k * long) ((k + 1) * long) t t rows'' many'' drawn'' r (omega arith) refl
        (grew_after ts rows many drawn row (k * long) long t rows' many' drawn' at
        (grew_is ts rows many drawn row (k * long) (k * long) t (iterate (next_type ts) long t) rows' many' drawn' at refl (sym back) g) rows'' many'' drawn'' r
        (subst (λ (n : ℕ). Drew ts rows' many' drawn' n (grow_from ts n t (message_at ts rows' many' at)) rows'' many'' drawn'' r) turn_is d) u)
